use Rattle.std.proofs.Common.{rules, ◌≡◌, ◌≤◌, ◌∙◌, Option, Result, Ok, Err, Some, OnOk, IsSome, Bool, false, cond, subst, sym, ap, arith}
use Rattle.std.specs.Prelude.{bytes_eq, position}
use Rattle.std.specs.String.{string_bytes}
use Rattle.std.specs.Map.{lookup, keys_of}
use Rattle.wl_table_index.specs.NameLines.{nobody, line_seen, line_room, is_nobody}
use Rattle.wl_table_index.proofs.LineLemmas.{lookup-written, lookup-there, same-written, room-kept, there-written}
use Rattle.std.specs.Option.{option_map_or}
use Rattle.wl_table_index.specs.declared.name_line.NameLine.{NameLine}
use Rattle.wl_table_index.proofs.NextLemmas.{text-self}
use Rattle.wl_table_index.proofs.name_lines.Lines.reserve.Goals as goal

pub returns-in-Some-clause-lines : goal.returns-in-Some-clause-lines
returns-in-Some-clause-lines c = λ n.
    let name = c.args.name.now in
    let es = c.open.new.self.lines.entries in
    let l = c.index_mut.result.now in
    let w = c.reserve.new.self in
    let v : lookup (λ k. bytes_eq name (string_bytes k)) es ≡ Some l = sym c.in-Some.ensures.value ∙ c.index_mut.ensures.value in
    let at : position (λ k. bytes_eq name (string_bytes k)) (keys_of es) ≡ Some c.in-Some.index = sym c.in-Some.ensures.index in
    let new = lookup-written string_bytes name es c.in-Some.index w at n in
    let old = lookup-there string_bytes name es l v n in
    same-written (bytes_eq name n) _ _ l w new old line_seen nobody c.reserve.ensures.seen ∙ c.open.ensures.lines n

pub returns-in-Some-clause-kept : goal.returns-in-Some-clause-kept
returns-in-Some-clause-kept c = λ n.
    let name = c.args.name.now in
    let es = c.open.new.self.lines.entries in
    let l = c.index_mut.result.now in
    let w = c.reserve.new.self in
    let v : lookup (λ k. bytes_eq name (string_bytes k)) es ≡ Some l = sym c.in-Some.ensures.value ∙ c.index_mut.ensures.value in
    let at : position (λ k. bytes_eq name (string_bytes k)) (keys_of es) ≡ Some c.in-Some.index = sym c.in-Some.ensures.index in
    let new = lookup-written string_bytes name es c.in-Some.index w at n in
    let old = lookup-there string_bytes name es l v n in
    let e = room-kept (bytes_eq name n) _ _ l w new old line_room c.reserve.ensures.kept in
    omega (arith, e, c.open.ensures.kept n)

pub returns-in-Some-clause-kept_lines : goal.returns-in-Some-clause-kept_lines
returns-in-Some-clause-kept_lines c = λ n h.
    let name = c.args.name.now in
    let es = c.open.new.self.lines.entries in
    let l = c.index_mut.result.now in
    let w = c.reserve.new.self in
    let v : lookup (λ k. bytes_eq name (string_bytes k)) es ≡ Some l = sym c.in-Some.ensures.value ∙ c.index_mut.ensures.value in
    let at : position (λ k. bytes_eq name (string_bytes k)) (keys_of es) ≡ Some c.in-Some.index = sym c.in-Some.ensures.index in
    let new = lookup-written string_bytes name es c.in-Some.index w at n in
    let old = lookup-there string_bytes name es l v n in
    there-written (bytes_eq name n) _ _ l w new old (c.open.ensures.kept_lines n h)

pub returns-in-Some-clause-idle : goal.returns-in-Some-clause-idle
returns-in-Some-clause-idle c = λ n h.
    let name = c.args.name.now in
    let es = c.open.new.self.lines.entries in
    let l = c.index_mut.result.now in
    let w = c.reserve.new.self in
    let v : lookup (λ k. bytes_eq name (string_bytes k)) es ≡ Some l = sym c.in-Some.ensures.value ∙ c.index_mut.ensures.value in
    let at : position (λ k. bytes_eq name (string_bytes k)) (keys_of es) ≡ Some c.in-Some.index = sym c.in-Some.ensures.index in
    let new = lookup-written string_bytes name es c.in-Some.index w at n in
    let old = lookup-there string_bytes name es l v n in
    let e = same-written (bytes_eq name n) _ _ l w new old (λ x. is_nobody (line_seen x)) false (ap (λ s. is_nobody s) c.reserve.ensures.seen) in
    c.open.ensures.idle n (sym e ∙ h)

always : {T E : Type 0} {P : Type 0} (r : Result T E) → P → OnOk r P
always (Ok x) p = p
always (Err e) p = tt

pub returns-in-Some-clause-room : goal.returns-in-Some-clause-room
returns-in-Some-clause-room c =
    let name = c.args.name.now in
    let es = c.open.new.self.lines.entries in
    let l = c.index_mut.result.now in
    let w = c.reserve.new.self in
    let at : position (λ k. bytes_eq name (string_bytes k)) (keys_of es) ≡ Some c.in-Some.index = sym c.in-Some.ensures.index in
    let new = lookup-written string_bytes name es c.in-Some.index w at name ∙ ap (λ (b : Bool). cond b (Some w) (lookup (λ k. bytes_eq name (string_bytes k)) es)) (text-self name) in
    let P : Option NameLine → Type 0 = λ o. OnOk c.reserve.result (c.args.count ≤ option_map_or line_room o 0) in
    subst P (sym new) c.reserve.ensures.room

pub returns-in-Some-clause-there : goal.returns-in-Some-clause-there
returns-in-Some-clause-there c =
    let name = c.args.name.now in
    let es = c.open.new.self.lines.entries in
    let l = c.index_mut.result.now in
    let w = c.reserve.new.self in
    let at : position (λ k. bytes_eq name (string_bytes k)) (keys_of es) ≡ Some c.in-Some.index = sym c.in-Some.ensures.index in
    let new = lookup-written string_bytes name es c.in-Some.index w at name ∙ ap (λ (b : Bool). cond b (Some w) (lookup (λ k. bytes_eq name (string_bytes k)) es)) (text-self name) in
    let P : Option NameLine → Type 0 = λ o. OnOk c.reserve.result (IsSome o) in
    subst P (sym new) (always c.reserve.result (search rules))
