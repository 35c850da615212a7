use Rattle.std.proofs.Common.{◌≡◌, ◌∙◌, Some, sym, ap}
use Rattle.std.specs.Prelude.{bytes_eq, position}
use Rattle.std.specs.String.{string_bytes}
use Rattle.std.specs.Map.{lookup, keys_of}
use Rattle.wl_table_index.specs.NameLines.{nobody, line_seen, line_room, is_nobody, with_holder}
use Rattle.wl_table_index.proofs.LineLemmas.{lookup-written, lookup-there, step-written, same-written, there-written, filled-written}
use Rattle.wl_table_index.proofs.LeanLemmas.{holder-somebody}
use Rattle.wl_table_index.proofs.name_lines.Lines.hold.Goals as goal

pub hold-requires : goal.hold-requires
hold-requires c =
    let name = c.args.name.now in
    let l = c.index_mut.result.now in
    let v : lookup (λ k. bytes_eq name (string_bytes k)) c.args.self.now.lines.entries ≡ Some l = sym c.in-Some.ensures.value ∙ c.index_mut.ensures.value in
    rw v at c.requires.small

pub returns-in-Some-clause-lines : goal.returns-in-Some-clause-lines
returns-in-Some-clause-lines c = λ n.
    let name = c.args.name.now in
    let es = c.args.self.now.lines.entries in
    let l = c.index_mut.result.now in
    let w = c.hold.new.self in
    let v : lookup (λ k. bytes_eq name (string_bytes k)) es ≡ Some l = sym c.in-Some.ensures.value ∙ c.index_mut.ensures.value in
    let at : position (λ k. bytes_eq name (string_bytes k)) (keys_of es) ≡ Some c.in-Some.index = sym c.in-Some.ensures.index in
    let new = lookup-written string_bytes name es c.in-Some.index w at n in
    let old = lookup-there string_bytes name es l v n in
    step-written (bytes_eq name n) _ _ l w new old line_seen nobody (λ s. with_holder s c.args.mode) c.hold.ensures.seen

pub returns-in-Some-clause-room : goal.returns-in-Some-clause-room
returns-in-Some-clause-room c = λ n.
    let name = c.args.name.now in
    let es = c.args.self.now.lines.entries in
    let l = c.index_mut.result.now in
    let w = c.hold.new.self in
    let v : lookup (λ k. bytes_eq name (string_bytes k)) es ≡ Some l = sym c.in-Some.ensures.value ∙ c.index_mut.ensures.value in
    let at : position (λ k. bytes_eq name (string_bytes k)) (keys_of es) ≡ Some c.in-Some.index = sym c.in-Some.ensures.index in
    let new = lookup-written string_bytes name es c.in-Some.index w at n in
    let old = lookup-there string_bytes name es l v n in
    same-written (bytes_eq name n) _ _ l w new old line_room 0 c.hold.ensures.room

pub returns-in-Some-clause-kept : goal.returns-in-Some-clause-kept
returns-in-Some-clause-kept c = λ n h.
    let name = c.args.name.now in
    let es = c.args.self.now.lines.entries in
    let l = c.index_mut.result.now in
    let w = c.hold.new.self in
    let v : lookup (λ k. bytes_eq name (string_bytes k)) es ≡ Some l = sym c.in-Some.ensures.value ∙ c.index_mut.ensures.value in
    let at : position (λ k. bytes_eq name (string_bytes k)) (keys_of es) ≡ Some c.in-Some.index = sym c.in-Some.ensures.index in
    let new = lookup-written string_bytes name es c.in-Some.index w at n in
    let old = lookup-there string_bytes name es l v n in
    there-written (bytes_eq name n) _ _ l w new old h

pub returns-in-Some-clause-idle : goal.returns-in-Some-clause-idle
returns-in-Some-clause-idle c = λ n.
    let name = c.args.name.now in
    let es = c.args.self.now.lines.entries in
    let l = c.index_mut.result.now in
    let w = c.hold.new.self in
    let v : lookup (λ k. bytes_eq name (string_bytes k)) es ≡ Some l = sym c.in-Some.ensures.value ∙ c.index_mut.ensures.value in
    let at : position (λ k. bytes_eq name (string_bytes k)) (keys_of es) ≡ Some c.in-Some.index = sym c.in-Some.ensures.index in
    let new = lookup-written string_bytes name es c.in-Some.index w at n in
    let old = lookup-there string_bytes name es l v n in
    filled-written (bytes_eq name n) _ _ l w new old (λ x. is_nobody (line_seen x)) (ap (λ s. is_nobody s) c.hold.ensures.seen ∙ holder-somebody (line_seen l) c.args.mode)
