-- Lean indexes, which store only names and clients of entries.
use Rattle.std.proofs.Common.{◌≡◌, ℕ, ◌+◌, ◌≤◌, Bool, true, false, ◌&&◌, ◌||◌, not, List, [], ◌∷◌, Option, Some, None, length, refl, sym, ap, ◌∙◌, arith}
use Rattle.std.specs.Prelude.{◌==◌, bytes_eq, count_by, nat_eq, IsSome}
use Rattle.std.specs.HashMap.{get, get_by_text}
use Rattle.std.specs.Option.{option_map_or}
use Rattle.std.proofs.lemmas.Bool.Decides.{nat_tests}
use Rattle.wl_draft.specs.declared.mode.Mode.{Mode}
use Rattle.wl_draft.specs.declared.mode.Mode.TheVariants.{Shared, Exclusive}
use Rattle.wl_draft.specs.declared.row.Row.{Row}
use Rattle.wl_draft.specs.Tables.{Table}
use Rattle.wl_draft.specs.Locks.{is_named}
use Rattle.wl_table_index.specs.OrderNumbers.{values_in}
use Rattle.wl_table_index.specs.NameLines.{nobody, line_seen, is_nobody}
use Rattle.wl_table_index.specs.Index.{IsIndexed, IsLean, KeepsNoOthers, line_of, is_shared, is_exclusive}
use Rattle.wl_table_index.specs.declared.index.Index.{Index}
use Rattle.wl_table_index.specs.declared.name_line.NameLine.{NameLine}
use Rattle.wl_table_index.specs.declared.holdings.Holdings.{Holdings}
use Rattle.wl_table_index.proofs.IndexLemmas.{named-queue, count-cons, live-counts}

named-held_step : (name : List ℕ) (p : ℕ × Row) (ps : Table Row) (mode : Mode) → p.1.mode ≡ mode → is_named name (values_in ps) ≡ not (count_by (λ (q : ℕ × Row). bytes_eq q.1.name name && is_shared q.1.mode) ps == 0 && count_by (λ (q : ℕ × Row). bytes_eq q.1.name name && is_exclusive q.1.mode) ps == 0) → is_named name (values_in (p ∷ ps)) ≡ not (count_by (λ (q : ℕ × Row). bytes_eq q.1.name name && is_shared q.1.mode) (p ∷ ps) == 0 && count_by (λ (q : ℕ × Row). bytes_eq q.1.name name && is_exclusive q.1.mode) (p ∷ ps) == 0)
named-held_step name p ps Shared e below =
    grind (arith, nat_tests, count-cons (λ (q : ℕ × Row). bytes_eq q.1.name name && is_exclusive q.1.mode) p ps, count-cons (λ (q : ℕ × Row). bytes_eq q.1.name name && is_shared q.1.mode) p ps)
named-held_step name p ps Exclusive e below =
    grind (arith, nat_tests, count-cons (λ (q : ℕ × Row). bytes_eq q.1.name name && is_exclusive q.1.mode) p ps, count-cons (λ (q : ℕ × Row). bytes_eq q.1.name name && is_shared q.1.mode) p ps)

named-held : (name : List ℕ) (rows : Table Row) → is_named name (values_in rows) ≡ not (count_by (λ (q : ℕ × Row). bytes_eq q.1.name name && is_shared q.1.mode) rows == 0 && count_by (λ (q : ℕ × Row). bytes_eq q.1.name name && is_exclusive q.1.mode) rows == 0)
named-held name [] = refl
named-held name (p ∷ ps) = named-held_step name p ps p.1.mode refl (named-held name ps)

used_step : (q s x h w : Bool) → (q && s && x) ≡ false → h ≡ not (s && x) → w ≡ not q → (h || w) ≡ true
used_step q s x h w e f g = grind arith

named-used : (name : List ℕ) (held waiting : Table Row) → is_nobody (line_of name held waiting) ≡ false → (is_named name (values_in held) || is_named name (values_in waiting)) ≡ true
named-used name held waiting e = used_step _ _ _ _ _ e (named-held name held) (named-queue name waiting)

no : (b : Bool) → (b ≡ true → false ≡ true) → b ≡ false
no true f = sym (f refl)
no false f = refl

line-used : (o : Option NameLine) → IsSome o → (option_map_or (λ l. is_nobody (line_seen l)) o false ≡ true → false ≡ true) → is_nobody (option_map_or line_seen o nobody) ≡ false
line-used None e f = cc
line-used (Some l) e f = no _ f

count-used : (o : Option Holdings) → IsSome o → (option_map_or (λ h. h.count == 0) o false ≡ true → false ≡ true) → 1 ≤ option_map_or (λ h. h.count) o 0
count-used None e f = cc
count-used (Some h) e f =
    let used : (h.count == 0) ≡ false = no _ f in
    grind (arith, nat_tests)

pub lean-used : (t : Index) → IsIndexed t → IsLean t → KeepsNoOthers t
lean-used t i l = record {
  names = λ name h. named-used name t.held.items t.waiting.items (ap (λ s. is_nobody s) (sym (i.lines name)) ∙ line-used (get_by_text t.lines.lines name) h (l.names name));
  clients = λ client h.
      let n = count-used (get nat_eq t.clients.clients client) h (l.clients client) in
      rw (live-counts t.held.items t.waiting.items client, ← i.counts client) n;
}
