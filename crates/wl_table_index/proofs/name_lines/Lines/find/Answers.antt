use Rattle.std.proofs.Common.{◌≡◌, ◌∙◌, ℕ, List, IfSome, subst, sym, ap}
use Rattle.std.specs.Prelude.{bytes_eq, is_some, slice_get}
use Rattle.std.specs.String.{string_bytes}
use Rattle.std.specs.HashMap.{get_by_text}
use Rattle.indexmap.specs.IndexMap.{values}
use Rattle.indexmap.proofs.MapLemmas.{Found-position, some_index}
use Rattle.wl_table_index.proofs.name_lines.Lines.find.Goals as goal

pub returns-then-is_at-clause-found : goal.returns-then-is_at-clause-found
returns-then-is_at-clause-found c =
    let es = c.args.self.now.lines.entries in
    let name = c.args.name.now in
    ap (λ o. is_some o) (sym (c.is_at.ensures c.if-is_at.true)) ∙ some_index (λ k. bytes_eq name (string_bytes k)) es

pub returns-then-is_at-clause-within : goal.returns-then-is_at-clause-within
returns-then-is_at-clause-within c =
    (Found-position (λ k. bytes_eq c.args.name.now (string_bytes k)) c.args.self.now.lines.entries c.args.place (c.is_at.ensures c.if-is_at.true)).within

pub returns-then-is_at-clause-value : goal.returns-then-is_at-clause-value
returns-then-is_at-clause-value c =
    sym (Found-position (λ k. bytes_eq c.args.name.now (string_bytes k)) c.args.self.now.lines.entries c.args.place (c.is_at.ensures c.if-is_at.true)).value

pub returns-else-is_at-clause-value : goal.returns-else-is_at-clause-value
returns-else-is_at-clause-value c =
    let ls = c.args.self.now.lines in
    let P : List ℕ → Type 0 = λ q. IfSome c.get_index_of.result (λ i. slice_get (values ls) i ≡ get_by_text ls q) in
    subst P c.as_str.ensures.value c.get_index_of.ensures.value
