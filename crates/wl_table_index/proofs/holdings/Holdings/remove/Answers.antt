use Rattle.std.proofs.Common.{rules, ◌≡◌, ◌∙◌, ◌||◌, filter, sym, ap}
use Rattle.std.specs.Prelude.{nat_eq}
use Rattle.std.specs.HashMap.{get}
use Rattle.std.proofs.lemmas.Fn.{filter_same}
use Rattle.wl_table_index.specs.Clients.{is_latest, is_further}
use Rattle.wl_table_index.proofs.HoldingLemmas.{is_kept, removed-latest, removed-kept, same-latest}
use Rattle.wl_table_index.proofs.holdings.Holdings.remove.Goals as goal

pub returns-then-is_at-clause-places : goal.returns-then-is_at-clause-places
returns-then-is_at-clause-places c = λ n o b.
    let number = c.args.number in
    let p = c.args.place in
    let old = c.args.self.now in
    let kept : c.retain.new.self.items ≡ filter (is_kept number p) old.further.items = filter_same _ (is_kept number p) _ (λ x b f' k. search rules) _ _ c.retain.ensures.filtered in
    ap (λ fs. is_latest (get nat_eq c.swap_remove.new.self n) o b || is_further fs n o b) kept ∙ removed-latest number n o b p c.in-Some.latest.now (get nat_eq old.places n) (get nat_eq c.swap_remove.new.self n) old.further.items (c.swap_remove.ensures.updates.0 n) (λ e. same-latest (get nat_eq old.places) number n e ∙ sym c.in-Some.ensures.value) (sym c.is_at.ensures ∙ c.if-is_at.true)

pub returns-else-is_at-clause-places : goal.returns-else-is_at-clause-places
returns-else-is_at-clause-places c = λ n o b.
    let number = c.args.number in
    let p = c.args.place in
    let old = c.args.self.now in
    let kept : c.retain.new.self.items ≡ filter (is_kept number p) old.further.items = filter_same _ (is_kept number p) _ (λ x b f' k. search rules) _ _ c.retain.ensures.filtered in
    ap (λ fs. is_latest (get nat_eq old.places n) o b || is_further fs n o b) kept ∙ removed-kept number n o b p (get nat_eq old.places n) old.further.items (λ e. ap (λ q. is_latest q p.order p.is_held) (same-latest (get nat_eq old.places) number n e ∙ sym c.in-Some.ensures.value) ∙ sym c.is_at.ensures ∙ c.if-is_at.false)

pub returns-in-None-clause-places : goal.returns-in-None-clause-places
returns-in-None-clause-places c = λ n o b.
    let number = c.args.number in
    let p = c.args.place in
    let old = c.args.self.now in
    let kept : c.retain.new.self.items ≡ filter (is_kept number p) old.further.items = filter_same _ (is_kept number p) _ (λ x b f' k. search rules) _ _ c.retain.ensures.filtered in
    ap (λ fs. is_latest (get nat_eq old.places n) o b || is_further fs n o b) kept ∙ removed-kept number n o b p (get nat_eq old.places n) old.further.items (λ e. ap (λ q. is_latest q p.order p.is_held) (same-latest (get nat_eq old.places) number n e ∙ sym c.in-None.ensures.value))
