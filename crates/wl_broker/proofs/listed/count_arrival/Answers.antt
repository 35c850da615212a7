use Rattle.std.proofs.Common.{ℕ, Option, sym, ◌∙◌, subst}
use Rattle.std.proofs.Common.{◌≡◌, ◌-◌}
use Rattle.wl_draft.specs.Tables.{at}
use Rattle.wl_draft.proofs.TableLemmas.{insert_entry-put, lookup-find}
use Rattle.wl_broker.specs.BrokerInvariant.{one_at}
use Rattle.wl_broker.proofs.SettledLocks.{either_way}
use Rattle.wl_broker.proofs.Missing.{counted_down, none_counted}
use Rattle.wl_broker.proofs.listed.count_arrival.Goals as goal

pub returns-in-Some : goal.returns-in-Some
returns-in-Some c =
    let es = c.args.missing.now.entries in
    let q = c.in-Some.partition in
    let put = insert_entry-put q c.missing_without-count.result es in
    subst (λ (o : Option ℕ). (p : ℕ) → at 0 c.insert.new.self.entries p ≡ at 0 es p - one_at o p) (sym c.in-Some.is)
    (either_way c.insert.result c.insert.ensures.entries c.insert.ensures.err
    (λ e. counted_down q es _ _ c.missing_without-count.ensures (e ∙ put))
    (λ same. either_way c.insert.result c.insert.ensures.entries c.insert.ensures.absent
    (λ e. counted_down q es _ _ c.missing_without-count.ensures (e ∙ put))
    (λ absent. none_counted q es _ (sym (lookup-find es q) ∙ absent) same)))
