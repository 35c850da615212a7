use Rattle.std.proofs.Common.{is_some, sym, ap, ◌∙◌}
use Rattle.std.proofs.lemmas.Bool.{false≢true}
use Rattle.wl_draft.proofs.TableLemmas.{insert_entry-put, lookup-find}
use Rattle.wl_broker.proofs.SettledLocks.{either_way}
use Rattle.wl_broker.proofs.seats.set_seat.Goals as goal

pub returns : goal.returns
returns c =
    let es = c.args.seats.now.entries in
    either_way c.insert.result c.insert.ensures.entries c.insert.ensures.absent
    (λ e. e ∙ insert_entry-put c.args.tab c.args.seat es)
    (λ e. absurd (false≢true (sym (ap is_some (sym (lookup-find es c.args.tab) ∙ e)) ∙ c.requires)))
