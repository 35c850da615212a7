use Rattle.std.proofs.Common.{◌∙◌}
use Rattle.wl_draft.proofs.TableLemmas.{lookup-find}
use Rattle.wl_broker.proofs.seats.seat_of.Goals as goal

pub returns : goal.returns
returns c = c.copied.ensures ∙ c.get.ensures.value ∙ lookup-find c.args.seats.now.entries c.args.tab
