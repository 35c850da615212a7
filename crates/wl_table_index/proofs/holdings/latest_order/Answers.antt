use Rattle.std.proofs.Common.{◌∙◌, sym}
use Rattle.wl_table_index.proofs.HoldingLemmas.{least-latest, least-other}
use Rattle.wl_table_index.proofs.holdings.latest_order.Goals as goal

pub returns-then-is_in : goal.returns-then-is_in
returns-then-is_in c = rw c.in-Some.is (least-latest c.in-Some.place c.args.is_held (sym c.is_in.ensures ∙ c.if-is_in.true))

pub returns-else-is_in : goal.returns-else-is_in
returns-else-is_in c = rw c.in-Some.is (least-other c.in-Some.place c.args.is_held (sym c.is_in.ensures ∙ c.if-is_in.false))
