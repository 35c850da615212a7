use Rattle.wl_outbox.proofs.FromRule.{takes_in_order, one_pass_takes, all_for_one_tab, all_arrived}
use Rattle.wl_outbox.proofs.laws.law_outbox.Goals as goal

pub returns : goal.returns
returns c = record { merge = takes_in_order; one_takes = one_pass_takes; one_tab = all_for_one_tab; arrived = all_arrived }
