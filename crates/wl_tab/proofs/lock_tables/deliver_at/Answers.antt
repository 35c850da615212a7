use Rattle.std.proofs.Common.{sym, ap, ◌∙◌}
use Rattle.std.specs.Option.{is_some}
use Rattle.std.proofs.lemmas.Bool.{false≢true}
use Rattle.std.proofs.lemmas.Result.{IfOk-weaker, on_err_weaker}
use Rattle.wl_draft.proofs.RisingTables.{written_same}
use Rattle.wl_tab.proofs.TabTables.{find_there, find_absent, written_as, written_rows}
use Rattle.wl_tab.proofs.lock_tables.deliver_at.Goals as goal

pub unreachable-requires : goal.unreachable-requires
unreachable-requires c = false≢true (sym (ap is_some (find_absent c.args.tab c.args.tabs.now.entries c.in_default.ensures.value)) ∙ c.requires.there)

pub returns-clause-tabs : goal.returns-clause-tabs
returns-clause-tabs c = rw (find_there c.args.tab c.args.tabs.now.entries c.in-Some.ensures.value) (IfOk-weaker c.deliver.result _ _ (λ x e. written_as c.args.tab _ c.args.tabs.now.entries c.in-Some.ensures.ordered c.in-Some.ensures.value (c.get_mut.follows.holds _).0 e) c.deliver.ensures.new)

pub returns-clause-said : goal.returns-clause-said
returns-clause-said c = rw (find_there c.args.tab c.args.tabs.now.entries c.in-Some.ensures.value) c.deliver.ensures.said

pub returns-clause-rows : goal.returns-clause-rows
returns-clause-rows c = written_rows c.args.tab _ c.args.tabs.now.entries c.in-Some.ensures.ordered c.in-Some.ensures.value (c.get_mut.follows.holds _).0

pub returns-clause-err : goal.returns-clause-err
returns-clause-err c = on_err_weaker c.deliver.result (λ e. written_same _ _ _ _ _ c.in-Some.ensures.value (c.get_mut.follows.holds _).0 e) c.deliver.ensures.err
