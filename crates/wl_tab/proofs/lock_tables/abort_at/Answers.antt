use Rattle.std.proofs.Common.{sym, ap, ◌∙◌}
use Rattle.std.specs.Option.{is_some}
use Rattle.std.proofs.lemmas.Bool.{false≢true}
use Rattle.wl_tab.proofs.TabTables.{find_there, find_absent, written_if}
use Rattle.wl_tab.proofs.lock_tables.abort_at.Goals as goal

pub unreachable-requires : goal.unreachable-requires
unreachable-requires c = false≢true (sym (ap is_some (find_absent c.args.tab c.args.tabs.now.entries c.in_default.ensures.value)) ∙ c.requires.there)

pub returns-clause-said : goal.returns-clause-said
returns-clause-said c = rw (find_there c.args.tab c.args.tabs.now.entries c.in-Some.ensures.value) c.abort.ensures.said

pub returns-clause-tabs : goal.returns-clause-tabs
returns-clause-tabs c = rw (find_there c.args.tab c.args.tabs.now.entries c.in-Some.ensures.value) (written_if c.args.tab _ _ c.args.tabs.now.entries c.in-Some.ensures.ordered c.in-Some.ensures.value (c.get_mut.follows.holds _).0 c.abort.ensures.new)
