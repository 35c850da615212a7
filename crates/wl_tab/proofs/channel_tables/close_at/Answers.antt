use Rattle.std.proofs.Common.{sym, ap, ◌∙◌}
use Rattle.std.specs.Option.{is_some}
use Rattle.std.proofs.lemmas.Bool.{false≢true}
use Rattle.wl_broadcast.specs.Channels.{is_open_at}
use Rattle.wl_tab.proofs.TabTables.{find_there, find_absent, written_if}
use Rattle.wl_tab.proofs.channel_tables.close_at.Goals as goal

pub unreachable-requires : goal.unreachable-requires
unreachable-requires c = false≢true (sym (ap is_some (find_absent c.args.tab c.args.rows.now.entries c.in_default.ensures.value)) ∙ c.requires.there)

pub returns-clause-result : goal.returns-clause-result
returns-clause-result c = rw (find_there c.args.tab c.args.rows.now.entries c.in-Some.ensures.value) c.close.ensures.result

pub returns-clause-rows : goal.returns-clause-rows
returns-clause-rows c = rw (find_there c.args.tab c.args.rows.now.entries c.in-Some.ensures.value) (written_if c.args.tab _ (is_open_at c.in-Some.channels.now.objects c.args.number) c.args.rows.now.entries c.in-Some.ensures.ordered c.in-Some.ensures.value (c.get_mut.follows.holds _).0 c.close.ensures.new)
