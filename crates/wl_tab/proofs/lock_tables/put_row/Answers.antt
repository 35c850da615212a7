use Rattle.std.proofs.Common.{◌∙◌}
use Rattle.wl_draft.proofs.TableLemmas.{insert_entry-put}
use Rattle.wl_tab.proofs.lock_tables.put_row.Goals as goal

pub returns-clause-ok : goal.returns-clause-ok
returns-clause-ok g c = c.in_ok-insert.ensures.entries ∙ insert_entry-put c.args.tab c.args.row c.args.rows.now.entries
