use Rattle.std.proofs.Common.{length}
use Rattle.wl_grammar.specs.Grammar.{u16, IsEntry, entry}
use Rattle.wl_grammar.proofs.Lists.{spelled_none, spelled_more, spelled_all, kept_before, kept_through, all_at}
use Rattle.wl_grammar.proofs.encoding.put_entries.Goals as goal

pub loop-e-init : goal.loop-e-init
loop-e-init c = spelled_none _ _ c.in_ok-put_u16.ensures.spelled

pub loop-e-preserved : goal.loop-e-preserved
loop-e-preserved c =
    spelled_more entry c.args.entries.now c.loop-e.e-index c.e-item.result c.e-item.result _ _ _ c.loop-e-test.true c.e-item.is c.loop-e.invariant c.in_ok-put_entry.ensures.spelled

pub returns-clause-spelled : goal.returns-clause-spelled
returns-clause-spelled c = spelled_all entry c.args.entries.now _ c.args.out.now.items (u16 (length c.args.entries.now)) _ c.loop-e-test.false c.loop-e.invariant

pub returns-clause-kept : goal.returns-clause-kept
returns-clause-kept c = kept_before c.args.out.now.items (u16 (length c.args.entries.now)) _ _ c.loop-e.invariant

pub returns-in_err-put_entry-clause-kept : goal.returns-in_err-put_entry-clause-kept
returns-in_err-put_entry-clause-kept c = kept_through c.args.out.now.items (u16 (length c.args.entries.now)) _ _ _ c.loop-e.invariant c.put_entry.ensures.kept

pub put_entry-requires : goal.put_entry-requires
put_entry-requires c = (all_at IsEntry c.args.entries.now c.loop-e.e-index c.e-item.result c.requires.each c.loop-e-test.true c.e-item.is).1
