use Rattle.std.proofs.Common.{length, refl}
use Rattle.wl_grammar.specs.Grammar.{u16, place}
use Rattle.wl_grammar.proofs.Lists.{spelled_none, spelled_more, spelled_all, kept_before, kept_through}
use Rattle.wl_grammar.proofs.encoding.put_places.Goals as goal

pub loop-p-init : goal.loop-p-init
loop-p-init c = spelled_none _ _ c.in_ok-put_u16.ensures.spelled

pub loop-p-preserved : goal.loop-p-preserved
loop-p-preserved c =
    spelled_more place c.args.places.now c.loop-p.p-index (0, 0) _ _ _ _ c.loop-p-test.true refl c.loop-p.invariant c.in_ok-put_place.ensures.spelled

pub returns-clause-spelled : goal.returns-clause-spelled
returns-clause-spelled c = spelled_all place c.args.places.now _ c.args.out.now.items (u16 (length c.args.places.now)) _ c.loop-p-test.false c.loop-p.invariant

pub returns-clause-kept : goal.returns-clause-kept
returns-clause-kept c = kept_before c.args.out.now.items (u16 (length c.args.places.now)) _ _ c.loop-p.invariant

pub returns-in_err-put_place-clause-kept : goal.returns-in_err-put_place-clause-kept
returns-in_err-put_place-clause-kept c = kept_through c.args.out.now.items (u16 (length c.args.places.now)) _ _ _ c.loop-p.invariant c.put_place.ensures.kept
