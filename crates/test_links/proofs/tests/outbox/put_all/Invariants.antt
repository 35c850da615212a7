use Rattle.std.proofs.Common.{◌≡◌, false}
use Rattle.wl_outbox.specs.Passes.{IsOf, takes}
use Rattle.test_links.proofs.tests.outbox.put_all.Given as goal

abbrev pub invariant-loop-generation : goal.invariant-loop-generation
invariant-loop-generation g l = IsOf l.pass l.outbox × (takes l.pass ≡ false)
