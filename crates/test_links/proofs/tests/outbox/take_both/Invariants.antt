use Rattle.std.proofs.Common.{◌≡◌, true}
use Rattle.wl_outbox.specs.Passes.{IsOf, takes}
use Rattle.test_links.proofs.tests.outbox.take_both.Given as goal

abbrev pub invariant-loop : goal.invariant-loop
invariant-loop g l = IsOf l.pass l.outbox × (takes l.pass ≡ true)
