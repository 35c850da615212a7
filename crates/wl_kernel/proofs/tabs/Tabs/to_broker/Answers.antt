use Rattle.std.proofs.Common.{ap, arith}
use Rattle.wl_kernel.specs.TableIndexes.{seen_in, partition_of}
use Rattle.wl_kernel.proofs.tabs.Tabs.to_broker.Goals as goal

pub returns-clause-well_formed : goal.returns-clause-well_formed
returns-clause-well_formed c inner =
    let one = c.in_ok-found.ensures.from_one (seen_in (partition_of c.args.self.now c.args.tab) c.in_ok-found.found.row.now) c.in_ok-found.ensures.row in
    record { tab = (one.0, omega arith); partition = (omega (arith, one.1, ap (λ h. h.0) c.in_ok-found.ensures.home, c.number-partition.ensures), omega arith); inner = inner }
