use Rattle.std.proofs.Common.{rules}
use Rattle.wl_workers.proofs.LaneLemmas.{put_alone}
use Rattle.wl_workers.proofs.lanes.put_reply.Goals as goal

pub returns-in-One-clause-some : goal.returns-in-One-clause-some
returns-in-One-clause-some g c =
    let alone = put_alone _ _ c.in-One.addressed _ c.put_one.ensures in
    search (alone, rules)
