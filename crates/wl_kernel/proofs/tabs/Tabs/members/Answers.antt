use Rattle.std.proofs.Common.{ap, ◌∙◌}
use Rattle.wl_kernel.specs.Kernel.{living_of}
use Rattle.wl_kernel.specs.TableIndexes.{all_seen}
use Rattle.wl_kernel.proofs.KeptHomes.{members_kept}
use Rattle.wl_kernel.proofs.tabs.Tabs.members.Goals as goal

pub returns : goal.returns
returns c =
    let p = c.args.partition.now in
    c.members.ensures ∙ members_kept p (all_seen c.self.inside.homes c.self.inside.rows.items) c.self.inside.homes c.self.invariant.housed
    ∙ ap (λ k. living_of k p) c.self.view_is
