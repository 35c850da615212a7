use Rattle.std.proofs.Common.{false}
use Rattle.wl_origin.specs.Partition.{partition_of}
use Rattle.wl_script.proofs.PlayLemmas.{refuses}
use Rattle.wl_script.proofs.play.open.Goals as goal

pub returns-in-Err : goal.returns-in-Err
returns-in-Err c =
    refuses false c.refuse.result c.args.world.world c.args.tab (partition_of c.args.url.now) c.in-Err.fault c.args.out.now.items c.refuse.new.out.items c.in-Err.ensures.refused c.refuse.ensures.fault c.refuse.ensures.says
