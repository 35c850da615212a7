use Rattle.std.proofs.Common.{codes, arith}
use Rattle.wl_locked.specs.declared.locked.TheConstants.{LANE_LIMIT, STEP_LIMIT}
use Rattle.wl_locked.specs.declared.shards.TheConstants.{SHARD_LIMIT}
use Rattle.wlb_command_line.specs.CommandWords.{values_of}
use Rattle.wlb_command_line.proofs.Numbers.{size_in_range, wider}
use Rattle.wlb_command_line.proofs.words.kernel_line.Goals as goal

pub short_number-requires : goal.short_number-requires
short_number-requires c = wider (values_of c.args.values.now) (codes "lanes") LANE_LIMIT 65535 (omega arith) c.requires.size.0

pub short_number-requires-2 : goal.short_number-requires-2
short_number-requires-2 c = wider (values_of c.args.values.now) (codes "shards") SHARD_LIMIT 65535 (omega arith) c.requires.size.1

pub long_number-requires : goal.long_number-requires
long_number-requires c = wider (values_of c.args.values.now) (codes "limit") STEP_LIMIT 4294967295 (omega arith) c.requires.size.2

pub returns-clause-ranges : goal.returns-clause-ranges
returns-clause-ranges c =
    size_in_range (values_of c.args.values.now) _ _ _ c.requires.size (c.short_number.ensures, c.short_number-2.ensures, c.long_number.ensures)
