use Rattle.std.proofs.Common.{◌≡◌, ◌++◌, drop}
use Rattle.wl_broker.specs.Shards.{is_of, listed_of}
use Rattle.wl_locked.proofs.brokers.listed_in.Given as goal

abbrev pub invariant-loop-listed : goal.invariant-loop-listed
invariant-loop-listed l =
    let mine = is_of l.beginning.shards l.shard in
    l.part.items ++ listed_of mine (drop l.listed-index l.beginning.list.now) ≡ listed_of mine l.beginning.list.now
