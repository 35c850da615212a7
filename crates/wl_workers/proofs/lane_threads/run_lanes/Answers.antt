use Rattle.wl_workers.proofs.lane_threads.run_lanes.Goals as goal

pub returns : goal.returns
returns g c = λ i d h.
    let k = (c.for_each_mut.ensures i d h).1 in
    rw (← k.argument_is, ← k.left) k.call
