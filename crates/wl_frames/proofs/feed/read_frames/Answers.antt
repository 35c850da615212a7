use Rattle.wl_frames.proofs.Framing.{shorter}
use Rattle.wl_frames.proofs.feed.read_frames.Goals as goal

pub loop-frame-smaller : goal.loop-frame-smaller
loop-frame-smaller c =
    let next = rw c.in-Some.is at c.in_ok-frame.ensures.frame in
    shorter c.loop-frame.rest.now c.in-Some.after.now c.in-Some.frame next.1
