use Rattle.wl_frames.proofs.Framing.{spelled}
use Rattle.wl_frames.proofs.feed.frame_at.Goals as goal

pub returns-clause-frame : goal.returns-clause-frame
returns-clause-frame c =
    spelled c.args.bytes.now c.in-Some.rest.now c.split_at.result.0.now c.split_at.result.1.now c.in-Some.len c.in_ok-frame.frame
    c.in-Some.ensures.0 c.split_at.ensures.front c.split_at.ensures.back c.split_at.ensures.front_len c.in_ok-frame.ensures.frame
