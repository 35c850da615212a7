use Rattle.std.proofs.Common.{arith, ◌∙◌}
use Rattle.wlb_hub.proofs.FrameLength.{next_length}
use Rattle.wlb_hub.proofs.links.next_output.Goals as goal

-- A frame is no longer than the buffer.
pub copy-requires : goal.copy-requires
copy-requires c =
    let short = next_length _ _ _ _ _ (c.reserve.ensures.items ∙ c.new-bytes.ensures.items) c.in-Ok-For.ensures.next in
    omega (arith, short, c.if-out-lt-WLB_FRAME_BYTES.false)
