use Rattle.std.proofs.Common.{◌++◌, take}
use Rattle.std.proofs.lemmas.List.{take_rest}
use Rattle.std.proofs.KnownBytes.{Appends-trans}
use Rattle.wl_frames.proofs.DeviceLemmas.{split_more}
use Rattle.wl_frames.proofs.device.Sink.write.Goals as goal

pub loop-rest-preserved : goal.loop-rest-preserved
loop-rest-preserved g c =
    let h = c.loop-rest.invariant in
    let rest = c.loop-rest.rest.now in
    let front = take c.in-Ok.n rest in
    rw take_rest (
      h.0,
      (h.1.0 ++ front, split_more c.args.bytes.now h.1.0 rest c.in-Ok.n h.1.1, Appends-trans _ _ _ h.1.0 front h.1.2 c.in-Ok.ensures.bytes),
    )
