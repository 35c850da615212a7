use Rattle.wl_frames.proofs.Apart.{apart}
use Rattle.wl_grammar.proofs.BodyLength.{body_length}
use Rattle.wl_frames.proofs.Frames.{one_frame}
use Rattle.wl_frames.proofs.laws.law_encoding.Goals as goal

pub returns-clause-one_frame : goal.returns-clause-one_frame
returns-clause-one_frame c = one_frame

pub returns-clause-length : goal.returns-clause-length
returns-clause-length c = body_length

pub returns-clause-apart : goal.returns-clause-apart
returns-clause-apart c = apart
