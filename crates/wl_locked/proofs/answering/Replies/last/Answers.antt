use Rattle.wl_locked.proofs.answering.Replies.last.Goals as goal

pub returns : goal.returns
returns c = λ n reply are. (c.next.ensures n reply are).0
