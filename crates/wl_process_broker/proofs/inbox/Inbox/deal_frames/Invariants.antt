use Rattle.wl_process_broker.proofs.inbox.Inbox.deal_frames.Given as goal

abbrev pub decreases-loop-work : goal.decreases-loop-work
decreases-loop-work g l = goal.left-loop-work g l
