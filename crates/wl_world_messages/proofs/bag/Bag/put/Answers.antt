use Rattle.wl_world_messages.proofs.Finding.{sent-found, sent-absent, sending-found, sending-absent}
use Rattle.wl_world_messages.proofs.bag.Bag.put.Goals as goal

pub returns-in-Some-clause-ok : goal.returns-in-Some-clause-ok
returns-in-Some-clause-ok c = sent-found _ _ c.in-Some.place c.in-Some.ensures.place

pub returns-in-Some-clause-sending : goal.returns-in-Some-clause-sending
returns-in-Some-clause-sending c = sending-found _ _ c.in-Some.place c.in-Some.ensures.place

pub returns-in_ok-place-in-None-clause-ok : goal.returns-in_ok-place-in-None-clause-ok
returns-in_ok-place-in-None-clause-ok c = rw (c.in_ok-place-in-None.ensures.ok, c.in_ok-copy-in-None.ensures.equals) (sent-absent _ _ c.in-None.ensures.place)

pub returns-in_ok-place-in-None-clause-sending : goal.returns-in_ok-place-in-None-clause-sending
returns-in_ok-place-in-None-clause-sending c = sending-absent _ _ _ c.in-None.ensures.place c.in_ok-place-in-None.ensures.place
