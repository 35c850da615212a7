use Rattle.wl_broker.proofs.Takings.{taking-Takes, burial-Buries}
use Rattle.wl_broker.proofs.Granting.{started-AreSettled, Takes-AreSettled, Buries-AreSettled, Buries-own, burial_dead, Buries-is_active, Takes-tells, Buries-tells}
use Rattle.wl_broker.proofs.laws.law_grants.Goals as goal

pub returns-clause-start : goal.returns-clause-start
returns-clause-start c g listed = started-AreSettled g listed

pub returns-clause-settled : goal.returns-clause-settled
returns-clause-settled c b s after outs once h e = Takes-AreSettled b s.tab s.partition once (taking-Takes b s after outs e) h

pub returns-clause-settled_by_death : goal.returns-clause-settled_by_death
returns-clause-settled_by_death c b t once h = Buries-AreSettled b t once (burial-Buries b t) h

pub returns-clause-own : goal.returns-clause-own
returns-clause-own c b t p alive place = Buries-own b t p (burial-Buries b t) alive place

pub returns-clause-once : goal.returns-clause-once
returns-clause-once c b t dead = burial_dead b t dead

pub returns-clause-active : goal.returns-clause-active
returns-clause-active c b t p e = Buries-is_active b t p (burial-Buries b t) e

pub returns-clause-telling : goal.returns-clause-telling
returns-clause-telling c b s after outs e active = Takes-tells b s.tab s.partition (taking-Takes b s after outs e) active

pub returns-clause-telling_of_death : goal.returns-clause-telling_of_death
returns-clause-telling_of_death c b t p alive place active = Buries-tells b t p (burial-Buries b t) alive place active
