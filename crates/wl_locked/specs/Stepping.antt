-- The broker's step on an event, and its reply.
use Rattle.wl_broker.specs.Broker.{BrokerState, Taking, Does, Drops, taking, death_step}
use Rattle.wl_locked.specs.declared.event.BookEvent.{BookEvent}
use Rattle.wl_locked.specs.declared.event.BookEvent.TheVariants.{Take, Dead}
use Rattle.wl_locked.specs.declared.event.Reply.{Reply}
use Rattle.wl_locked.specs.declared.event.Reply.TheVariants.{Outs, Dropped}

-- The next state and the reply for a decision of the broker. A dropped message changes nothing.
abbrev pub replied : BrokerState → Taking → BrokerState × Reply
replied b (Drops reason) = (b, Dropped reason)
replied b (Does after outs) = (after, Outs outs)

-- One step of the broker: a message arrives, or a tab's death is reported.
abbrev pub stepped : BrokerState → BookEvent → BrokerState × Reply
stepped b (Take s) = replied b (taking b s)
stepped b (Dead t) = ((death_step b t).0, Outs (death_step b t).1)
