-- Replies to events: refused events change nothing, and no reply is out of memory.
pub mod StepsAndSends
pub mod RefusedEvents
pub mod MemoryIsNeverSaid
