-- Own and the list of holdings: the holder of a lock requested it by an event of its own.
pub mod AskedByEvents
pub mod TabNumbers
pub mod ListedHoldings
