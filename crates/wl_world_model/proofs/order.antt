-- Order within a generation: the list that is picked from the events, and the broker that took it.
pub mod OneMoreItem
pub mod SettledStays
pub mod RunsOfCommands
pub mod BrokerIsPicked
pub mod Standings
pub mod TakenIsPicked
pub mod PickedIsTaken
pub mod OwnLocksMove
pub mod WithoutBroker
pub mod OneGeneration
pub mod EventsInOrder
