-- Honest tabs beside tabs that were taken over.
pub mod StaysHonest
