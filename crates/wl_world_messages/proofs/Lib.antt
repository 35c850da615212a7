pub mod Same
mod SameFrames
mod Indexing
mod Finding
