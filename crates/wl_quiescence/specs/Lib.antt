pub mod Quiescence
