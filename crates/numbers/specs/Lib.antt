pub mod Ranges
pub mod Casts
pub mod Same
