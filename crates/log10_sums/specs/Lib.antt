pub mod Pair
pub mod Sums
