pub mod Walk
pub mod Probability
pub mod OneLeft
pub mod Piles
pub mod Accepted
pub mod Tables
pub mod Members
pub mod ByCount
