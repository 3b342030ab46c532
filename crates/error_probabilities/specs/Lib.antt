pub mod ErrorProb
pub mod Table
pub mod TenthPower
