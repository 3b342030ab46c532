pub mod BySteps
pub mod TenthPower
