pub mod Scaling
pub mod LnRange
pub mod GammaRange
