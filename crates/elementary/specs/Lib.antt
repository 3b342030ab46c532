pub mod Exp
pub mod Ln
pub mod LnGamma
pub mod ExpRange
pub mod GammaRange
