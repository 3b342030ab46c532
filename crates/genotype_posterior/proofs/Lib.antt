pub mod Rounding
pub mod Lists
pub mod PriorRange
pub mod Probability
pub mod Alike
pub mod Priors
