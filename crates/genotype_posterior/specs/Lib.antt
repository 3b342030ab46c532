pub mod Phred
pub mod Posterior
pub mod Priors
pub mod PriorRange
pub mod Alike
