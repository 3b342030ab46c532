pub mod Settings
pub mod Observation
pub mod Contribution
pub mod Likelihoods
pub mod Lengths
pub mod Skipped
