pub mod Tried
pub mod LogArguments
pub mod Qualities
