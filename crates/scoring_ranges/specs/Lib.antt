pub mod LogArguments
