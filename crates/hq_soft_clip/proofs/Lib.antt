pub mod Walks
pub mod Refused
pub mod Missing
pub mod Operations
