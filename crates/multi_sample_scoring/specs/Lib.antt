pub mod Sets
pub mod Tables
pub mod Passed
pub mod Members
pub mod Accepted
