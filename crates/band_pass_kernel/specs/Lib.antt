pub mod Kernel
pub mod Resolve
pub mod Facts
