pub mod Forms
pub mod Buffers
