pub mod Kernels
pub mod KernelRange
