pub mod Constants
pub mod Order
pub mod Scale
pub mod Shift
