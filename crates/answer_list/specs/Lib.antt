pub mod Arrays
pub mod Compare
pub mod Read
pub mod Functions
