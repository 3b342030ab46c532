pub mod Program
pub mod Feeding
pub mod Stream
pub mod Tables
pub mod Run
pub mod Reach
