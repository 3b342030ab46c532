pub mod Mean
pub mod Score
pub mod Tables
