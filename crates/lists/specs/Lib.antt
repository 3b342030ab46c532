pub mod Loops
pub mod While
pub mod Each
pub mod Folds
pub mod Without
pub mod Window
pub mod Tests
pub mod Every
