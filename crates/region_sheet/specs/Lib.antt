pub mod Row
pub mod Pages
