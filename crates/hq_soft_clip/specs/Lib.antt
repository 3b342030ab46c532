pub mod SoftClips
pub mod Refused
pub mod Missing
