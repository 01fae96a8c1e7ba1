pub mod Causes
pub mod Lines
pub mod Files
