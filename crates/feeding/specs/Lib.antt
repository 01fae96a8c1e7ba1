pub mod Lent
pub mod Stops
pub mod Files
