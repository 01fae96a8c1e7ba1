pub mod Locks
pub mod Guards
pub mod Drawing
pub mod Recorded
pub mod Tables
