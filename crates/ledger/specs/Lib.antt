pub mod Rows
pub mod Tables
pub mod Checks
pub mod Ledgers
pub mod Recorded
