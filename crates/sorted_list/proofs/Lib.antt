pub mod Places
pub mod Orders
pub mod Members
pub mod Walks
pub mod Adding
pub mod Filling
