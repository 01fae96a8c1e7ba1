pub mod Orders
pub mod Linking
pub mod Deciding
