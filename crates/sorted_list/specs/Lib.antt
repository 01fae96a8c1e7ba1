pub mod Causes
pub mod Orders
pub mod Lists
pub mod Laws
