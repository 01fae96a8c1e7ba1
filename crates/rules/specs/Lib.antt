pub mod Causes
pub mod Rows
pub mod Drawing
pub mod Calls
pub mod States
pub mod Behind
pub mod Laws
