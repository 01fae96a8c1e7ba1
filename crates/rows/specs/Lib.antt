pub mod Orders
pub mod Edges
pub mod Circles
pub mod OrderLaws
