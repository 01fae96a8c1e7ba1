pub mod Indexes
pub mod Levels
pub mod Stacks
pub mod Tallies
pub mod Promises
