pub mod Blocks
pub mod Seeing
pub mod Stacking
pub mod Stepping
pub mod Rounds
pub mod Counting
pub mod Promises
pub mod Sameness
