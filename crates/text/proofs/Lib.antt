pub mod Results
pub mod Runs
pub mod Numerals
pub mod Steps
pub mod Spelling
pub mod Leftmost
pub mod Readings
