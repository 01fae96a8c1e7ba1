pub mod Recordings
pub mod Printing
pub mod Table
