pub mod Feeding
pub mod Said
pub mod Faults
pub mod Fed
pub mod Recorded
