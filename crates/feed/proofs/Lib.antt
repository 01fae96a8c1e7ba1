pub mod Splitting
pub mod Counting
pub mod Texts
pub mod Said
pub mod Faults
pub mod Fed
