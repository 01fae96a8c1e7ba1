pub mod Causes
pub mod Lines
pub mod Odds
pub mod Texts
