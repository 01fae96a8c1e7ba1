mod Known
pub mod Printed
