pub mod Tables
pub mod Rows
pub mod Periods
pub mod Recursions
