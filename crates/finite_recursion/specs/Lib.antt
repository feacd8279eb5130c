pub mod Demands
pub mod Choices
pub mod Sizes
pub mod ValueSizes
pub mod Tables
pub mod Rows
pub mod Recursions
pub mod SolvedSizes
