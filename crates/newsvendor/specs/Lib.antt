pub mod Item
pub mod Cost
pub mod Least
pub mod Level
pub mod CriticalRatio
pub mod FirstLeast
pub mod Solved
