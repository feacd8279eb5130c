pub mod Searched
pub mod Narrow
pub mod WideNarrow
pub mod RateSums
