pub mod Moves
pub mod Grids
pub mod Sizes
pub mod WideKnown
pub mod GridKnown
pub mod Known
