pub mod Moves
pub mod Grids
pub mod Turns
pub mod Cells
