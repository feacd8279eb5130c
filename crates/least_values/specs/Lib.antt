pub use Rattle.model_terms.specs.Positions
pub mod Sweeps
pub mod Rooms
pub mod Windows
pub mod Stock
pub mod Walks
