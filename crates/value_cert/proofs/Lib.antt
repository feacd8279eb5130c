pub mod Writing
pub mod FlatWriting
pub mod Orders
mod StartValues
pub mod DigitFacts
