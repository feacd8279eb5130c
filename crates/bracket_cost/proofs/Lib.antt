pub mod LowerFacts
pub mod UpperFacts
pub mod CellFacts
pub mod SpanFacts
