pub mod LeastPairs
pub mod BlockLeasts
pub mod WindowSteps
pub mod WalkSteps
pub mod WalkBounds
pub mod WalkCasts
