pub mod MoveFacts
pub mod WalkFacts
pub mod SizeFacts
pub mod PlaceFacts
