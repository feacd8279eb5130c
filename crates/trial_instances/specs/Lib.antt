pub mod Numbers
pub mod NumberFacts
pub mod News
pub mod Lots
pub mod Finite
pub mod Average
pub mod Serial
pub mod Network
