pub mod Limits
pub mod Positions
pub mod Rates
pub mod DemandLaws
pub mod Names
