pub mod Names
pub mod Places
pub mod Sources
pub mod OrderRules
pub mod Nodes
pub mod Pauses
pub mod Network
