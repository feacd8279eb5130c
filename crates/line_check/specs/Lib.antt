pub mod Rules
pub mod Verdicts
pub mod Checks
pub mod TextChecks
pub mod BreachFacts
pub mod CheckFacts
pub mod TextCheckFacts
