pub mod Failing
pub mod PathSteps
pub mod LoadSteps
