pub mod TableFacts
pub mod CalendarSteps
