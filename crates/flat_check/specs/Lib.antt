pub mod BracketTables
pub mod BracketKnown
pub mod BracketRows
pub mod BracketMeaning
pub mod BracketChecks
pub mod BracketTexts
