mod CheckSteps
mod EntryFits
mod BracketAnswers
mod BracketAccepted
