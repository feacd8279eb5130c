mod MoveFacts
mod GridFacts
mod KeepFacts
mod LineFacts
mod TableFacts
mod SolveFacts
mod SpanSteps
