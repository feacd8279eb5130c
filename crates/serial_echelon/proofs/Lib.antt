pub mod Steps
pub mod CellLoop
pub mod EchelonLoop
pub mod PeriodLoop
