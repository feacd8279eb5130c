pub mod Lines
pub mod PeriodLaws
mod PeriodShapes
mod PeriodLevels
