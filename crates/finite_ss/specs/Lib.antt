pub mod Shapes
pub mod ShapeFacts
pub mod SolvedShapes
pub mod PeriodRows
pub mod Solving
pub mod ToldChoices
