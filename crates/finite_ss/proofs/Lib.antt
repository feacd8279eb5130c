mod Rows
pub mod Fronts
pub mod RowLoop
pub mod RowsLoop
