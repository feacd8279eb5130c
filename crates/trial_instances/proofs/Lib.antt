pub mod Words
pub mod PointLaws
