pub mod OrderLaws
pub mod Product
