-- Units: figures in their unit.
pub mod Units
