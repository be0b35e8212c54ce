pub mod Readings
pub mod Items
