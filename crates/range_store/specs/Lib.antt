pub mod Regions
pub mod Fits
pub mod Views
