pub use Rattle.spin_base.specs.Links
pub use Rattle.spin_base.specs.Lookup
pub mod Lanes
pub mod Memory
