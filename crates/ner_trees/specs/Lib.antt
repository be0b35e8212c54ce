pub use Rattle.machine_desc.specs.Description
pub use Rattle.machine_desc.specs.Live
pub use Rattle.machine_desc.specs.RoutingTree
pub mod EdgeNumbers
pub mod Geometry
pub mod Growth
pub mod LongestFirst
pub mod Search
