pub use Rattle.app_graph.specs.ValidGraph
pub mod Compiled
pub mod Finals
pub mod Imaging
pub mod ShortTables
