pub use Rattle.app_graph.specs.ValidGraph
pub use Rattle.tern_word.specs.Ternary
pub use Rattle.range_store.specs.Regions
pub mod KeyBlocks
pub mod Cause
pub mod FreeKeys
