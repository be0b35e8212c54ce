pub use Rattle.app_graph.specs.ValidGraph
pub use Rattle.run_report.specs.Refusals
pub mod Answers
pub mod Findings
pub mod Nets
pub mod Plans
pub mod Naming
