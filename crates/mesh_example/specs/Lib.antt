pub use Rattle.machine_desc.specs.NetsOn
pub use Rattle.machine_desc.specs.RightTables
pub use Rattle.mesh_core.specs.Opened
pub use Rattle.mesh_core.specs.State
pub use Rattle.mesh_core.specs.Step
pub use Rattle.mesh_core.specs.Whereabouts
pub mod Board
