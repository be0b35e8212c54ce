pub mod ValidGraph
pub mod RunPart
