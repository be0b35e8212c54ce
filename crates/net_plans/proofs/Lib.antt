mod Common
mod Boarding
pub mod CutOffLaws
pub mod Ordering
pub mod Determined
mod Planning
mod Repairs
mod Routing
mod TargetLaws
