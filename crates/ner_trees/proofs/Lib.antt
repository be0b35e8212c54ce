mod Common
mod Axis
mod Cutting
pub mod Determined
mod Growing
mod LongestFirst
mod Nearest
pub mod Numbering
pub mod Ordered
mod Searching
mod Signed
mod Torus
mod Trees
mod Walking
