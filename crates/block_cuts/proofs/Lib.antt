pub mod HalfLaws
pub mod PieceLaws
mod Turns
