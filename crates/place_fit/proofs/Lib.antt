mod Common
mod CurveLaws
mod RoomLaws
mod Standing
mod Giving
mod SpotLaws
pub mod Determined
pub mod UsableSpots
