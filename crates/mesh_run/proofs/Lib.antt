mod Common
mod Acting
mod AfterDeal
mod AfterMesh
mod AfterPlay
mod AfterSplit
mod AfterLinks
mod AfterRound
mod AfterRuns
pub mod Apart
mod BringingUp
mod CrossingLaws
mod EachQueue
mod EachVertex
pub mod Ends
mod Filling
mod FloorLaws
mod GatheringLaws
mod Going
mod Holding
mod HomeLaws
mod Lowering
pub mod OutputBits
mod Passing
mod PlanLaws
mod Raising
mod Resting
mod RoomLaws
mod RoundSteps
mod Slots
mod SplitLaws
mod Together
mod Turns
mod WholeRound
