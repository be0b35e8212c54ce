mod Common
mod Joined
pub mod Sums
mod Balance
pub mod Ends
pub mod Sources
pub mod Entered
mod Serving
mod Done
mod TheFlow
mod PlayedQueues
mod PlayedRound
mod PlayedMesh
mod Parts
mod Weights
mod Taken
mod RoundBag
mod FlowLaw
mod CountSums
mod Lighter
mod Arrivals
mod Ample
mod Nearer
mod Resting
mod Played
mod Passes
mod PutBackParts
mod PutBackWork
mod FirstBack
mod Past
mod Milestones
mod FewRounds
