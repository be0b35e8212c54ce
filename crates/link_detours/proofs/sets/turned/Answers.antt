use Rattle.link_detours.proofs.Common.{arith}
use Rattle.link_detours.proofs.TurnedWords.{turned_ahead, turned_back}
use Rattle.link_detours.proofs.sets.turned.Goals as goal

pub returns-in-NorthEast : goal.returns-in-NorthEast
returns-in-NorthEast c = grind (arith, turned_ahead)

pub returns-in-SouthWest : goal.returns-in-SouthWest
returns-in-SouthWest c = grind (arith, turned_back)
