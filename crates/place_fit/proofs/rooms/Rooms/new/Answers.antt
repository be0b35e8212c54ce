use Rattle.place_fit.proofs.Common.{ap, arith, drop, drop-replicate, one_shl, replicate, rules, ℕ, ◌%◌, ◌*◌, ◌^◌, ◌∙◌, ◌≡◌}
use Rattle.place_fit.proofs.rooms.Rooms.new.Goals as goal

pub returns : goal.returns
returns c = search (rules, one_shl, drop-replicate)
