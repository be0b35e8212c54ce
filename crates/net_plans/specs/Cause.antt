-- Why nets are not planned (this project's own).
use Rattle.std.specs.Prelude.{◌≡◌, ◌⊎◌, List, Result, Err}
use Rattle.spin_base.specs.declared.chips.Spot.{Spot}
use Rattle.machine_desc.specs.Description.{Description}
use Rattle.app_graph.specs.declared.graphs.Net.{Net}
use Rattle.link_detours.specs.declared.repairs.RepairErr.{RepairErr}
use Rattle.link_detours.specs.declared.repairs.RepairErr.TheVariants as repairs
use Rattle.net_plans.specs.CutOffTargets.{IsFirstCutOffIn, IsFirstNetCutOff}
use Rattle.net_plans.specs.declared.nets.NetErr.{NetErr}
use Rattle.net_plans.specs.declared.nets.NetErr.TheVariants.{CutOff, Memory}

-- Why one net has no plan: its first target that is cut off. Want of memory is free.
abbrev pub IsCauseOne : Description → List Spot → Net → RepairErr → Type 0
IsCauseOne m spots net (repairs.CutOff target) = IsFirstCutOffIn m spots net target
IsCauseOne m spots net repairs.Memory = Unit {0}

-- The first net with a target that is cut off. Want of memory is free.
abbrev pub IsNetCause : Description → List Spot → List Net → NetErr → Type 0
IsNetCause m spots nets (CutOff net target) = IsFirstNetCutOff m spots nets net target
IsNetCause m spots nets Memory = Unit {0}

-- an answer that names this error, or wants memory
abbrev pub IsRefusedBy : {X E : Type 0} → Result X E → E → E → Type 0
IsRefusedBy result error no_memory = (result ≡ Err error) ⊎ (result ≡ Err no_memory)
