-- When a repair is refused (this project's own).
use Rattle.std.specs.Prelude.{List}
use Rattle.spin_base.specs.declared.chips.Chip.{Chip}
use Rattle.machine_desc.specs.Description.{Description}
use Rattle.link_detours.specs.declared.repairs.RepairErr.{RepairErr}
use Rattle.link_detours.specs.declared.repairs.RepairErr.TheVariants.{CutOff, Memory}
use Rattle.link_detours.specs.Repair.{IsFirstTargetCutOff}

-- A target is named where it is the first that no walk of live links joins to the root. Want of memory is free.
abbrev pub IsRepairCause : Description → Chip → List Chip → RepairErr → Type 0
IsRepairCause m root targets (CutOff t) = IsFirstTargetCutOff m root targets t
IsRepairCause m root targets Memory = Unit {0}
