-- Events that drop no copy (this project's own).
use Rattle.spin_base.specs.declared.copies.Event.{Event}
use Rattle.spin_base.specs.declared.copies.Event.TheVariants.{Inject, Take, Send, Dump, Collect}

-- an event that makes no dump record. (A copy that a lookup gives no output is gone too, at a Take; right tables never do that.)
abbrev pub DropsNone : Event → Type 0
DropsNone (Inject v) = Unit {0}
DropsNone (Take c port) = Unit {0}
DropsNone (Send c o) = Unit {0}
DropsNone (Dump c o) = ⊥
DropsNone (Collect v) = Unit {0}
