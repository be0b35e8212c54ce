-- The number of routers that a copy has passed.
use Rattle.std.specs.Prelude.{ℕ, ◌+◌, ◌-◌, ◌^◌, min}
use Rattle.spin_base.specs.declared.copies.McCopy.{McCopy}

-- the greatest hop number, 4,294,967,295
abbrev pub last_hop : ℕ
last_hop = 2 ^ 32 - 1

-- The copy behind a router: one hop more. One more than 4,294,967,295 is that number again.
abbrev pub onward : McCopy → McCopy
onward k = record k { hop = min (k.hop + 1) last_hop }
