-- That a vertex is on a chip has one proof at most. So a struct may keep that a floor is a setup's.
use Rattle.std.specs.Prelude.{◌≡◌, ℕ, Some, slice_get}
use Rattle.std.proofs.Common.{sym, subst, ◌∙◌}
use Rattle.std.proofs.Props.{props}
use Rattle.std.proofs.lemmas.Option.{same_Some}
use Rattle.spin_base.specs.declared.chips.Spot.{Spot}
use Rattle.machine_desc.specs.Live.{chip_of}
use Rattle.mesh_core.specs.State.{Setup}
use Rattle.mesh_run.specs.Played.{IsVertexOn}

pub IsVertexOn-prop : (u : Setup) (i v : ℕ) → IsProp (IsVertexOn u i v)
IsVertexOn-prop u i v a b = subst (λ (s : Spot). (at : slice_get u.spots v ≡ Some s) (here : s.chip ≡ chip_of u.machine i) →
    a ≡ record { spot = s; stands = at; here = here }) (same_Some a.spot b.spot (sym a.stands ∙ b.stands)) (one a) b.stands b.here
  where
    stands_prop : (s : Spot) → IsProp (slice_get u.spots v ≡ Some s)
    stands_prop s = hlevel props

    here_prop : (s : Spot) → IsProp (s.chip ≡ chip_of u.machine i)
    here_prop s = hlevel props

    one : (a : IsVertexOn u i v) (at : slice_get u.spots v ≡ Some a.spot) (here : a.spot.chip ≡ chip_of u.machine i) → a ≡ record { spot = a.spot; stands = at; here = here }
    one a at here = λ k. record { spot = a.spot; stands = stands_prop a.spot a.stands at k; here = here_prop a.spot a.here here k }
