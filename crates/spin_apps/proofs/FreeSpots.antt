-- The cores that are free, as a machine.
use Rattle.spin_apps.proofs.Common.{All, All-at, All-each, All-weaker, Bool, Contains, Contains-at, Contains-filter, Contains-from_filter, Description, Edge, HasDeviceRoom, Host, IsCoreFor, IsInside}
use Rattle.spin_apps.proofs.Common.{IsPlacement, IsSite, IsUsable, List, LoadedApp, MatchOption, None, Option, Some, Spot, Vertex, [], all_spots, among_any, among_contains, and_from, and_parts}
use Rattle.spin_apps.proofs.Common.{any_among, ap, arith, both_ways, cases_Bool, chip_of, chip_of-index_of, contains_among, device_spot, false, free_machine, grid_spots, index_below, index_of, inl}
use Rattle.spin_apps.proofs.Common.{inr, is_free_spot, is_spot_taken, is_usable, leb-true, list_any, list_any-append, not, not-true, or_from, or_parts, refl, same_spot, same_tests, slice_get}
use Rattle.spin_apps.proofs.Common.{slice_get-get_or, slice_get-map_range, slice_get_there, spot_eq, spot_eq_same, spot_eq_true, spot_of, subst, sym, take, true, unusable_spots, usable_site, ℕ, ◌%◌}
use Rattle.spin_apps.proofs.Common.{◌*◌, ◌++◌, ◌+◌, ◌-◌, ◌/◌, ◌<◌, ◌||◌, ◌∙◌, ◌∷◌, ◌≡◌, ◌≤◌}

-- the number of a core gives the core
spot_is : (m : Description) (s : Spot) → IsInside m s.chip → 1 ≤ s.core → s.core ≤ 17 → spot_of m (17 * index_of m s.chip + (s.core - 1)) ≡ s
spot_is m s inside low high =
    let i : ℕ = index_of m s.chip in
    let k : ℕ = 17 * i + (s.core - 1) in
    let quotient : k / 17 ≡ i = omega (arith, low, high) in
    let remainder : k % 17 + 1 ≡ s.core = omega (arith, low, high) in
    same_spot (spot_of m k) s (ap (chip_of m) quotient ∙ chip_of-index_of m s.chip inside) remainder

-- each core of 1 to 17 inside the grid is one of the grid
on_grid : (m : Description) (s : Spot) → IsInside m s.chip → 1 ≤ s.core → s.core ≤ 17 → Contains (grid_spots m) s
on_grid m s inside low high =
    let i : ℕ = index_of m s.chip in
    let k : ℕ = 17 * i + (s.core - 1) in
    let n : ℕ = m.width * m.height in
    let below : i < n = index_below m s.chip inside in
    let less : k < 17 * n = omega (arith, low, high, below) in
    let from_zero : 0 + k ≡ k = omega arith in
    Contains-at (grid_spots m) k s (slice_get-map_range (spot_of m) 0 (17 * n) k less ∙ (ap (λ j. Some (spot_of m j)) from_zero ∙ ap Some (spot_is m s inside low high)))

-- whether one of the spots of applications passes a test
any_spot : (p : Spot → Bool) (apps : List LoadedApp) → list_any p (all_spots apps) ≡ list_any (λ (app : LoadedApp). list_any p app.plan.spots) apps
any_spot p [] = refl
any_spot p (app ∷ apps) = list_any-append p app.plan.spots (all_spots apps) ∙ ap (λ b. list_any p app.plan.spots || b) (any_spot p apps)

-- What is usable where each core that is not free is dead, is free.
pub usable_free : (h : Host) (s : Spot) → IsUsable (free_machine h) s → is_free_spot h s ≡ true
usable_free h s usable =
    let m : Description = h.mesh.setup.machine in
    let parts = and_parts _ _ usable in
    let inside : IsInside m s.chip = (and_parts _ _ parts.0).0 in
    let rest = and_parts _ _ parts.1 in
    let core = and_parts _ _ rest.0 in
    let clear : list_any (spot_eq s) (unusable_spots m ++ all_spots h.apps) ≡ false = not-true _ rest.1 in
    let both : (list_any (spot_eq s) (unusable_spots m) || list_any (spot_eq s) (all_spots h.apps)) ≡ false = sym (list_any-append (spot_eq s) (unusable_spots m) (all_spots h.apps)) ∙ clear in
    let none = or_parts (list_any (spot_eq s) (unusable_spots m)) (list_any (spot_eq s) (all_spots h.apps)) both in
    let untaken : is_spot_taken h.apps s ≡ false = sym (any_spot (spot_eq s) h.apps) ∙ none.1 in
    elim (cases_Bool (is_usable m s)) [
      | inl is ↦ and_from (is_usable m s) (not (is_spot_taken h.apps s)) is (ap not untaken)
      | inr is_not ↦
          let has : Contains (unusable_spots m) s =
          Contains-filter (λ (t : Spot). not (is_usable m t)) (grid_spots m) s (on_grid m s inside (leb-true _ _ core.0) (leb-true _ _ core.1)) (ap not is_not) in
          let listed : list_any (spot_eq s) (unusable_spots m) ≡ true = among_any (spot_eq s) s (unusable_spots m) (contains_among s (unusable_spots m) has) (spot_eq_same s) in
          let never : true ≡ false = sym listed ∙ none.0 in
          cc
    ]

-- a free core is usable, and no loaded application's
pub free_parts : (h : Host) (s : Spot) → is_free_spot h s ≡ true → IsUsable h.mesh.setup.machine s × (is_spot_taken h.apps s ≡ false)
free_parts h s free = let parts = and_parts _ _ free in (parts.0, not-true _ parts.1)

-- What is free is usable there.
usable_on : (h : Host) (s : Spot) → is_free_spot h s ≡ true → IsUsable (free_machine h) s
usable_on h s free =
    let m : Description = h.mesh.setup.machine in
    let both = free_parts h s free in
    let parts = and_parts _ _ both.0 in
    let inside : IsInside m s.chip = (and_parts _ _ parts.0).0 in
    let rest = and_parts _ _ parts.1 in
    let not_listed : list_any (spot_eq s) (unusable_spots m) ≡ false = elim (cases_Bool (list_any (spot_eq s) (unusable_spots m))) [
      | inl some ↦ (
          let found = any_among (spot_eq s) (unusable_spots m) some in
          let t : Spot = found.0 in
          let dead = (Contains-from_filter (λ (x : Spot). not (is_usable m x)) (grid_spots m) t (among_contains t (unusable_spots m) found.1)).1 in
          let never : is_usable m s ≡ false = ap (is_usable m) (spot_eq_true s t found.2) ∙ not-true _ dead in
          absurd (both_ways _ never both.0)
          )
      | inr none ↦ none
    ] in
    let untaken : list_any (spot_eq s) (all_spots h.apps) ≡ false = any_spot (spot_eq s) h.apps ∙ both.1 in
    let clear : list_any (spot_eq s) (unusable_spots m ++ all_spots h.apps) ≡ false =
    list_any-append (spot_eq s) (unusable_spots m) (all_spots h.apps) ∙ or_from (list_any (spot_eq s) (unusable_spots m)) (list_any (spot_eq s) (all_spots h.apps)) not_listed untaken in
    and_from _ _ (and_from _ _ inside refl) (and_from _ _ rest.0 (ap not clear))

pub free_is : (h : Host) (s : Spot) → is_usable (free_machine h) s ≡ is_free_spot h s
free_is h s = same_tests (is_usable (free_machine h) s) (is_free_spot h s) (usable_free h s) (usable_on h s)

-- vertices that are no devices are placed on free cores
pub placed_usable : (h : Host) (vertices : List Vertex) (spots : List Spot) (memory : List ℕ) → IsPlacement (free_machine h) vertices spots memory →
    All (λ (v : Vertex). v.device ≡ None) vertices → All (IsUsable (free_machine h)) spots
placed_usable h vertices spots memory placed none =
    All-each (IsUsable (free_machine h)) spots (λ s has.
    let at : slice_get spots has.0 ≡ Some s = slice_get-get_or spots has.0 s has.1 ∙ ap Some has.2 in
    let of = slice_get_there vertices has.0 (subst (λ n. has.0 < n) placed.all has.1) in
    let core : IsCoreFor (free_machine h) placed.order (take has.0 vertices) (take has.0 spots) of.0 s =
    subst (λ (o : Option Edge). MatchOption o (IsCoreFor (free_machine h) placed.order (take has.0 vertices) (take has.0 spots) of.0 s) (λ device. HasDeviceRoom (free_machine h) device × (s ≡ device_spot device)))
    (All-at (λ (v : Vertex). v.device ≡ None) vertices has.0 of.0 none of.1) (placed.first.each has.0 of.0 s of.1 at)
    in
    (and_parts _ _ core.free).0)

pub placed_free : (h : Host) (vertices : List Vertex) (spots : List Spot) (memory : List ℕ) → IsPlacement (free_machine h) vertices spots memory →
    All (λ (v : Vertex). v.device ≡ None) vertices → All (λ s. is_free_spot h s ≡ true) spots
placed_free h vertices spots memory placed none =
    All-weaker (IsUsable (free_machine h)) (λ s. is_free_spot h s ≡ true) (usable_free h) spots (placed_usable h vertices spots memory placed none)

-- so they are usable on the host's machine, and no loaded application's
pub free_usable : (h : Host) (spots : List Spot) → All (λ s. is_free_spot h s ≡ true) spots → All (IsUsable h.mesh.setup.machine) spots
free_usable h spots free = All-weaker (λ s. is_free_spot h s ≡ true) (IsUsable h.mesh.setup.machine) (λ s f. (free_parts h s f).0) spots free

pub free_sites : (h : Host) (m : Description) (spots : List Spot) → h.mesh.setup.machine ≡ m → All (λ s. is_free_spot h s ≡ true) spots → All (IsSite m) spots
free_sites h m spots is free =
    subst (λ (x : Description). All (IsSite x) spots) is
    (All-weaker (λ s. is_free_spot h s ≡ true) (IsSite h.mesh.setup.machine) (λ s f. usable_site h.mesh.setup.machine s (free_parts h s f).0) spots free)

pub free_untaken : (h : Host) (spots : List Spot) → All (λ s. is_free_spot h s ≡ true) spots → All (λ s. is_spot_taken h.apps s ≡ false) spots
free_untaken h spots free = All-weaker (λ s. is_free_spot h s ≡ true) (λ s. is_spot_taken h.apps s ≡ false) (λ s f. (free_parts h s f).1) spots free
