-- What holds of a host without an application.
use Rattle.app_loads.proofs.Common.{All-nil, AreApps, AreNetsOn, AreRuns, Chip, Contains-none, Description, Entry, Free, Host, IsFreeBeside, IsInside, IsMesh, List, LoadedApp, MeetsLedgerFor, Setup}
use Rattle.app_loads.proofs.Common.{Some, Spot, State, [], all_free, ap, arith, asked_of, bare_host, bare_mesh, cases_lt, chip_count, empty_mesh, false, gathered_nothing, get_or, get_or-append_right}
use Rattle.app_loads.proofs.Common.{get_or-replicate, get_or_append_left, get_or_from_slice_get, hole_of, index_below, index_of, leb-false, leb-true, length, length-append, length-replicate, ltb}
use Rattle.app_loads.proofs.Common.{nat_tests, none-some, open_regions, refl, region_size, replicate, same_Some, slice_get, slice_get-get_or, slice_get_within, subst, suc, sym, table_at, true, unused}
use Rattle.app_loads.proofs.Common.{zero, ℕ, ◌*◌, ◌++◌, ◌+◌, ◌-◌, ◌<◌, ◌==◌, ◌∙◌, ◌∷◌, ◌≡◌, ◌≤◌}
use Rattle.app_loads.proofs.Ledgers.{from_packets}
use Rattle.tcam_find.specs.Memory.{empty_memory}

-- ---- copies

no_nets : (m : Description) (spots : List Spot) → AreNetsOn m spots []
no_nets m spots = grind (arith, All-nil)

no_ledger : (u : Setup) → MeetsLedgerFor (empty_mesh u) [] (asked_of [])
no_ledger u = grind (arith, from_packets, no_nets, none-some, Contains-none, gathered_nothing)

-- ---- regions

hole_whole : (size : ℕ) → 0 < size → hole_of 0 size ≡ record { place = 0; len = size - 0 } ∷ []
hole_whole size some = let t : ltb 0 size ≡ true = grind (arith, nat_tests) in rw t refl

hole_none : (size : ℕ) → size ≤ 0 → hole_of 0 size ≡ []
hole_none size none = let t : ltb 0 size ≡ false = grind (arith, nat_tests) in rw t refl

all_free_runs : (size : ℕ) → AreRuns 0 size (hole_of 0 size)
all_free_runs size = grind (arith, cases_lt 0 size, hole_whole, hole_none)

-- the three kinds of regions
module _ (m : Description) where
  abbrev n : ℕ
  n = chip_count m

  abbrev memories : List Free
  memories = replicate n (all_free m.sdram)

  abbrev tables : List Free
  tables = replicate n (all_free 1024)

  long : length (open_regions m) ≡ 1 + (n + n)
  long = grind (arith, length-replicate n (all_free m.sdram), length-replicate n (all_free 1024), length-append memories tables)

  at_size : (region : ℕ) (f : Free) → slice_get (open_regions m) region ≡ Some f → f ≡ all_free (region_size m region)
  at_size zero f is = sym (same_Some _ _ is)
  at_size (suc i) f is = grind (arith, not_zero, leb-true, got, one, get_or_append_left, get_or-replicate, d, leb-false, long, within, get_or-append_right)
    where
      not_zero : (j : ℕ) → (suc j == 0) ≡ false
      not_zero j = grind arith

      d : Free
      d = all_free 0

      within : suc i < length (open_regions m)
      within = slice_get_within (open_regions m) (suc i) f is

      got : f ≡ get_or (memories ++ tables) i d
      got = sym (get_or_from_slice_get (open_regions m) (suc i) f d is)

      one : length memories ≡ n
      one = length-replicate n (all_free m.sdram)

  -- nothing is taken of any region
  none_taken : (region : ℕ) (f : Free) → slice_get (open_regions m) region ≡ Some f → IsFreeBeside m [] region f
  none_taken region f is = subst (IsFreeBeside m [] region) (sym (at_size region f is)) (grind (arith, all_free_runs, cases_lt, nat_tests, hole_whole, hole_none))

-- ---- entries and spots

replicated : {X : Type 0} (n i : ℕ) (x : X) → i < n → slice_get (replicate n x) i ≡ Some x
replicated n i x below = grind (arith, get_or-replicate n i x x below, length-replicate n x, slice_get-get_or, long)

empty_at : (k : ℕ) → k < 1024 → slice_get empty_memory k ≡ Some unused
unfolding empty_memory
empty_at k below = replicated 1024 k unused below

memory_long : length empty_memory ≡ 1024
unfolding empty_memory
memory_long = length-replicate 1024 unused

tables_long : (m : Description) (c : Chip) → IsInside m c → length (table_at m (replicate (m.width * m.height) empty_memory) c) ≡ 1024
tables_long m c inside = ap (λ (l : List Entry). length l) (get_or-replicate (m.width * m.height) (index_of m c) empty_memory [] (index_below m c inside)) ∙ memory_long

-- ---- the host

pub bare_apps : (m : Description) (q : ℕ) → IsMesh (bare_mesh m q) → AreApps (bare_host m q)
bare_apps m q mesh = grind (arith, long m, none_taken m, long, no_ledger (bare_mesh m q).setup, All-nil, tables_long, get_or-replicate, index_below, empty_at)

-- ---- the same of the parts that were made

pub made_apps : (m : Description) (q : ℕ) (mesh : State) (regions : List Free) (apps : List LoadedApp) → mesh ≡ bare_mesh m q → regions ≡ open_regions m → apps ≡ [] → IsMesh mesh →
    (let h : Host = record { mesh = mesh; regions = regions; apps = apps; packets = 0 } in AreApps h)
made_apps m q mesh regions apps is_mesh are_open none whole = grind (arith, bare_apps m q (subst IsMesh is_mesh whole))
