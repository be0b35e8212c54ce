-- A sound table that has no more rows than wanted is covered as it stands.
use Rattle.default_routes.proofs.Common.{All, AreKept, Contains-get_or, Contains-map, Final, HaveRoutesOf, IsPermutation-refl, IsShortened, IsSound, List, RoutesAlone, Row, [], arith, entry_of}
use Rattle.default_routes.proofs.Common.{get_or, inl, length, map, refl, rows_at, served, short, ℕ, ◌≡◌, ◌≤◌}
use Rattle.default_routes.proofs.{FinalLemmas.loaded_routes, FinalLemmas.serves_given, FinalLemmas.shortened, StripLemmas.kept_places, StripLemmas.kept_serve}

module _ (target : ℕ) (rows : List Row) (kept : List ℕ) (f : Final) (few : length rows ≤ target) (sound : IsSound rows) (are : AreKept rows kept)
    (entries : f.entries ≡ map entry_of (rows_at rows kept)) where
  -- so its final table has the entries of the rows that default routing does not replace
  pub short_final : IsShortened target rows f
  short_final =
      shortened rows rows kept kept f.entries refl refl entries target rows [] (short rows few) sound (omega arith) (inl few) are (kept_places rows kept are) f refl

  pub short_routes : HaveRoutesOf rows f.entries
  short_routes =
      loaded_routes rows rows kept f.entries entries (kept_places rows kept are).in_range
      (λ k d h. Contains-map (λ (r : Row). r.route) rows (get_or rows k d) (Contains-get_or rows k d h))

  pub short_serves : All (RoutesAlone f.entries) (served rows)
  short_serves = serves_given rows rows (rows_at rows kept) f.entries entries (IsPermutation-refl (served rows)) (kept_serve rows sound kept are)
