-- Spots of which all are usable.
use Rattle.std.proofs.Common.{rules}
use Rattle.place_fit.proofs.Common.{All, All-contains, Description, IsUsable, List, Spot, among_contains, any_among, ap, is_usable, list_any, spot_eq, spot_eq_true, true, ◌∙◌, ◌≡◌}

-- one of them is usable
pub any_usable : (m : Description) (s : Spot) (spots : List Spot) → All (IsUsable m) spots → list_any (spot_eq s) spots ≡ true → is_usable m s ≡ true
any_usable m s spots usable some = search (rules, any_among, spot_eq_true, All-contains, among_contains)
