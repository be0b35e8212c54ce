-- What one turn of a check tells of the whole.
use Rattle.cover_merge.proofs.Common.{Bool, IsClearOf, IsTrue, List, Misses, PassesUp, PassesUpCheck, Row, arith, below_more, false, false≢true, get_or, get_or_default, has_row, insert_place, length}
use Rattle.cover_merge.proofs.Common.{pair_read, refl, subst, sym, true, true≢false, ℕ, ◌+◌, ◌<◌, ◌↔◌, ◌∙◌, ◌≡◌, ◌≤◌}
use Rattle.cover_merge.proofs.Positions.{has-at, has-place}
pub use Rattle.spin_base.proofs.Tests.{fails, answers_none, answers_no}

module _ (rows : List Row) (places : List ℕ) (p : ℕ) (place : p ≡ insert_place rows places) where
  pub up_fails : (i : ℕ) (b : Bool) → i < length places → (IsTrue b) ↔ (PassesUp rows places (get_or places i 0) p) → b ≡ false → (IsTrue false) ↔ (PassesUpCheck rows places)
  up_fails i b within tells came =
      answers_no (PassesUpCheck rows places) (λ up.
      fails (PassesUp rows places (get_or places i 0) p) b tells came (subst (PassesUp rows places (get_or places i 0)) (sym place) (up (get_or places i 0) (has-at places i within))))

  pub up_more : (i : ℕ) (b : Bool) → ((k : ℕ) → k < i → PassesUp rows places (get_or places k 0) (insert_place rows places)) → (IsTrue b) ↔ (PassesUp rows places (get_or places i 0) p) → b ≡ true
      → (k : ℕ) → k < i + 1 → PassesUp rows places (get_or places k 0) (insert_place rows places)
  up_more i b before tells came = below_more (λ k. PassesUp rows places (get_or places k 0) (insert_place rows places)) i before (subst (PassesUp rows places (get_or places i 0)) place (tells.0 came))

-- ---- one row against another

module _ (rows : List Row) (places : List ℕ) (s r : ℕ) (first later : Row) (in_s : s < length rows) (in_r : r < length rows) (is_first : first ≡ get_or rows s first) (is_later : later ≡ get_or rows r later) where
  pub clear_from : (has_row places r ≡ false → Misses later.block first) → IsClearOf rows places s r
  clear_from told d outside = pair_read rows (λ (x y : Row). Misses x.block y) r s later first in_r in_s is_later is_first (told outside) d

  pub missed_from : IsClearOf rows places s r → has_row places r ≡ false → Misses later.block first
  missed_from clear outside = grind (arith, get_or_default rows r first later in_r, get_or rows s first)
