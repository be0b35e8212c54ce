-- Each round makes a chosen merge, which is legal.
use Rattle.cover_merge.proofs.Common.{Covers, HasNoChosen, HasNoLegalPair, HasRoutesOf, IsChosen, IsPermutation, IsPermutation-refl, IsSound, after, arith, inr, length, length-append, served, sets_of}
use Rattle.cover_merge.proofs.Common.{subst, sym, ◌<◌, ◌≡◌, ◌≤◌, ◌⊎◌}
use Rattle.cover_merge.proofs.{CoverLemmas.routes_own, CoverLemmas.IsCoveredSoFar, CoverLemmas.so_far_more, CoverLemmas.covered_short, CoverLemmas.covered_stuck, TriedLemmas.marked_later}
use Rattle.cover_merge.proofs.covering.cover.Goals as goal

pub merging-init : goal.merging-init
merging-init c = grind (arith, IsCoveredSoFar, routes_own, IsPermutation-refl)

pub merging-preserved : goal.merging-preserved
merging-preserved c =
    let rows = c.merging.table.rows in
    let chosen : IsChosen rows c.in-Some.places = rw c.in-Some.is at c.in_ok-places.ensures.found in
    let next : c.merge_next.new.table.rows ≡ after rows c.in-Some.places = rw c.in-Some.is at c.in_ok-places.ensures.table in
    let more : c.args.target < length rows = omega (arith, c.len.ensures) in record {
      so_far = subst (IsCoveredSoFar c.args.target c.args.table.rows c.merge_next.new.table.rows) (sym c.in_ok-push-in-Some.ensures.ok)
          (so_far_more c.args.target c.args.table.rows rows c.merge_next.new.table.rows c.merging.merges (record { places = c.in-Some.places }) c.merging.invariant.so_far more chosen next);
      known = grind (arith, marked_later, length-append);
    }

pub returns-in-None : goal.returns-in-None
returns-in-None c =
    let start = c.args.table.rows in
    let rows = c.merging.table.rows in
    let so_far = c.merging.invariant.so_far in
    let none : HasNoChosen rows = rw c.in-None.is at c.in_ok-places.ensures.found in
    let same : c.merge_next.new.table.rows ≡ rows = rw c.in-None.is at c.in_ok-places.ensures.table in
    let more : c.args.target < length rows = omega (arith, c.len.ensures) in record {
      covered = subst (Covers c.args.target start (sets_of c.merging.merges)) (sym same) (covered_stuck c.args.target start rows c.merging.merges so_far more none);
      sound = subst IsSound (sym same) so_far.sound;
      serves = subst (λ l. IsPermutation (served start) (served l)) (sym same) so_far.serves;
      few = subst (λ l. length l ≤ length start) (sym same) so_far.no_more;
      routes = subst (HasRoutesOf start) (sym same) so_far.routes;
      ended = subst (λ l. (length l ≤ c.args.target) ⊎ HasNoLegalPair l) (sym same) (inr none.1);
    }

pub returns-clause-covered : goal.returns-clause-covered
returns-clause-covered c = grind (arith, covered_short c.args.target c.args.table.rows c.merging.table.rows c.merging.merges c.merging.invariant.so_far (omega (arith, c.len.ensures)))
