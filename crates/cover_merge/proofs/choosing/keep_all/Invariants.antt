-- Of each route passed something is kept.
use Rattle.cover_merge.proofs.Common.{IsFreshlyRefined, IsLinked, Kept, None, Some, get_or, ℕ, ◌<◌, ◌≡◌}
use Rattle.cover_merge.proofs.choosing.keep_all.Given as goal

abbrev pub invariant-loop-c : goal.invariant-loop-c
invariant-loop-c l = record {
  linked : IsLinked l.rows l.known l.links;
  times : l.known.times.items ≡ l.fn.known.times.items;
  routes : l.known.routes.items ≡ l.fn.known.routes.items;
  fresh : IsFreshlyRefined l.known.routes.items l.rows l.fresh;
  all : (k : ℕ) → k < l.c → (it : Kept) × (get_or l.known.kept.items k None ≡ Some it);
}
