-- Rows that are apart are clear.
use Rattle.default_routes.proofs.Common.{All, MatchBool, Misses, Row, rows_at, subst, sym}
use Rattle.default_routes.proofs.stripping.is_clear.Goals as goal

pub returns-then-apart : goal.returns-then-apart
returns-then-apart c apart =
    subst (λ b. MatchBool b (All (λ (r : Row). Misses r.block c.args.row.now) (rows_at c.args.kept.rows.now c.args.kept.places.now))
    (All (λ (r : Row). Misses r.block c.args.row.now) (rows_at c.args.kept.rows.now c.args.kept.places.now) → ⊥)) (sym c.if-apart.true) (apart c.if-apart.true)
