-- A chip's plain table has at most one row for each net.
use Rattle.job_gen.proofs.Common.{Chip, Description, IsPlainTable, List, NetPlan, Row, arith, few_originals, length, length-map, length_permutation, map, row_of, ◌≤◌}

pub few_rows : (m : Description) (nets : List NetPlan) (c : Chip) (rows : List Row) → IsPlainTable m nets c rows → length rows ≤ length nets
few_rows m nets c rows is = omega (arith, few_originals m c nets is.originals is.originals_are, length-map is.originals row_of, length_permutation (map row_of is.originals) rows is.one_row_each)
