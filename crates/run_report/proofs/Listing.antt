-- Tables of an image have few rows, all together.
use Rattle.run_report.proofs.Common.{All, All-head, All-tail, ChipTable, Image, IsTable, IsValid, List, [], arith, length, mul-le, row_total, suc, sum_by-cons, ℕ, ◌*◌, ◌+◌, ◌<◌, ◌^◌, ◌∷◌, ◌≡◌, ◌≤◌}

le_by : (all first others n : ℕ) → all ≡ first + others → first ≤ 1024 → others ≤ 1024 * n → all ≤ 1024 * suc n
le_by all first others n both a b = omega (arith, both, a, b)

-- tables of at most 1,024 rows have at most 1,024 rows each, all together
rows_of : (w h : ℕ) (ts : List ChipTable) → All (IsTable w h) ts → row_total ts ≤ 1024 * length ts
rows_of w h [] short = omega arith
rows_of w h (t ∷ ts) short =
    let rest = rows_of w h ts (All-tail (IsTable w h) t ts short) in
    let here : IsTable w h t = All-head (IsTable w h) t ts short in
    let both : row_total (t ∷ ts) ≡ length t.entries + row_total ts = sum_by-cons (λ (x : ChipTable). length x.entries) t ts in
    le_by (row_total (t ∷ ts)) (length t.entries) (row_total ts) (length ts) both here.some_rows.1 rest

pub few_rows : (v : Image) → IsValid v → row_total v.chips < 2 ^ 64
few_rows v valid = grind (arith, rows_of v.width v.height v.chips valid.tables, mul-le v.width v.height 64 64 valid.across.1 valid.down.1)
