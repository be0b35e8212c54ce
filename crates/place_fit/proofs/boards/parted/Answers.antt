use Rattle.place_fit.proofs.Common.{and_le_l, arith, bit_at-trailing_zeros, bit_at_above, bit_at_clear_other, bit_at_clear_same, bit_not, cases_lt, inl, inr, trailing_zeros, w32, ◌%◌, ◌*◌, ◌^◌}
use Rattle.place_fit.proofs.boards.parted.Goals as goal

pub returns : goal.returns
returns c =
    let n = c.args.cores in
    let x = trailing_zeros w32 n in
    let low = bit_at-trailing_zeros w32 n c.requires.0 (omega (arith, c.requires.1)) in
    record {
      low = elim (cases_lt x 18) [
        | inl few ↦ few
        | inr many ↦ absurd (omega (arith, low.1, bit_at_above n 18 x c.requires.1 many))
      ];
      had = low.1;
      none = low.2;
      few = omega (arith, c.requires.1, and_le_l n (bit_not w32 (1 * 2 ^ x % 2 ^ 32)));
      gone = bit_at_clear_same w32 n x low.0;
      same = bit_at_clear_other w32 n x low.0;
    }
