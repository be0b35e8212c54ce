use Rattle.place_fit.proofs.Common.{arith, bit_at_set_other, bit_at_set_same, one_shl, or_lt, pow_below, w32, ◌%◌, ◌*◌, ◌<◌, ◌^◌}
use Rattle.place_fit.proofs.boards.joined.Goals as goal

pub returns : goal.returns
returns c =
    let n = c.args.cores in
    let k = c.args.core in
    let within : k < 32 = omega (arith, c.requires.0) in
    let one : 1 * 2 ^ k % 2 ^ 32 < 2 ^ 18 = omega (arith, one_shl k 32 within, pow_below k 18 c.requires.0) in
    record {
      few = or_lt 18 n (1 * 2 ^ k % 2 ^ 32) c.requires.1 one;
      here = bit_at_set_same w32 n k within;
      same = bit_at_set_other w32 n k within;
    }
