use Rattle.std.proofs.Common.{◌≡◌, ◌^◌, ◌*◌, ◌%◌, bit_or, ap, refl, arith}
use Rattle.spin_base.specs.Outputs.{out_number}
use Rattle.spin_base.proofs.{Outputs.out_number_below, Outputs.set_bit_within, Outputs.set_bit_with_out, routes.Route.with.Goals.in-Link, routes.Route.with.Goals.in-Core}
use Rattle.spin_base.proofs.routes.Route.with.Goals as goal

pub invariant_of-result : goal.invariant_of-result
invariant_of-result c = grind (arith, set_bit_within c.args.self (out_number c.args.out) (out_number_below c.args.out c.requires), out_number_below c.args.out c.requires, in-Link, in-Core)

pub returns : goal.returns
returns c =
    let number_is : c.match-out.number ≡ out_number c.args.out =
    elim c.match-out.branch [
      | in-Link w ↦ rw (w.in-Link.is, w.number-is) w.number-number.ensures.number
      | in-Core w ↦ rw (w.in-Core.is, w.number-is) refl
    ]
    in set_bit_with_out _ _ _ c.requires (ap (λ n. bit_or c.args.self.bits (1 * 2 ^ n % 2 ^ 32)) number_is)
