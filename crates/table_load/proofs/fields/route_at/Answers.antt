use Rattle.table_load.proofs.Rows.{route_small, route_is}
use Rattle.table_load.proofs.fields.route_at.Goals as goal

pub invariant_of-result : goal.invariant_of-result
invariant_of-result c = record { within = route_small c.args.bytes.now (c.in_ok-bits.bits, c.in_ok-bits.rest.now) c.in_ok-bits.ensures }

pub returns : goal.returns
returns c = route_is c.args.bytes.now c.in_ok-bits.bits c.in_ok-bits.rest.now _ c.in_ok-bits.ensures
