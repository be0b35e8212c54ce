use Rattle.app_loads.proofs.Common.{all_grouped, into_iter_items, is_delivery_of, is_mixed_group, not, vec_capacity, vec_len}
use Rattle.app_loads.proofs.GroupLaws.{none_of_rest, put_group, rest_is, room_still}
use Rattle.app_loads.proofs.groups.Groups.part.Goals as goal

pub loop-group-preserved : goal.loop-group-preserved
loop-group-preserved c =
    let is = c.in-Some.ensures.steps.0 in
    let rest = into_iter_items c.next.new.self in
    let p = is_delivery_of c.args.app.now in
    let own_is = rest_is p (all_grouped c.loop-group.own.items) (all_grouped c.args.self) is c.loop-group.invariant.2 in
    let others_is = rest_is (λ d. not (is_delivery_of c.args.app.now d)) (all_grouped c.loop-group.others.items) (all_grouped c.args.self) is c.loop-group.invariant.3 in (
      tt,
      tt,
      put_group p (all_grouped c.loop-group.own.items) c.in-Some.group.deliveries (all_grouped rest) (all_grouped c.args.self) (all_grouped c.put_by.new.own.items) own_is c.put_by.ensures.own,
      put_group (λ d. not (is_delivery_of c.args.app.now d)) (all_grouped c.loop-group.others.items) c.in-Some.group.deliveries (all_grouped rest)
          (all_grouped c.args.self) (all_grouped c.put_by.new.others.items) others_is c.put_by.ensures.others,
      room_still (into_iter_items c.loop-group.group-iterator) rest c.in-Some.group (vec_len c.loop-group.own) (vec_len c.put_by.new.own) (vec_capacity c.loop-group.own)
          (vec_capacity c.put_by.new.own) is c.loop-group.invariant.4 c.put_by.ensures.own_length c.put_by.ensures.own_room,
      room_still (into_iter_items c.loop-group.group-iterator) rest c.in-Some.group (vec_len c.loop-group.others) (vec_len c.put_by.new.others) (vec_capacity c.loop-group.others)
          (vec_capacity c.put_by.new.others) is c.loop-group.invariant.5 c.put_by.ensures.others_length c.put_by.ensures.others_room,
      none_of_rest (is_mixed_group c.args.app.now) (into_iter_items c.loop-group.group-iterator) rest c.in-Some.group is c.loop-group.invariant.6,
    )
