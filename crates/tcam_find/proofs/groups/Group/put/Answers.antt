use Rattle.std.proofs.Common.{◌/◌, ◌%◌, refl, ap, ◌∙◌, slice_set}
use Rattle.std.proofs.lemmas.Option.{get_or_from_slice_get}
use Rattle.tcam_find.specs.Memory.{entries_in}
use Rattle.tcam_find.proofs.groups.Group.put.Goals as goal

pub returns-clause-one : goal.returns-clause-one
returns-clause-one c g got =
    let is = c.index_mut.ensures.value ∙ get_or_from_slice_get c.args.groups.now.items (c.args.place / 8) g c.index_mut.result.now got in
    (c.set.new.self, c.set.ensures ∙ ap (λ it. slice_set (entries_in it) (c.args.place % 8) c.args.e) is, refl)
