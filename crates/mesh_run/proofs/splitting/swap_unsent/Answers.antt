use Rattle.mesh_run.proofs.Common.{Share, Some, ap, get_or_from_slice_get, length, refl, set, subst, sym, ◌<◌, ◌∙◌, ◌≡◌}
use Rattle.mesh_run.proofs.SplitLaws.{unsent_set}
use Rattle.mesh_run.proofs.splitting.swap_unsent.Goals as goal

pub returns-clause-put : goal.returns-clause-put
returns-clause-put c =
    let shares = c.args.shares.now.items in
    let s = c.index_mut.result.now in
    let is : s ≡ c.requires.0 = c.index_mut.ensures.value ∙ get_or_from_slice_get shares c.args.share c.requires.0 s c.requires.1 in
    unsent_set shares _ c.args.share c.args.vertex s _ c.args.copies (c.requires.1 ∙ ap Some (sym is)) (subst (λ (x : Share). c.args.vertex < length x.hold.unsent.items) (sym is) c.requires.2)
    refl refl refl refl refl refl (ap (λ q. set s.hold.unsent.items c.args.vertex q) c.replace.ensures.after)
