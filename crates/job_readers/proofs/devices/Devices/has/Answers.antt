use Rattle.job_readers.proofs.Common.{anchor_eq, anchor_of, ap, list_any, ◌∙◌}
use Rattle.job_readers.specs.Hung.{is_among}
use Rattle.job_readers.proofs.devices.Devices.has.Goals as goal

pub returns : goal.returns
unfolding is_among
returns c =
    c.contains.ensures
    ∙ c.self.invariant.told c.hook_of-anchor.result
    ∙ ap (λ a. list_any (λ e. anchor_eq (anchor_of e) a) c.self.inside.listed.items) c.hook_of-anchor.ensures
    ∙ ap (λ l. is_among l c.args.device) c.self.view_is
