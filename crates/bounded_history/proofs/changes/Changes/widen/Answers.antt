use Rattle.std.proofs.Common.{◌∙◌, ◌+◌, ◌^◌, ap, refl}
use Rattle.bounded_history.specs.Changes.{reduced}
use Rattle.bounded_history.proofs.Grown.{told_wide}
use Rattle.bounded_history.proofs.changes.Changes.widen.Goals as goal

pub returns-clause-told : goal.returns-clause-told
returns-clause-told c = λ told tells.
    told_wide c.args.self.now (record { doublings = c.args.self.now.doublings + 1; entries = c.in_ok-self.field-0 }) told refl
    (c.in_ok-self.ensures.entries ∙ ap (reduced (2 ^ (c.args.self.now.doublings + 1))) c.as_slice.ensures.value)
    c.requires c.in_ok-self.ensures.few tells
