use Rattle.std.proofs.Common.{◌∙◌, ap, subst, List, ℕ}
use Rattle.table_file.specs.Layout.{layout_of}
use Rattle.table_validator.specs.Sound.{TableImage, HasSoundWatchpoints, HasSoundActionpoints}
use Rattle.table_validator.proofs.Soundness.{watchpoints_of, actionpoints_of}
use Rattle.table_validator.proofs.image.ValidImage.image.Goals as goal

pub returns-clause-watchpoints : goal.returns-clause-watchpoints
returns-clause-watchpoints c kind =
    let v = c.self.inside in
    subst (λ (bytes : List ℕ). HasSoundWatchpoints bytes) (ap (λ (t : TableImage). t.bytes) c.self.view_is)
    (watchpoints_of (layout_of v.layout) v.bytes.now c.self.invariant.0 (ap (λ (t : TableImage). t.kind) c.self.view_is ∙ kind))

pub returns-clause-actionpoints : goal.returns-clause-actionpoints
returns-clause-actionpoints c kind =
    let v = c.self.inside in
    subst (λ (bytes : List ℕ). HasSoundActionpoints bytes) (ap (λ (t : TableImage). t.bytes) c.self.view_is)
    (actionpoints_of (layout_of v.layout) v.bytes.now c.self.invariant.0 (ap (λ (t : TableImage). t.kind) c.self.view_is ∙ kind))
