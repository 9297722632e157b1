-- The host in numbers goes on record by record.
use Rattle.std.proofs.Common.{[], ◌∷◌, ◌++◌, refl, ap, sym, ◌∙◌}
use Rattle.std.proofs.lemmas.List.{append_assoc, append-nil}
use Rattle.lc_model.specs.Tables.Interpretation.{Interpretation}
use Rattle.lc_model.specs.Host.Run.{input_of}
use Rattle.lc_model.specs.Kept.Executive.{Written, step_by, written_from}
use Rattle.host_refinement.specs.Statements.{executive_after, GoesOn, RunsGoOn}

module _ {Image : Type 0} (images : Interpretation Image) where
  pub runs_go_on : RunsGoOn images
  unfolding written_from executive_after
  runs_go_on e meanings [] entry =
      let step : Written Image = step_by images entry.moment e (input_of meanings entry.contents) in
      record { packets = append-nil step.1; executive = refl }
  runs_go_on e meanings (first ∷ entries) entry =
      let step : Written Image = step_by images first.moment e (input_of meanings first.contents) in
      let others : GoesOn images step.0 meanings entries entry = runs_go_on step.0 meanings entries entry in
      record {
        packets = ap (λ packets. step.1 ++ packets) others.packets
            ∙ sym (append_assoc step.1 (written_from images step.0 meanings entries)
            (step_by images entry.moment (executive_after images step.0 meanings entries) (input_of meanings entry.contents)).1);
        executive = others.executive;
      }
