-- What is sent for one record more comes behind all else.
use Rattle.std.proofs.Common.{refl, sym, ◌∙◌, ap, [], ◌∷◌, ◌++◌, append-nil, append_assoc}
use Rattle.lc_model.specs.Tables.Interpretation.{Interpretation}
use Rattle.lc_model.specs.Host.Run.{Sent, input_of, handled, sent_from, world_after}
use Rattle.lc_model.specs.Laws.Runs.{GoesOn, RunsGoOn}

pub runs_go_on : {Image : Type 0} (images : Interpretation Image) → RunsGoOn images
runs_go_on {Image} images schedule w meanings [] entry =
    let step : Sent Image = handled images schedule entry.moment (input_of meanings entry.contents) w in
    record { packets = append-nil step.1; world = refl }
runs_go_on {Image} images schedule w meanings (first ∷ entries) entry =
    let step : Sent Image = handled images schedule first.moment (input_of meanings first.contents) w in
    let later : GoesOn images schedule step.0 meanings entries entry = runs_go_on images schedule step.0 meanings entries entry in
    record {
      packets = ap (λ packets. step.1 ++ packets) later.packets
          ∙ sym (append_assoc step.1 (sent_from images schedule step.0 meanings entries)
          (handled images schedule entry.moment (input_of meanings entry.contents) (world_after images schedule step.0 meanings entries)).1);
      world = later.world;
    }
