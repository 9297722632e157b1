-- The images of a table, from the program's fields.
use Rattle.std.specs.Prelude.{ℕ, Bool, List, Option, Some, None, option_map, if◌then◌else◌}
use Rattle.lc_model.specs.Tables.Slot as model
use Rattle.lc_model.specs.Tables.Slot.{Slot, Waiting}
use Rattle.lc_model.specs.Name.{Name}
use Rattle.lc_model.specs.Services.Seen as seen
use Rattle.lc_model.specs.Services.Tables.{Places}
use Rattle.tbl_service.specs.declared.slot.Stage.{Stage}
use Rattle.tbl_service.specs.declared.slot.Stage.TheVariants.{Loaded, Asked, Valid, Activated}
use Rattle.tbl_service.specs.declared.slot.Move.{Move}
use Rattle.tbl_service.specs.declared.slot.Move.TheVariants.{Validate, Activate, Abort}

-- The program's stage as one of the model.
abbrev pub stage_of : Stage → model.Stage
stage_of Loaded = model.Loaded
stage_of Asked = model.Asked
stage_of Valid = model.Valid
stage_of Activated = model.Activated

-- The program's command as one of the model.
abbrev pub move_of : Move → model.Move
move_of Validate = model.Validate
move_of Activate = model.Activate
move_of Abort = model.Abort

-- The waiting image as one of the model.
abbrev pub waiting_seen : Stage → List ℕ → Waiting (List ℕ)
waiting_seen stage image = record { stage = stage_of stage; image = image }

-- The slot of the model, from the program's two buffers and whether each is in use.
abbrev pub slot_of : List ℕ → Bool → List ℕ → Option Stage → Slot (List ℕ)
slot_of active is_active waiting stage = record {
  active = if is_active then Some active else None;
  waiting = option_map (λ (s : Stage). waiting_seen s waiting) stage;
}

-- The slot of the table with this name, on any seat.
abbrev pub slot_named : Places → Name → Option (Slot (List ℕ))
slot_named places name = seen.slot_among places name

-- The active image of a slot, if there are both.
abbrev pub active_of : Option (Slot (List ℕ)) → Option (List ℕ)
active_of None = None
active_of (Some slot) = slot.active
