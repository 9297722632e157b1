-- An application object as contracts see it.
use Rattle.std.specs.Prelude.{ℕ, Option}
use Rattle.lc_model.specs.Name.{Name}
use Rattle.lc_model.specs.Kept.Summary.{AppState}

-- An object: its name, its present state, and the seat that it holds.
pub record Object : Type 0 where
  pub called : Name
  pub state : AppState
  pub seat : Option ℕ
