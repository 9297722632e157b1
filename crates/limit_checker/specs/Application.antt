-- The application on its seat, and the effect of a packet on it. From the cFS Limit Checker user's guide; seats are this
-- project's own.
use Rattle.std.specs.Prelude.{ℕ, List, Option, IfSome, IsSomeAnd}
use Rattle.lc_model.specs.Name.{lc_name}
use Rattle.lc_model.specs.Kept.Summary.{LcOwn, LcState}
use Rattle.lc_model.specs.Kept.Call.{next_on_packet}
use Rattle.lc_model.specs.Services.Interface.{MayBeGiven, IsGiven}
use Rattle.lc_model.specs.Services.Settled.{IsSettled}
use Rattle.app_host.specs.declared.services.Services.{Services}
use Rattle.app_host.specs.Shared.{on_board, held_by, shared}
use Rattle.app_host.specs.Calls.{IsAtHome, Leaves}

-- The object: its engine, and the seat that it holds.
pub record LcObject : Type 0 where
  pub engine : LcOwn
  pub seat : Option ℕ

-- The object holds a seat, and is at home there.
abbrev pub IsHome : Option ℕ → LcOwn → Services → Type 0
IsHome place own s = IsSomeAnd place (λ seat. IsAtHome (LcState own) lc_name seat s)

-- The packet may be given to the object on its seat.
abbrev pub MayHave : Option ℕ → List ℕ → Services → Type 0
MayHave place packet s = IfSome place (λ seat. MayBeGiven seat lc_name packet (held_by s))

-- After `on_packet` the object has kept the rules of the interface, and has done exactly what the model gives.
pub record Answers (place : Option ℕ) (old new : LcOwn) (packet : List ℕ) (before after : Services) : Type 0 where
  pub rules : IfSome place (λ seat. IsGiven seat lc_name packet (held_by before) (held_by after))
  pub exact : IfSome place (λ seat. IfSome (next_on_packet on_board before.moment (LcState old) packet (shared before)) (Leaves seat (LcState new) before after))
  pub settled : IfSome place (λ seat. IsSettled (LcState new) seat (held_by after))
