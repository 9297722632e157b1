-- The requests and events of a sample's reactions.
use Rattle.std.specs.Prelude.{ℕ, ◌+◌, ◌<◌, ◌≤◌, ⊤, IsTrue, Bool, ◌||◌, List, [], ◌∷◌, ◌++◌, flat_map, slice_get, Option, Some, None, is_some}
use Rattle.lc_model.specs.Count.{capped}
use Rattle.lc_model.specs.Rule.{Actionpoint}
use Rattle.lc_model.specs.Events.Request.{Request, Sequence, rule_failed, failed_lc_passive, failed_passive, turned_to_fail, turned_to_pass}
use Rattle.limit_engine.specs.declared.reaction.Turn.{Turn}
use Rattle.limit_engine.specs.declared.reaction.Turn.TheVariants.{ToFail, ToPass}
use Rattle.limit_engine.specs.declared.reaction.Failure.{Failure}
use Rattle.limit_engine.specs.declared.reaction.Failure.TheVariants.{Requested, LcPassive, Passive}
use Rattle.limit_engine.specs.declared.reaction.Reactions.{Reactions}
use Rattle.limit_engine.specs.declared.reaction.Asked.{Asked}

-- Event 5 or 6 for a turn of rule `n`, if there was one.
abbrev pub turn_requests : ℕ → Option Turn → List Request
turn_requests n None = []
turn_requests n (Some ToFail) = turned_to_fail n ∷ []
turn_requests n (Some ToPass) = turned_to_pass n ∷ []

-- The requests and events of rule `n` for enough failures in a row, if there were enough.
abbrev pub failure_requests : Actionpoint → ℕ → Option Failure → List Request
failure_requests rule n None = []
failure_requests rule n (Some (Requested run)) = Sequence rule.sequence ∷ rule_failed rule n (capped run) ∷ []
failure_requests rule n (Some LcPassive) = failed_lc_passive n ∷ []
failure_requests rule n (Some Passive) = failed_passive n ∷ []

-- All requests and events of the rule with this number, in order.
abbrev pub requests_of : Actionpoint → ℕ → Reactions → List Request
requests_of rule n reactions = turn_requests n reactions.turn ++ failure_requests rule n reactions.failure

-- All requests and events of one item of a sample's result; none if there is no such rule.
abbrev pub requests_at : Option Actionpoint → Asked → List Request
requests_at None asked = []
requests_at (Some rule) asked = requests_of rule asked.rule asked.reactions

-- All requests and events of a sample's result, in order.
abbrev pub requests_in : List Actionpoint → List Asked → List Request
requests_in rules asked = flat_map (λ (a : Asked). requests_at (slice_get rules a.rule) a) asked

-- Whether there is a reaction.
abbrev pub asks : Reactions → Bool
asks reactions = is_some reactions.turn || is_some reactions.failure

-- The items are of rules in ascending order, from `from` to before `below`, and each has a reaction.
abbrev pub AreInOrder : (from below : ℕ) → List Asked → Type 0
AreInOrder from below [] = ⊤
AreInOrder from below (a ∷ asked) = (from ≤ a.rule) × (a.rule < below) × IsTrue (asks a.reactions) × AreInOrder (a.rule + 1) below asked
