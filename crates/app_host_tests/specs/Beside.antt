-- What a host writes that starts a counter and gives it a command, with another application in stock.
use Rattle.std.specs.Prelude.{ℕ, List, [], ◌∷◌, ◌++◌}
use Rattle.std.specs.List.{concat}
use Rattle.lc_model.specs.declared.record.Moment.{Moment}
use Rattle.lc_model.specs.Name.{counter_name}
use Rattle.lc_model.specs.Host.React.{Packet}
use Rattle.lc_model.specs.Kept.Summary.{CounterState}
use Rattle.lc_model.specs.Kept.Executive.{Member, Executive, Written, first_executive, step_by}
use Rattle.app_host.specs.Shared.{on_board}

-- the moment of both records
abbrev pub now : Moment
now = record { seconds = 100; subseconds = 0 }

-- the order that starts the counter, and the command that it counts
abbrev pub start : List ℕ
start = 24 ∷ 6 ∷ 192 ∷ 0 ∷ 0 ∷ 21 ∷ 1 ∷ 0 ∷ 67 ∷ 79 ∷ 85 ∷ 78 ∷ 84 ∷ 69 ∷ 82 ∷ 0 ∷ 0 ∷ 0 ∷ 0 ∷ 0 ∷ 0 ∷ 0 ∷ 0 ∷ 0 ∷ 0 ∷ 0 ∷ 0 ∷ 0 ∷ []

abbrev pub count : List ℕ
count = 24 ∷ 193 ∷ 192 ∷ 0 ∷ 0 ∷ 1 ∷ 1 ∷ 0 ∷ []

-- what the command calls for
abbrev pub counted_from : Executive (List ℕ) → List ℕ
counted_from e = concat (step_by on_board now e (Packet count)).1

-- what both call for
abbrev pub written_from : Executive (List ℕ) → List ℕ
written_from e =
    let begun : Written (List ℕ) = step_by on_board now e (Packet start) in
    concat begun.1 ++ counted_from begun.0

-- what both call for of a host that begins with a counter and another application in stock
abbrev pub written_beside : Member → List ℕ
written_beside other = written_from (first_executive (record { called = counter_name; state = CounterState 0 } ∷ other ∷ []))
