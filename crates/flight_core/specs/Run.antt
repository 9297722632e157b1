-- The terms of `run`'s contract: what the call is given, and how it ends.
use Rattle.std.specs.Prelude.{◌≡◌, ◌≢◌, ℕ, List, map, Result, Err, ⊤}
use Rattle.std.specs.List.{AllByRecursion, concat}
use Rattle.std.specs.Borrow.{Bor}
use Rattle.lc_model.specs.Tables.HalvesAndBytes.{as_bytes}
use Rattle.lc_model.specs.Tables.InForce.{layouts, edition}
use Rattle.lc_model.specs.Host.Schedule.{Schedule}
use Rattle.lc_model.specs.Host.Stream.{StreamEntry, records_of}
use Rattle.lc_model.specs.Host.Outcome.{Devices, IsUntouched, IsOutcome}
use Rattle.lc_model.specs.Host.Promise.{Mission}
use Rattle.lc_model.specs.Kept.Summary.{Other}
use Rattle.lc_model.specs.Kept.Executive.{Member, first_executive, written_from}
use Rattle.host_refinement.specs.Keeping.{IsSpare}
use Rattle.host_refinement.specs.Statements.{AreBrought}
use Rattle.rpn_compiler.specs.declared.files.TablePair.{TablePair}
use Rattle.app_host.specs.Shared.{on_board}
use Rattle.app_host.specs.Hosted.{Object, member_of}
use Rattle.flight_core.specs.declared.error.Report.{Report}
use Rattle.flight_core.specs.declared.error.RunError.{RunError}
use Rattle.flight_core.specs.declared.error.RunError.TheVariants.{Compile, Memory}
use Rattle.flight_core.specs.Brought.{meanings_of}
use Rattle.flight_core.specs.Compiled.{sources_of}
use Rattle.flight_core.specs.Ending.{ending_of}

-- The objects' names and states, without the seats that they hold.
abbrev pub members_of : List Object → List Member
members_of stock = map member_of stock

-- `members` are exactly these objects, in this order.
abbrev pub AreThese : List Object → List Member → Type 0
AreThese stock members = members ≡ members_of stock

-- The mission of a call: the edition in use, its texts, its schedule, the names of its stock in order, and the most reads that
-- it may make.
abbrev pub mission_of : List (Bor (List ℕ)) → Schedule → List Object → ℕ → Mission
mission_of texts schedule stock most = record {
  edition = edition;
  sources = sources_of texts;
  schedule = schedule;
  stock = map (λ (member : Member). member.called) (members_of stock);
  most_reads = most;
}

-- Each object in stock is a Limit Checker, a scheduler with this schedule, or a counter, under its own name.
abbrev pub IsOfProfile : Schedule → List Object → Type 0
IsOfProfile schedule stock = AllByRecursion (IsSpare (as_bytes layouts) schedule) (members_of stock)

-- No object in stock is of another application than LC, SCH and COUNTER.
abbrev pub AreOfProfile : List Object → Type 0
AreOfProfile stock = AllByRecursion (λ (member : Member). member.state ≢ Other) (members_of stock)

-- `output` is the function from records to bytes that the host in numbers computes, starting with `members` in stock; `pairs` are
-- the compiled texts.
abbrev pub IsOutputFrom : List TablePair → List Member → ℕ → (List StreamEntry → List ℕ) → Type 0
IsOutputFrom pairs members texts output = (entries : List StreamEntry) → AreBrought texts entries →
    concat (written_from on_board (first_executive members) (meanings_of pairs) entries) ≡ output entries

-- How a run that started ends: as `IsOutcome` states, with the output that the host in numbers computes from the records.
abbrev pub EndsSo : List TablePair → List Member → ℕ → ℕ → Devices → Result Report RunError → Type 0
EndsSo pairs members texts most d result = (output : List StreamEntry → List ℕ) → IsOutputFrom pairs members texts output →
    IsOutcome (records_of texts) output most d (ending_of result)

-- The result is no `Compile` refusal; if it is `Memory`, nothing was read or written.
abbrev pub RefusesNone : Devices → Result Report RunError → Type 0
RefusesNone d (Err (Compile text refusal)) = ⊥
RefusesNone d (Err Memory) = IsUntouched d
RefusesNone d other = ⊤

-- The result of a run whose texts are compiled: for `Memory` nothing was read or written, else `EndsSo`.
abbrev pub RunsSo : List TablePair → List Member → ℕ → ℕ → Devices → Result Report RunError → Type 0
RunsSo pairs members texts most d (Err Memory) = IsUntouched d
RunsSo pairs members texts most d result = EndsSo pairs members texts most d result
