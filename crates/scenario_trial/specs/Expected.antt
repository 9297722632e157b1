-- What the words of an expectation say. This project's own.
use Rattle.std.specs.Prelude.{ℕ, ◌-◌, ◌==◌, Bool, false, ◌&&◌, ◌||◌, List, [], ◌∷◌, codes, bytes_eq, nat_le, Option, Some, None, Result, Ok, Err, if◌then◌else◌}
use Rattle.std.specs.Char.{is_ascii_digit}
use Rattle.lc_model.specs.declared.mode.ApMode.{ApMode}
use Rattle.lc_model.specs.declared.mode.ApMode.TheVariants.{PermOff}
use Rattle.lc_model.specs.declared.mode.ApResult.{ApResult}
use Rattle.lc_model.specs.declared.mode.ApResult.TheVariants.{Pass, Fail, Stale, Error}
use Rattle.lc_model.specs.Text.Class.{state}
use Rattle.stream_script.specs.Number.{decimal_number}
use Rattle.scenario_trial.specs.declared.expectation.Expectation.{Expectation}
use Rattle.scenario_trial.specs.declared.expectation.Expectation.TheVariants as held
use Rattle.scenario_trial.specs.declared.expectation.Coming.{Coming}
use Rattle.scenario_trial.specs.declared.expectation.Span.{Span}
use Rattle.scenario_trial.specs.declared.expectation.What.{What}
use Rattle.scenario_trial.specs.declared.expectation.ArrivalKind.{ArrivalKind}
use Rattle.scenario_trial.specs.declared.expectation.ArrivalKind.TheVariants.{Sequence, Event, HostEvent}
use Rattle.scenario_trial.specs.declared.fault.ExpectationFault.{ExpectationFault}
use Rattle.scenario_trial.specs.declared.fault.ExpectationFault.TheVariants.{NoWhat, BadNumber, BadSecond, NoSpan, NoSecond, NoState, NoResult}

-- something comes within some seconds, or nothing of it; or how a rule stands where the expectation is
pub data Expected : Type 0 where
  Comes : (coming : Coming) → Expected
  Absent : (coming : Coming) → Expected
  State : (rule : List ℕ) (state : ApMode) → Expected
  LastResult : (rule : List ℕ) (last : Option ApResult) → Expected

-- an expectation as it is held
abbrev pub expected_of : Expectation → Expected
expected_of (held.Comes coming) = Comes coming
expected_of (held.Absent coming) = Absent coming
expected_of (held.State rule state) = State rule.now state
expected_of (held.Result rule last) = LastResult rule.now last

infixl 10 ◌>>=◌
-- the second step, unless the first is refused
abbrev pub ◌>>=◌ : {A B : Type 0} → Result A ExpectationFault → (A → Result B ExpectationFault) → Result B ExpectationFault
(Ok x) >>= next = next x
(Err fault) >>= next = Err fault

-- ---- numbers

-- a number of decimal digits, which is no greater than this
abbrev pub up_to : ℕ → Option ℕ → Option ℕ
up_to most None = None
up_to most (Some number) = if nat_le number most then Some number else None

abbrev pub number_in : ℕ → List ℕ → Option ℕ
number_in most word = up_to most (decimal_number word)

-- whether a word begins as a number does
abbrev pub is_numeral : List ℕ → Bool
is_numeral [] = false
is_numeral (byte ∷ bytes) = is_ascii_digit byte

abbrev pub some_number : Option ℕ → Result ℕ ExpectationFault
some_number None = Err BadNumber
some_number (Some number) = Ok number

abbrev pub some_second : Option ℕ → Result ℕ ExpectationFault
some_second None = Err BadSecond
some_second (Some second) = Ok second

-- ---- seconds

-- all seconds
abbrev pub whole_span : Span
whole_span = record { first = 0; last = 4294967295 }

-- the seconds before one, which isn't 0
abbrev pub until : Span → ℕ → Result Span ExpectationFault
until span second = if second == 0 then Err BadSecond else Ok (record { first = span.first; last = second - 1 })

-- seconds that are narrowed: `from S`, `at S`, `by S` or `until S`
abbrev pub narrowed_to : Span → List ℕ → ℕ → Result Span ExpectationFault
narrowed_to span word second =
    if bytes_eq word (codes "from") then Ok (record { first = second; last = span.last })
    else if bytes_eq word (codes "at") then Ok (record { first = second; last = second })
    else if bytes_eq word (codes "by") then Ok (record { first = span.first; last = second })
    else if bytes_eq word (codes "until") then until span second
    else Err NoSpan

abbrev pub narrowed : Span → List ℕ → List ℕ → Result Span ExpectationFault
narrowed span word second = some_second (number_in 4294967295 second) >>= narrowed_to span word

-- a word tells where seconds end, and not where they begin
abbrev pub is_end : List ℕ → Bool
is_end word = bytes_eq word (codes "by") || bytes_eq word (codes "until")

-- of two words one tells where seconds begin, and one where they end
abbrev pub go_together : List ℕ → List ℕ → Bool
go_together word other =
    (bytes_eq word (codes "from") && is_end other) || (is_end word && bytes_eq other (codes "from"))

-- seconds of which there is one
abbrev pub some_span : Span → Result Span ExpectationFault
some_span span = if nat_le span.first span.last then Ok span else Err NoSecond

abbrev pub narrowed_twice : (word second other last : List ℕ) → Result Span ExpectationFault
narrowed_twice word second other last = do
  once ← narrowed whole_span word second
  twice ← narrowed once other last
  some_span twice

-- the seconds that words tell: all, or those that one word narrows, or two that go together
abbrev pub span_in : List (List ℕ) → Result Span ExpectationFault
span_in [] = Ok whole_span
span_in (word ∷ second ∷ []) = narrowed whole_span word second
span_in (word ∷ second ∷ other ∷ last ∷ []) =
    if go_together word other then narrowed_twice word second other last else Err NoSpan
span_in words = Err NoSpan

-- ---- what comes: `sequence [N]`, `event [N]` or `event HOST [N]`, and seconds

abbrev pub what_of : ArrivalKind → Option ℕ → What
what_of kind number = record { kind = kind; number = number }

-- this, within the seconds that words tell
abbrev pub within : What → List (List ℕ) → Result Coming ExpectationFault
within what words = do
  span ← span_in words
  Ok (record { what = what; span = span })

-- the same with a number, and then the seconds
abbrev pub numbered : ArrivalKind → List ℕ → List (List ℕ) → Result Coming ExpectationFault
numbered kind number words = do
  n ← some_number (number_in 65535 number)
  within (what_of kind (Some n)) words

-- the same, where a number may stand in front
abbrev pub coming_of : ArrivalKind → List (List ℕ) → Result Coming ExpectationFault
coming_of kind [] = within (what_of kind None) []
coming_of kind (word ∷ words) =
    if is_numeral word then numbered kind word words else within (what_of kind None) (word ∷ words)

-- an event: of the host where its name stands in front, else of the Limit Checker
abbrev pub event_of : List (List ℕ) → Result Coming ExpectationFault
event_of [] = coming_of Event []
event_of (word ∷ words) = if bytes_eq word (codes "HOST") then coming_of HostEvent words else coming_of Event (word ∷ words)

abbrev pub coming_in : List (List ℕ) → Result Coming ExpectationFault
coming_in [] = Err NoWhat
coming_in (word ∷ words) =
    if bytes_eq word (codes "sequence") then coming_of Sequence words
    else if bytes_eq word (codes "event") then event_of words
    else Err NoWhat

-- ---- how a rule stands

-- the state that a word names: one that a rule may begin in, or off for good
abbrev pub state_named : List ℕ → Option ApMode
state_named word = if bytes_eq word (codes "off") then Some PermOff else state word

-- the result that a word names: none before the first sample
abbrev pub result_named : List ℕ → Option (Option ApResult)
result_named word =
    if bytes_eq word (codes "none") then Some None
    else if bytes_eq word (codes "pass") then Some (Some Pass)
    else if bytes_eq word (codes "fail") then Some (Some Fail)
    else if bytes_eq word (codes "stale") then Some (Some Stale)
    else if bytes_eq word (codes "error") then Some (Some Error)
    else None

abbrev pub some_state : List ℕ → Option ApMode → Result Expected ExpectationFault
some_state rule None = Err NoState
some_state rule (Some state) = Ok (State rule state)

abbrev pub some_result : List ℕ → Option (Option ApResult) → Result Expected ExpectationFault
some_result rule None = Err NoResult
some_result rule (Some last) = Ok (LastResult rule last)

-- `RULE STATE`, and `RULE RESULT`
abbrev pub state_in : List (List ℕ) → Result Expected ExpectationFault
state_in (rule ∷ word ∷ []) = some_state rule (state_named word)
state_in words = Err NoState

abbrev pub result_in : List (List ℕ) → Result Expected ExpectationFault
result_in (rule ∷ word ∷ []) = some_result rule (result_named word)
result_in words = Err NoResult

-- ---- the words behind `expect`

abbrev pub comes : Result Coming ExpectationFault → Result Expected ExpectationFault
comes (Err fault) = Err fault
comes (Ok coming) = Ok (Comes coming)

abbrev pub absent : Result Coming ExpectationFault → Result Expected ExpectationFault
absent (Err fault) = Err fault
absent (Ok coming) = Ok (Absent coming)

abbrev pub expected_in : List (List ℕ) → Result Expected ExpectationFault
expected_in [] = Err NoWhat
expected_in (word ∷ words) =
    if bytes_eq word (codes "state") then state_in words
    else if bytes_eq word (codes "result") then result_in words
    else if bytes_eq word (codes "no") then absent (coming_in words)
    else comes (coming_in (word ∷ words))
