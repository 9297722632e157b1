-- What can be said of conditions before any packet comes: over all watch histories, and over all numbers that their fields
-- may have. This project's own.
use Rattle.std.specs.Prelude.{◌≡◌, ◌≢◌, ℕ, Bool, true, false, IsTrue, Some, ℤ, bit_and}
use Rattle.std.specs.List.{AllByRecursion}
use Rattle.lc_model.specs.declared.truth.Truth.{Truth}
use Rattle.lc_model.specs.declared.truth.Truth.TheVariants.{True, False}
use Rattle.lc_model.specs.declared.field.FieldType.{FieldType}
use Rattle.lc_model.specs.declared.field.Term.{Term}
use Rattle.lc_model.specs.Field.{twos_complement}
use Rattle.lc_model.specs.Condition.{Condition, Not, Join, And}
use Rattle.lc_model.specs.Tables.Equation.{mentions}
use Rattle.lc_model.specs.LimitChecker.Watch.{History, judgement, truth_of_term, truth_by, truth_of}

-- ---- over all histories

-- whatever was seen, the rule does not fail
abbrev pub NeverFails : Condition → Type 0
NeverFails c = (history : History) → truth_of c history ≢ True

-- neither stale nor an error
abbrev pub is_known : Truth → Bool
is_known True = true
is_known False = true
is_known other = false

-- each watchpoint of the condition is known
abbrev pub AreKnown : Condition → (Term → Truth) → Type 0
AreKnown c found = AllByRecursion (λ t. IsTrue (is_known (found t))) (mentions c)

-- what the watchpoints are found to be by a history
abbrev pub found_in : History → Term → Truth
found_in history t = truth_of_term t history

-- wherever all its watchpoints are known, the rule fails
abbrev pub AlwaysFails : Condition → Type 0
AlwaysFails c = (history : History) → AreKnown c (found_in history) → truth_of c history ≡ True

-- wherever the first rule fails and the second one's watchpoints are known, the second one fails
abbrev pub FailsWherever : Condition → Condition → Type 0
FailsWherever first second =
    (history : History) → truth_of first history ≡ True → AreKnown second (found_in history) → truth_of second history ≡ True

-- ---- over all numbers that the fields may have

-- a field: what two watchpoints share that read the same bits
pub record Place : Type 0 where
  pub kind : FieldType
  pub mid : ℕ
  pub offset : ℕ
  pub mask : ℕ

-- the field of a term
abbrev pub place_of : Term → Place
place_of t = record { kind = t.kind; mid = t.mid; offset = t.offset; mask = t.mask }

-- what each field's bytes say, as a number; each field is free, also of those that it shares bytes with
abbrev pub Readings : Type 0
Readings = Place → ℕ

-- the value that some bits give a field
abbrev pub value_by : Place → ℕ → ℤ
value_by p bits = twos_complement p.kind (bit_and bits p.mask)

-- what a term is found to be by them
abbrev pub found_by : Readings → Term → Truth
found_by readings t = judgement t (Some (value_by (place_of t) (readings (place_of t))))

-- no numbers of the fields make the condition true
abbrev pub NeverHolds : Condition → Type 0
NeverHolds c = (readings : Readings) → truth_by (found_by readings) c ≢ True

-- some do
abbrev pub HoldsForSome : Condition → Type 0
HoldsForSome c = (readings : Readings) × (truth_by (found_by readings) c ≡ True)

-- for all numbers of the fields they have the same result
abbrev pub AreAlike : Condition → Condition → Type 0
AreAlike a b = (readings : Readings) → truth_by (found_by readings) a ≡ truth_by (found_by readings) b

-- ---- more is known

-- what is known stays
abbrev pub Refines : Truth → Truth → Type 0
Refines True new = new ≡ True
Refines False new = new ≡ False
Refines other new = Unit {0}

-- the tables keep that: what is true or false with some operands unknown stays so, whatever they turn out to be
abbrev pub TablesKeep : Type 0
TablesKeep = (found fuller : Term → Truth) → ((t : Term) → Refines (found t) (fuller t)) → (c : Condition) →
    Refines (truth_by found c) (truth_by fuller c)

-- ---- how they hang together

-- what no numbers make true no history makes true
abbrev pub NeverHoldsNeverFails : Type 0
NeverHoldsNeverFails = (c : Condition) → NeverHolds c → NeverFails c

-- what is never false is true wherever all is known
abbrev pub NeverNotIsAlways : Type 0
NeverNotIsAlways = (c : Condition) → NeverFails (Not c) → AlwaysFails c

-- two rules by one condition
abbrev pub NeverButIsWherever : Type 0
NeverButIsWherever = (a b : Condition) → NeverFails (Join And a (Not b)) → FailsWherever a b
