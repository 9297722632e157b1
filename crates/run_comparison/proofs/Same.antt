-- Lists of meanings that are the same by the test are equal.
use Rattle.std.proofs.Common.{◌≡◌, refl, sym, ◌∙◌, ap, arith, ℕ, ◌==◌, ◌&&◌, Bool, true, false, List, [], ◌∷◌, length, bytes_eq, Some, None}
use Rattle.std.proofs.lemmas.Bool.{eq-eqb, eqb-true, false≢true}
use Rattle.std.proofs.lemmas.Slice.Eq.{bytes_eq-Decides}
use Rattle.lc_model.specs.Codes.{event_code, event_numbered}
use Rattle.lc_model.specs.declared.rule.EventKind.{EventKind}
use Rattle.lc_model.specs.declared.rule.EventKind.TheVariants.{Debug, Information, Error, Critical}
use Rattle.run_stepper.specs.Trace.{packets_within}
use Rattle.run_comparison.specs.Asked.{sequences_in}
use Rattle.run_comparison.specs.Meaning.{Meaning, Request, Event}
use Rattle.run_comparison.specs.Met.{kept, shown_by}
use Rattle.run_comparison.specs.Order.{are_same, is_same}

and_left : (a b : Bool) → (a && b) ≡ true → a ≡ true
and_left true b is = refl
and_left false b is = absurd (false≢true is)

and_right : (a b : Bool) → (a && b) ≡ true → b ≡ true
and_right true b is = is
and_right false b is = absurd (false≢true is)

numbered : (kind : EventKind) → event_numbered (event_code kind) ≡ Some kind
numbered Debug = refl
numbered Information = refl
numbered Error = refl
numbered Critical = refl

same_kind : (kind other : EventKind) → event_code kind ≡ event_code other → kind ≡ other
same_kind kind other same = let is : Some kind ≡ Some other = sym (numbered kind) ∙ ap event_numbered same ∙ numbered other in cc is

same_one : (one other : Meaning) → is_same one other ≡ true → one ≡ other
same_one (Request sequence) (Request other) is = ap Request (eqb-true sequence other is)
same_one (Request sequence) (Event sender id kind before after) is = absurd (false≢true is)
same_one (Event sender id kind before after) (Request sequence) is = absurd (false≢true is)
same_one (Event sender id kind before after) (Event sender' id' kind' before' after') is =
    let numbers : Bool = id == id' in
    let kinds : Bool = event_code kind == event_code kind' in
    let senders : Bool = bytes_eq sender sender' in
    let fronts : Bool = bytes_eq before before' in
    let four = and_left (numbers && kinds && senders && fronts) (bytes_eq after after') is in
    let three = and_left (numbers && kinds && senders) fronts four in
    let two = and_left (numbers && kinds) senders three in
    let same_id : id ≡ id' = eqb-true id id' (and_left numbers kinds two) in
    let same_type : kind ≡ kind' = same_kind kind kind' (eqb-true (event_code kind) (event_code kind') (and_right numbers kinds two)) in
    let same_sender : sender ≡ sender' = (bytes_eq-Decides sender sender').0 (and_right (numbers && kinds) senders three) in
    let same_front : before ≡ before' = (bytes_eq-Decides before before').0 (and_right (numbers && kinds && senders) fronts four) in
    let same_end : after ≡ after' = (bytes_eq-Decides after after').0 (and_right (numbers && kinds && senders && fronts) (bytes_eq after after') is) in
    λ i. Event (same_sender i) (same_id i) (same_type i) (same_front i) (same_end i)

-- and equal lists are the same
bytes_same : (bytes : List ℕ) → bytes_eq bytes bytes ≡ true
bytes_same bytes = (bytes_eq-Decides bytes bytes).1 refl

number_same : (n : ℕ) → (n == n) ≡ true
number_same n = eq-eqb n n refl

one_same : (one : Meaning) → is_same one one ≡ true
one_same (Request sequence) = number_same sequence
one_same (Event sender id kind before after) =
    rw (number_same id, number_same (event_code kind), bytes_same sender, bytes_same before, bytes_same after) refl

all_same : (these : List Meaning) → are_same these these ≡ true
all_same [] = refl
all_same (one ∷ these) = rw (one_same one, all_same these) refl

pub equal_are_same : (these those : List Meaning) → these ≡ those → are_same these those ≡ true
equal_are_same these those equal = ap (are_same these) (sym equal) ∙ all_same these

pub same_are_equal : (these those : List Meaning) → are_same these those ≡ true → these ≡ those
same_are_equal [] [] is = refl
same_are_equal [] (other ∷ those) is = absurd (false≢true is)
same_are_equal (one ∷ these) [] is = absurd (false≢true is)
same_are_equal (one ∷ these) (other ∷ those) is =
    let first : one ≡ other = same_one one other (and_left (is_same one other) (are_same these those) is) in
    let rest : these ≡ those = same_are_equal these those (and_right (is_same one other) (are_same these those) is) in
    λ i. first i ∷ rest i

-- no packets request no sequence
pub none_requested : (packets : List ℕ) → (length packets == 0) ≡ true → [] ≡ sequences_in packets
unfolding packets_within
none_requested [] none = refl
none_requested (byte ∷ packets) none = absurd (omega (arith, eqb-true (length (byte ∷ packets)) 0 none))

-- a record that led to no packets is not kept
none_kept : (keeps_all : Bool) (number : ℕ) → None ≡ kept keeps_all (shown_by (record { number = number; old = []; new = [] }))
unfolding packets_within
none_kept true number = refl
none_kept false number = refl

pub nothing_kept : (keeps_all : Bool) (number : ℕ) (old new : List ℕ) → (length old == 0) ≡ true → (length new == 0) ≡ true →
    None ≡ kept keeps_all (shown_by (record { number = number; old = old; new = new }))
nothing_kept keeps_all number [] [] e f = none_kept keeps_all number
nothing_kept keeps_all number [] (byte ∷ new) e f = absurd (omega (arith, eqb-true (length (byte ∷ new)) 0 f))
nothing_kept keeps_all number (byte ∷ old) new e f = absurd (omega (arith, eqb-true (length (byte ∷ old)) 0 e))
