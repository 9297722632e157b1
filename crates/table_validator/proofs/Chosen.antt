-- The least code among tests in the order of their codes.
use Rattle.std.proofs.Common.{◌≡◌, refl, sym, ◌∙◌, ap, ℕ, Bool, true, false, not, ◌||◌, nat_lt, ◌==◌, List, [], ◌∷◌, ◌++◌, Some, None}
use Rattle.std.specs.Int.{is_in_range}
use Rattle.lc_model.specs.Tables.Entry.{event_id_field, event_type_field, fails_field, sequence_field, state_field, text_field}
use Rattle.lc_model.specs.Tables.Image.{first_code, is_text_field, all_words, actionpoint_code}
use Rattle.table_validator.specs.Scan.{word_tests}

-- the codes of tests that come first count
first_of_first : (tests others : List (Bool × ℕ)) (code : ℕ) → first_code tests ≡ Some code → first_code (tests ++ others) ≡ Some code
first_of_first [] others code e = absurd (cc e)
first_of_first (t ∷ tests) others code e = go t.0 refl (first_of_first tests others code)
  where
    go : (b : Bool) → t.0 ≡ b → (first_code tests ≡ Some code → first_code (tests ++ others) ≡ Some code) → first_code (t ∷ tests ++ others) ≡ Some code
    go true is rest = rw is (rw is at e)
    go false is rest = rw is (rest (rw is at e))

-- where none of them stands, those behind them count
first_of_second : (tests others : List (Bool × ℕ)) → first_code tests ≡ None → first_code (tests ++ others) ≡ first_code others
first_of_second [] others e = refl
first_of_second (t ∷ tests) others e = go t.0 refl (first_of_second tests others)
  where
    go : (b : Bool) → t.0 ≡ b → (first_code tests ≡ None → first_code (tests ++ others) ≡ first_code others) → first_code (t ∷ tests ++ others) ≡ first_code others
    go true is rest = absurd (cc (rw is at e))
    go false is rest = rw is (rest (rw is at e))

-- the tests of an actionpoint's entry
abbrev pub in_front : List ℕ → List (Bool × ℕ)
in_front e =
    (not (is_in_range 1 3 (state_field e)), 71)
    ∷ (not (is_in_range 1 4 (event_type_field e)) || nat_lt (event_id_field e) 1_000, 72)
    ∷ (not (is_text_field (text_field e)), 73) ∷ []

abbrev pub at_end : List ℕ → List (Bool × ℕ)
at_end e = (sequence_field e == 0 || fails_field e == 0, 81) ∷ []

pub none_in_front : (e : List ℕ) (state event text : Bool) → state ≡ is_in_range 1 3 (state_field e) → state ≡ true →
    event ≡ (not (is_in_range 1 4 (event_type_field e)) || nat_lt (event_id_field e) 1_000) → event ≡ false → text ≡ is_text_field (text_field e) → text ≡ true →
    first_code (in_front e) ≡ None
none_in_front e state event text state_is state_so event_is event_not text_is text_so =
    ap first_code (λ i. (not ((sym state_is ∙ state_so) i), 71) ∷ ((sym event_is ∙ event_not) i, 72) ∷ (not ((sym text_is ∙ text_so) i), 73) ∷ [])

-- behind tests in front that don't stand, the words' code counts, and then the last test
module _ (count : ℕ) (e : List ℕ) (none : first_code (in_front e) ≡ None) where
  pub by_words : (code : ℕ) → first_code (word_tests count (all_words e)) ≡ Some code → actionpoint_code count e ≡ Some code
  by_words code is =
      first_of_second (in_front e) (word_tests count (all_words e) ++ at_end e) none
      ∙ first_of_first (word_tests count (all_words e)) (at_end e) code is

  pub by_end : first_code (word_tests count (all_words e)) ≡ None → actionpoint_code count e ≡ first_code (at_end e)
  by_end is =
      first_of_second (in_front e) (word_tests count (all_words e) ++ at_end e) none
      ∙ first_of_second (word_tests count (all_words e)) (at_end e) is
