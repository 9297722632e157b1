-- The lines of a script, as parts of it.
use Rattle.std.proofs.Common.{◌≡◌, refl, sym, ◌∙◌, ap, ℕ, Bool, true, false, List, [], ◌∷◌, ◌++◌, map, append_assoc, Option, Some, None, is_none, Result, subst}
use denote.Ref.{Bor}
use Rattle.lc_model.specs.Host.ScheduleText.{onto_first, parted}
use Rattle.scenario_trial.specs.declared.expectation_lines.ReadError.{ReadError}
use Rattle.scenario_trial.specs.Reading.{IsReadError, PlacedExpected, ReadFault, lines_expected}
use Rattle.std.specs.List.{join_with_byte}
use Rattle.text_lines.specs.Lines.{is_feed, lines_in}
use Rattle.scenario_trial.specs.Reading.{silenced_line}

-- a first part, and others
pub record AreSome (parts : List (List ℕ)) : Type 0 where
  pub first : List ℕ
  pub others : List (List ℕ)
  pub are : parts ≡ first ∷ others

module _ (ends : ℕ → Bool) where
  pub some_parts : (text : List ℕ) → AreSome (parted ends text)
  some_parts [] = record { first = []; others = []; are = refl }
  some_parts (byte ∷ bytes) = by_test (ends byte) refl (some_parts bytes)
    where
      by_test : (b : Bool) → ends byte ≡ b → AreSome (parted ends bytes) → AreSome (parted ends (byte ∷ bytes))
      by_test true is rest = record { first = []; others = parted ends bytes; are = rw is refl }
      by_test false is rest = record { first = byte ∷ rest.first; others = rest.others; are = rw is (ap (onto_first byte) rest.are) }

-- the parts of what is left, where something is
pub some_left : (rest : Option (Bor (List ℕ))) → is_none rest ≡ false → AreSome (lines_in rest)
some_left None some = absurd (cc some)
some_left (Some text) some = some_parts is_feed text.now

-- a line and its end, in front of others
pub join_more : (quiet text line : List ℕ) (parts : List (List ℕ)) → AreSome parts → text ≡ (quiet ++ silenced_line line) ++ 10 ∷ [] →
    text ++ join_with_byte 10 (map silenced_line parts) ≡ quiet ++ join_with_byte 10 (map silenced_line (line ∷ parts))
join_more quiet text line parts some is =
    ap (λ (front : List ℕ). front ++ join_with_byte 10 (map silenced_line parts)) is
    ∙ append_assoc (quiet ++ silenced_line line) (10 ∷ []) (join_with_byte 10 (map silenced_line parts))
    ∙ append_assoc quiet (silenced_line line) (10 ∷ join_with_byte 10 (map silenced_line parts))
    ∙ ap (λ (rest : List ℕ). quiet ++ rest)
    (ap (λ (others : List (List ℕ)). silenced_line line ++ 10 ∷ join_with_byte 10 (map silenced_line others)) some.are
    ∙ sym (ap (λ (others : List (List ℕ)). join_with_byte 10 (map silenced_line (line ∷ others))) some.are))

-- the line in front of what is left is refused, and so is the script
pub line_refused : (found : List PlacedExpected) (n : ℕ) (left : Option (Bor (List ℕ))) (line : List ℕ) (rest : Option (Bor (List ℕ)))
    (whole : Result (List PlacedExpected) ReadFault) (error : ReadError) →
    lines_expected found n (lines_in left) ≡ whole → lines_in left ≡ line ∷ lines_in rest →
    ((lines : List (List ℕ)) → IsReadError (lines_expected found n (line ∷ lines)) error) → IsReadError whole error
line_refused found n left line rest whole error says parts refuses =
    subst (λ (r : Result (List PlacedExpected) ReadFault). IsReadError r error) (sym (ap (lines_expected found n) parts) ∙ says) (refuses (lines_in rest))
