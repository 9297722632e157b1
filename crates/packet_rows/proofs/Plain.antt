-- A plain text needs no escapes.
use Rattle.std.proofs.Common.{◌≡◌, refl, sym, ◌∙◌, ap, ap₂, ℕ, Bool, true, false, ◌&&◌, List, [], ◌∷◌, ◌++◌, fold, append_assoc, append-nil, arith}
use Rattle.json.specs.Print.{escape, escape_byte, print, print_from, quoted}
use Rattle.json.specs.Token.{string}
use Rattle.packet_rows.specs.Object.{is_plain, is_plain_byte}

-- one byte that is no plain one is enough
stays : (xs : List ℕ) → fold (λ is x. is && is_plain_byte x) false xs ≡ false
stays [] = refl
stays (x ∷ xs) = stays xs

plain_byte : (x : ℕ) → is_plain_byte x ≡ true → escape_byte x ≡ x ∷ []
unfolding escape_byte
plain_byte x is = grind (arith, is)

pub plain_text : (text : List ℕ) → is_plain text ≡ true → escape text ≡ text
plain_text [] is = refl
plain_text (x ∷ xs) is = by_test (is_plain_byte x) refl is (plain_text xs)
  where
    by_test : (t : Bool) → is_plain_byte x ≡ t → fold (λ is x. is && is_plain_byte x) t xs ≡ true → (is_plain xs ≡ true → escape xs ≡ xs) → escape (x ∷ xs) ≡ x ∷ xs
    by_test true plain rest others = ap₂ (λ a b. a ++ b) (plain_byte x plain) (others rest)
    by_test false plain rest others = absurd (cc (sym (stays xs) ∙ rest))

-- a plain text in quotes, as it is pushed
pub plain_string : (before quote with_text all text : List ℕ) → is_plain text ≡ true →
    quote ≡ before ++ 34 ∷ [] → with_text ≡ quote ++ text → all ≡ with_text ++ 34 ∷ [] → all ≡ before ++ quoted text
plain_string before quote with_text all text plain first second third =
    third
    ∙ ap (λ x. x ++ 34 ∷ []) (second ∙ ap (λ x. x ++ text) first)
    ∙ append_assoc (before ++ 34 ∷ []) text (34 ∷ [])
    ∙ append_assoc before (34 ∷ []) (text ++ 34 ∷ [])
    ∙ ap (λ x. before ++ 34 ∷ (x ++ 34 ∷ [])) (sym (plain_text text plain))

-- what a writer prints of one string
pub one_string : (text : List ℕ) → print (string text ∷ []) ≡ quoted text
unfolding print_from
one_string text = append-nil (quoted text)
