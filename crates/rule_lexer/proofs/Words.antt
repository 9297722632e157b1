-- The word in front of a text.
use Rattle.std.proofs.Common.{◌≡◌, refl, sym, ◌∙◌, ap, subst, ℕ, true, false, List, [], ◌∷◌, ◌++◌, take, drop}
use Rattle.std.specs.List.{prefix_len}
use Rattle.std.proofs.lemmas.List.Sums.{prefix_len-le-length}
use Rattle.lc_model.specs.Text.Token.{IsLongest, is_letter, is_word, is_word_byte}
use Rattle.rule_lexer.specs.Front.{IsFront, begins}
use Rattle.lc_model.proofs.Facts.{and_true, and_second}
use Rattle.rule_lexer.proofs.Runs.{run_passes, run_stops, take_run, drop_run, nothing_more}
use Rattle.rule_lexer.proofs.Lexemes.{word_alone}

letter_is_word_byte : (c : ℕ) → is_letter c ≡ true → is_word_byte c ≡ true
letter_is_word_byte c e = rw e refl

longest_word : (c : ℕ) (front rest : List ℕ) → is_letter c ≡ true → begins is_word_byte rest ≡ false → IsLongest (c ∷ front) rest
longest_word c front rest letter stops more others e lexeme =
    nothing_more is_word_byte front more others rest stops e (and_second (is_letter c) _ (sym (word_alone (c ∷ front ++ more) letter) ∙ lexeme))

-- the bytes of words in front are a word, and the longest, where a letter is the first
pub word_front : (text : List ℕ) → begins is_letter text ≡ true → IsFront is_word text (prefix_len is_word_byte text)
word_front [] letter = absurd (cc letter)
word_front (c ∷ cs) letter = record {
  within = prefix_len-le-length is_word_byte (c ∷ cs);
  passes = ap is_word front ∙ and_true (is_letter c) _ letter (run_passes is_word_byte cs);
  longest = subst (λ w. IsLongest w (drop (prefix_len is_word_byte (c ∷ cs)) (c ∷ cs))) (sym front)
      (subst (IsLongest (c ∷ take (prefix_len is_word_byte cs) cs)) (sym back) (longest_word c (take (prefix_len is_word_byte cs) cs) (drop (prefix_len is_word_byte cs) cs) letter (run_stops is_word_byte cs)));
}
  where
    first : is_word_byte c ≡ true
    first = letter_is_word_byte c letter

    front : take (prefix_len is_word_byte (c ∷ cs)) (c ∷ cs) ≡ c ∷ take (prefix_len is_word_byte cs) cs
    front = take_run is_word_byte c cs first

    back : drop (prefix_len is_word_byte (c ∷ cs)) (c ∷ cs) ≡ drop (prefix_len is_word_byte cs) cs
    back = drop_run is_word_byte c cs first
