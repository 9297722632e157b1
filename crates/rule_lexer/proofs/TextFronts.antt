-- What stands in front of a text, of which it is a part.
use Rattle.std.proofs.Common.{◌≡◌, refl, sym, ◌∙◌, ap, subst, ℕ, Bool, true, List, ◌++◌, length, drop, length-append, arith}
use Rattle.std.proofs.lemmas.List.{take_at, drop_at}
use Rattle.lc_model.specs.Text.Token.{IsLongest}
use Rattle.rule_lexer.specs.Front.{IsFront}

-- the part in front is what its bytes are
pub front_of : (test : List ℕ → Bool) (w rest : List ℕ) → test w ≡ true → IsLongest w rest → IsFront test (w ++ rest) (length w)
front_of test w rest passes longest = record {
  within = omega (arith, length-append w rest);
  passes = ap test (take_at w rest (length w) refl) ∙ passes;
  longest = subst (λ x. IsLongest x (drop (length w) (w ++ rest))) (sym (take_at w rest (length w) refl))
      (subst (IsLongest w) (sym (drop_at w rest (length w) refl)) longest);
}
