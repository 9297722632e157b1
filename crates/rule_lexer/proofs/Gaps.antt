-- Blanks and comments in front of a text.
use Rattle.std.proofs.Common.{◌≡◌, refl, sym, subst, ℕ, suc, ◌+◌, ◌≤◌, ◌<◌, Bool, true, false, ◌||◌, ◌==◌, List, [], ◌∷◌, ◌++◌, length, take, drop, get_or, drop-cons, length-drop, length-take-le, drop-drop, take-append-drop, arith}
use Rattle.std.specs.List.{list_all, list_any, prefix_len}
use Rattle.lc_model.specs.Text.Token.{Cuts, here, blank, comment, IsComment, is_blank, line_feed}
use Rattle.rule_lexer.specs.Front.{begins, is_line_byte, is_number_sign}
use Rattle.lc_model.proofs.Facts.{and_second, and_first}
use Rattle.rule_lexer.proofs.Runs.{run_passes, run_stops, run_begins, take_run, drop_run}
use Rattle.rule_lexer.proofs.Cutting.{join}

-- ---- one comment

no_feed : (front : List ℕ) → list_all is_line_byte front ≡ true → list_any (◌==◌ line_feed) front ≡ false
no_feed [] all = refl
no_feed (c ∷ cs) all = go (is_line_byte c) refl (and_first (is_line_byte c) _ all) (no_feed cs (and_second (is_line_byte c) _ all))
  where
    go : (b : Bool) → is_line_byte c ≡ b → b ≡ true → list_any (◌==◌ line_feed) cs ≡ false → (line_feed == c || list_any (◌==◌ line_feed) cs) ≡ false
    go b e is others = let other : (line_feed == c) ≡ false = grind (arith, e, is) in rw other others

ends_line : (c : ℕ) (front rest : List ℕ) → is_number_sign c ≡ true → list_all is_line_byte front ≡ true → begins is_line_byte rest ≡ false →
    IsComment (c ∷ front) rest
ends_line c front [] sign all stops = (grind (arith, sign), no_feed front all, tt)
ends_line c front (d ∷ ds) sign all stops = (grind (arith, sign), no_feed front all, grind (arith, stops))

sign_is_line_byte : (c : ℕ) → is_number_sign c ≡ true → is_line_byte c ≡ true
sign_is_line_byte c e = grind (arith, e)

-- `#` and the rest of its line
pub comment_front : (text : List ℕ) → begins is_number_sign text ≡ true →
    IsComment (take (prefix_len is_line_byte text) text) (drop (prefix_len is_line_byte text) text)
comment_front [] sign = absurd (cc sign)
comment_front (c ∷ cs) sign =
    subst (λ w. IsComment w (drop (prefix_len is_line_byte (c ∷ cs)) (c ∷ cs))) (sym (take_run is_line_byte c cs (sign_is_line_byte c sign)))
    (subst (IsComment (c ∷ take (prefix_len is_line_byte cs) cs)) (sym (drop_run is_line_byte c cs (sign_is_line_byte c sign)))
    (ends_line c (take (prefix_len is_line_byte cs) cs) (drop (prefix_len is_line_byte cs) cs) sign (run_passes is_line_byte cs) (run_stops is_line_byte cs)))

pub comment_is_some : (text : List ℕ) → begins is_number_sign text ≡ true → 0 < prefix_len is_line_byte text
comment_is_some [] sign = absurd (cc sign)
comment_is_some (c ∷ cs) sign = omega (arith, run_begins is_line_byte c cs (sign_is_line_byte c sign))

-- ---- blanks and comments, one behind the other

-- the first bytes, this many, are blanks and comments
pub record GapSoFar (text : List ℕ) (count : ℕ) : Type 0 where
  pub within : count ≤ length text
  pub cuts : (at : ℕ) → Cuts at text [] (at + count) (drop count text)

pub no_gap_yet : (text : List ℕ) → GapSoFar text 0
no_gap_yet text = record {
  within = omega arith;
  cuts = λ at. let none : at ≡ at + 0 = omega arith in subst (λ n. Cuts at text [] n text) none here;
}

-- what is cut behind the gap so far joins it
further : (text : List ℕ) (count k : ℕ) → GapSoFar text count → count + k ≤ length text →
    ((at : ℕ) → Cuts at (drop count text) [] (at + k) (drop k (drop count text))) → GapSoFar text (count + k)
further text count k gap within cuts = record {
  within = within;
  cuts = λ at.
      let end : at + count + k ≡ at + (count + k) = omega arith in
      subst (λ n. Cuts at text [] n (drop (count + k) text)) end
      (subst (λ xs. Cuts at text [] (at + count + k) xs) (drop-drop k count text) (join (gap.cuts at) (cuts (at + count))));
}

pub blank_more : (text : List ℕ) (count : ℕ) → GapSoFar text count → count < length text → is_blank (get_or text count 0) ≡ true →
    GapSoFar text (count + 1)
blank_more text count gap within is = further text count 1 gap (omega arith) cuts
  where
    first : drop count text ≡ get_or text count 0 ∷ drop (suc count) text
    first = drop-cons text count 0 within

    cuts : (at : ℕ) → Cuts at (drop count text) [] (at + 1) (drop 1 (drop count text))
    cuts at = subst (λ xs. Cuts at xs [] (at + 1) (drop 1 xs)) (sym first) (blank is here)

pub comment_more : (text : List ℕ) (count k : ℕ) → GapSoFar text count → k ≤ length (drop count text) →
    IsComment (take k (drop count text)) (drop k (drop count text)) → GapSoFar text (count + k)
comment_more text count k gap fits is = further text count k gap whole cuts
  where
    whole : count + k ≤ length text
    whole = let inside = gap.within in omega (arith, length-drop count text)

    cuts : (at : ℕ) → Cuts at (drop count text) [] (at + k) (drop k (drop count text))
    cuts at =
        subst (λ xs. Cuts at xs [] (at + k) (drop k (drop count text))) (take-append-drop k (drop count text))
        (subst (λ n. Cuts at (take k (drop count text) ++ drop k (drop count text)) [] (at + n) (drop k (drop count text)))
        (length-take-le k (drop count text) fits) (comment (take k (drop count text)) is here))
