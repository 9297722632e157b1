-- What stands in front of a text that splits into tokens.
use Rattle.std.proofs.Common.{◌≡◌, ◌≢◌, refl, sym, ◌∙◌, subst, ℕ, suc, ◌+◌, ◌<◌, ◌≤◌, ◌⊎◌, inl, inr, true, false, ◌==◌, List, [], ◌∷◌, ◌++◌, length, take, drop, length-append, arith}
use Rattle.std.specs.List.{list_any, prefix_len}
use Rattle.std.proofs.Math.Seq.{take-append_seam, drop-append_seam}
use Rattle.lc_model.specs.Text.Token as model
use Rattle.lc_model.specs.Text.Token.{Cuts, here, blank, comment, token, IsComment, IsLongest, is_blank, is_token, line_feed, number_sign}
use Rattle.lc_model.proofs.Facts.{or_first, or_second, tested_equal}
use Rattle.lc_model.proofs.Texts.OneSplit.{blank_cases}
use Rattle.rule_layout.specs.Pieces.{begins_blank, is_line_byte}
use Rattle.rule_layout.specs.Shapes.{is_comment}

-- ---- first bytes

pub blank_no_token : (c : ℕ) (cs : List ℕ) → is_blank c ≡ true → is_token (c ∷ cs) ≡ false
blank_no_token c cs e = go (blank_cases c e)
  where
    go : ((c ≡ 32) ⊎ (c ≡ 9)) ⊎ ((c ≡ 10) ⊎ (c ≡ 13)) → is_token (c ∷ cs) ≡ false
    go (inl (inl s)) = rw s refl
    go (inl (inr s)) = rw s refl
    go (inr (inl s)) = rw s refl
    go (inr (inr s)) = rw s refl

pub blank_no_sign : (c : ℕ) → is_blank c ≡ true → c ≡ number_sign → ⊥
blank_no_sign c e s = cc (rw s at e)

pub sign_no_token : (c : ℕ) (cs : List ℕ) → c ≡ number_sign → is_token (c ∷ cs) ≡ false
sign_no_token c cs s = rw s refl

-- a comment in front, before its line feed or the end
line_end : (c : ℕ) (cs text : List ℕ) → IsComment (c ∷ cs) text → prefix_len is_line_byte (cs ++ text) ≡ length cs
line_end c [] [] i = refl
line_end c [] (d ∷ ds) i = let feed : d ≡ line_feed = i.2 in rw feed refl
line_end c (x ∷ cs) text i =
    let others : prefix_len is_line_byte (cs ++ text) ≡ length cs = line_end c cs text (i.0, or_second _ _ i.1, i.2) in
    let first : (line_feed == x) ≡ false = or_first _ (list_any (◌==◌ line_feed) cs) i.1 in
    let passes : is_line_byte x ≡ true = grind (arith, first) in
    let size : 1 + length cs ≡ suc (length cs) = omega arith in
    rw (passes, others) size

pub comment_length : (c : ℕ) (cs text : List ℕ) → IsComment (c ∷ cs) text → prefix_len is_line_byte ((c ∷ cs) ++ text) ≡ length (c ∷ cs)
comment_length c cs text i =
    let sign : c ≡ number_sign = i.0 in
    let passes : is_line_byte c ≡ true = rw sign refl in
    let size : 1 + length cs ≡ suc (length cs) = omega arith in
    rw (passes, line_end c cs text i) size

-- ---- steps

-- behind a blank the text splits as before
pub behind_blank : {at end : ℕ} {text : List ℕ} {ts : List model.Token} → Cuts at text ts end [] →
    (c : ℕ) (rest : List ℕ) → text ≡ c ∷ rest → is_blank c ≡ true → Cuts (at + 1) rest ts end []
behind_blank here c rest e is = absurd (cc e)
behind_blank {at = at} {end = end} {ts = ts} (blank b cuts) c rest e is = subst (λ t. Cuts (at + 1) t ts end []) (cc e) cuts
behind_blank (comment [] i cuts) c rest e is = absurd i
behind_blank (comment (d ∷ ds) i cuts) c rest e is =
    let same : c ≡ d = sym (cc e) in
    absurd (blank_no_sign c is (same ∙ i.0))
behind_blank (token [] good longest cuts) c rest e is = absurd (cc good)
behind_blank (token (d ∷ ds) good longest cuts) c rest e is =
    let same : d ≡ c = cc e in
    absurd (cc (rw same at good, blank_no_token c ds is))

-- what a comment in front is, and how the text splits behind it
pub record HasComment (at end : ℕ) (text : List ℕ) (ts : List model.Token) (n : ℕ) : Type 0 where
  pub is : IsComment (take n text) (drop n text)
  pub cuts : Cuts (at + n) (drop n text) ts end []
  pub some : length (drop n text) < length text

with_comment : (at end : ℕ) (bytes rest : List ℕ) (ts : List model.Token) (n : ℕ) → n ≡ length bytes → 0 < length bytes → IsComment bytes rest →
    Cuts (at + length bytes) rest ts end [] → HasComment at end (bytes ++ rest) ts n
with_comment at end bytes rest ts n size some i cuts = record {
  is = rw (size, take-append_seam bytes rest, drop-append_seam bytes rest) i;
  cuts = rw (size, drop-append_seam bytes rest) cuts;
  some = rw (size, drop-append_seam bytes rest) (omega (arith, some, length-append bytes rest));
}

pub behind_comment : {at end : ℕ} {text : List ℕ} {ts : List model.Token} → Cuts at text ts end [] →
    is_comment text ≡ true → HasComment at end text ts (prefix_len is_line_byte text)
behind_comment here e = absurd (cc e)
behind_comment (blank {c = c} b cuts) e = absurd (blank_no_sign c b (tested_equal c number_sign e))
behind_comment (comment [] i cuts) e = absurd i
behind_comment {at = at} {end = end} {ts = ts} (comment {text = rest} (d ∷ ds) i cuts) e =
    with_comment at end (d ∷ ds) rest ts (prefix_len is_line_byte ((d ∷ ds) ++ rest)) (comment_length d ds rest i) (omega arith) i cuts
behind_comment (token [] good longest cuts) e = absurd (cc good)
behind_comment (token (d ∷ ds) good longest cuts) e =
    let sign : d ≡ number_sign = tested_equal d number_sign e in
    absurd (cc (good, sign_no_token d ds sign))

-- the token in front, and how the text splits behind it
pub record HasToken (at end : ℕ) (text : List ℕ) (ts : List model.Token) : Type 0 where
  pub first : model.Token
  pub others : List model.Token
  pub are : ts ≡ first ∷ others
  pub is : take (length first.text) text ≡ first.text
  pub within : length first.text ≤ length text
  pub good : is_token first.text ≡ true
  pub longest : IsLongest first.text (drop (length first.text) text)
  pub cuts : Cuts (at + length first.text) (drop (length first.text) text) others end []
  pub some : length (drop (length first.text) text) < length text

with_token : (at end : ℕ) (word rest : List ℕ) (others : List model.Token) → 0 < length word → is_token word ≡ true → IsLongest word rest →
    Cuts (at + length word) rest others end [] → HasToken at end (word ++ rest) (record { at = at; text = word } ∷ others)
with_token at end word rest others some good longest cuts = record {
  first = record { at = at; text = word };
  others = others;
  are = refl;
  is = take-append_seam word rest;
  within = omega (arith, length-append word rest);
  good = good;
  longest = rw (drop-append_seam word rest) longest;
  cuts = rw (drop-append_seam word rest) cuts;
  some = rw (drop-append_seam word rest) (omega (arith, some, length-append word rest));
}

pub at_token : {at end : ℕ} {text : List ℕ} {ts : List model.Token} → Cuts at text ts end [] → text ≢ [] →
    begins_blank text ≡ false → is_comment text ≡ false → HasToken at end text ts
at_token here some b s = absurd (some refl)
at_token (blank is cuts) some b s = absurd (cc (is, b))
at_token (comment [] i cuts) some b s = absurd i
at_token (comment (d ∷ ds) i cuts) some b s =
    let sign : d ≡ number_sign = i.0 in
    absurd (cc (rw sign at s))
at_token (token [] good longest cuts) some b s = absurd (cc good)
at_token {at = at} {end = end} (token {text = rest} {tokens = others} (d ∷ ds) good longest cuts) some b s =
    with_token at end (d ∷ ds) rest others (omega arith) good longest cuts
