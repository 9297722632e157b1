-- A text splits, or has a bad token.
use Rattle.std.proofs.Common.{◌≡◌, refl, sym, ◌∙◌, ap, subst, ℕ, zero, suc, ◌+◌, ◌≤◌, ◌<◌, ◌⊎◌, inl, inr, Bool, true, false, ◌&&◌, ◌||◌, ◌==◌, nat_le, List, [], ◌∷◌, ◌++◌, length, Option, Some, None, is_some, append-nil, append_assoc, length-append, arith}
use Rattle.std.specs.List.{list_any}
use Rattle.lc_model.specs.Text.Token.{Token, Cuts, here, blank, comment, token, Splits, IsComment, IsLongest, is_blank, is_token, is_lexeme, is_word, is_numeral, is_string, is_sign, number, longest_name, longest_text, line_feed, number_sign, quote, IsBad, bad_byte, bad_number, name_too_long, bad_string, HasBadToken}
use Rattle.lc_model.proofs.Texts.Tokens.{longest_at_end}

-- ---- the longest lexeme

abbrev Longest : List ℕ → List ℕ → Type 0
Longest front rest =
    ((more others : List ℕ) × (more ++ others ≡ rest) × (is_lexeme (front ++ more) ≡ true) × IsLongest (front ++ more) others)
    ⊎ ((more others : List ℕ) → more ++ others ≡ rest → is_lexeme (front ++ more) ≡ false)

find_longest : (rest front : List ℕ) → Longest front rest
find_longest [] front = go (is_lexeme front) refl
  where
    none : is_lexeme front ≡ false → (more others : List ℕ) → more ++ others ≡ [] → is_lexeme (front ++ more) ≡ false
    none e [] others e' = ap is_lexeme (append-nil front) ∙ e
    none e (x ∷ more) others e' = absurd (cc e')

    go : (b : Bool) → is_lexeme front ≡ b → Longest front []
    go true e = inl ([], [], refl, ap is_lexeme (append-nil front) ∙ e, longest_at_end (front ++ []))
    go false e = inr (none e)
find_longest (r ∷ rest) front = go (find_longest rest (front ++ r ∷ [])) (is_lexeme front) refl
  where
    regroup : (x : ℕ) (more : List ℕ) → x ≡ r → front ++ x ∷ more ≡ (front ++ r ∷ []) ++ more
    regroup x more same = ap (λ y. front ++ y ∷ more) same ∙ sym (append_assoc front (r ∷ []) more)

    stop : ((more others : List ℕ) → more ++ others ≡ rest → is_lexeme ((front ++ r ∷ []) ++ more) ≡ false) → IsLongest (front ++ []) (r ∷ rest)
    stop none [] others e fit = refl
    stop none (x ∷ more) others e fit =
        let same : x ≡ r = cc e in
        absurd (cc (none more others (cc e), sym (ap is_lexeme (ap (λ xs. xs ++ x ∷ more) (append-nil front) ∙ regroup x more same)) ∙ fit))

    none_at : is_lexeme front ≡ false → ((more others : List ℕ) → more ++ others ≡ rest → is_lexeme ((front ++ r ∷ []) ++ more) ≡ false) →
        (more others : List ℕ) → more ++ others ≡ r ∷ rest → is_lexeme (front ++ more) ≡ false
    none_at is none [] others e = ap is_lexeme (append-nil front) ∙ is
    none_at is none (x ∷ more) others e = let same : x ≡ r = cc e in ap is_lexeme (regroup x more same) ∙ none more others (cc e)

    go : Longest (front ++ r ∷ []) rest → (b : Bool) → is_lexeme front ≡ b → Longest front (r ∷ rest)
    go (inl f) b e = inl (
      r ∷ f.0,
      f.1,
      ap (λ (xs : List ℕ). r ∷ xs) f.2,
      ap is_lexeme (sym (append_assoc front (r ∷ []) f.0)) ∙ f.3,
      subst (λ w. IsLongest w f.1) (append_assoc front (r ∷ []) f.0) f.4,
    )
    go (inr none) true e = inl ([], r ∷ rest, refl, ap is_lexeme (append-nil front) ∙ e, stop none)
    go (inr none) false e = inr (none_at e none)

-- ---- comments

comment_end : (cs : List ℕ) → (inside rest : List ℕ) × (inside ++ rest ≡ cs) × IsComment (number_sign ∷ inside) rest
comment_end [] = ([], [], refl, (refl, refl, tt))
comment_end (c ∷ cs) = go (line_feed == c) refl (comment_end cs)
  where
    go : (b : Bool) → (line_feed == c) ≡ b → ((inside rest : List ℕ) × (inside ++ rest ≡ cs) × IsComment (number_sign ∷ inside) rest) →
        (inside rest : List ℕ) × (inside ++ rest ≡ c ∷ cs) × IsComment (number_sign ∷ inside) rest
    go true e others = ([], c ∷ cs, refl, (refl, refl, grind (arith, e)))
    go false e others = (
      c ∷ others.0,
      others.1,
      ap (λ (xs : List ℕ). c ∷ xs) others.2,
      (refl, ap (λ b. b || list_any (◌==◌ line_feed) others.0) e ∙ others.3.1, others.3.2),
    )

-- ---- a lexeme is a token, or bad

no_value : {A : Type 0} (o : Option A) → is_some o ≡ false → o ≡ None
no_value None e = refl
no_value (Some n) e = absurd (cc e)

too_many : (n : ℕ) → nat_le n longest_name ≡ false → longest_name < n
too_many n e = grind (arith, e)

abbrev Bad : List ℕ → Type 0
Bad text = (code : ℕ) × IsBad code text

bad_lexeme : (w rest : List ℕ) → is_lexeme w ≡ true → IsLongest w rest → is_token w ≡ false → Bad (w ++ rest)
bad_lexeme w rest is longest none =
    go (is_word w) (is_numeral w) (is_string w) (is_sign w) refl refl is none
  where
    go : (a b c d : Bool) → is_word w ≡ a → is_numeral w ≡ b → (a || b || c || d) ≡ true →
        ((a && nat_le (length w) longest_name) || (b && is_some (number w)) || c || d) ≡ false → Bad (w ++ rest)
    go true b c d word numeral is none = long (nat_le (length w) longest_name) refl none
      where
        long : (x : Bool) → nat_le (length w) longest_name ≡ x → (x || (b && is_some (number w)) || c || d) ≡ false → Bad (w ++ rest)
        long true e none = absurd (cc none)
        long false e none = (3, name_too_long w rest word longest (too_many (length w) e))
    go false true c d word numeral is none = value (is_some (number w)) refl none
      where
        value : (x : Bool) → is_some (number w) ≡ x → (x || c || d) ≡ false → Bad (w ++ rest)
        value true e none = absurd (cc none)
        value false e none = (2, bad_number w rest numeral longest (no_value (number w) e))
    go false false true d word numeral is none = absurd (cc none)
    go false false false true word numeral is none = absurd (cc none)
    go false false false false word numeral is none = absurd (cc is)

-- ---- the cut

abbrev Cut : ℕ → List ℕ → Type 0
Cut at text =
    ((ts : List Token) × Cuts at text ts (at + length text) [])
    ⊎ ((ts : List Token) × (rest : List ℕ) × (end : ℕ) × (code : ℕ) × Cuts at text ts end rest × IsBad code rest)

behind : (at at' : ℕ) (text text' : List ℕ) → at' + length text' ≡ at + length text → (wrap : List Token → List Token) →
    ((ts : List Token) (end : ℕ) (rest : List ℕ) → Cuts at' text' ts end rest → Cuts at text (wrap ts) end rest) → Cut at' text' → Cut at text
behind at at' text text' same wrap step (inl c) =
    inl (wrap c.0, subst (λ n. Cuts at text (wrap c.0) n []) same (step c.0 (at' + length text') [] c.1))
behind at at' text text' same wrap step (inr c) = inr (wrap c.0, c.1, c.2, c.3, step c.0 c.2 c.1 c.4, c.5)

longer : (c : ℕ) (cs : List ℕ) → length (c ∷ cs) ≡ 1 + length cs
longer c cs = length-append (c ∷ []) cs

something : (w : List ℕ) → is_lexeme w ≡ true → 1 ≤ length w
something [] is = absurd (cc is)
something (c ∷ w) is = omega (arith, longer c w)

-- what is cut with what is known of shorter texts
abbrev Shorter : ℕ → Type 0
Shorter n = (at : ℕ) (text : List ℕ) → length text < n → Cut at text

in_comment : (at : ℕ) (inside rest : List ℕ) → IsComment (number_sign ∷ inside) rest → Shorter (length (number_sign ∷ inside ++ rest)) →
    Cut at (number_sign ∷ inside ++ rest)
in_comment at inside rest is again =
    let size : length (number_sign ∷ inside ++ rest) ≡ length (number_sign ∷ inside) + length rest = length-append (number_sign ∷ inside) rest in
    let more : length (number_sign ∷ inside) ≡ 1 + length inside = longer number_sign inside in
    behind at (at + length (number_sign ∷ inside)) (number_sign ∷ inside ++ rest) rest (omega (arith, size)) (λ ts. ts)
    (λ ts end tail cuts. comment (number_sign ∷ inside) is cuts)
    (again (at + length (number_sign ∷ inside)) rest (omega (arith, size, more)))

in_lexeme : (at : ℕ) (w rest : List ℕ) → is_lexeme w ≡ true → IsLongest w rest → Shorter (length (w ++ rest)) → Cut at (w ++ rest)
in_lexeme at w rest is longest again = go (is_token w) refl
  where
    size : length (w ++ rest) ≡ length w + length rest
    size = length-append w rest

    go : (b : Bool) → is_token w ≡ b → Cut at (w ++ rest)
    go true good =
        let some : 1 ≤ length w = something w is in
        behind at (at + length w) (w ++ rest) rest (omega (arith, size)) (λ ts. record { at = at; text = w } ∷ ts)
        (λ ts end tail cuts. token w good longest cuts) (again (at + length w) rest (omega (arith, size, some)))
    go false none = let bad = bad_lexeme w rest is longest none in inr ([], w ++ rest, at, bad.0, here, bad.1)

cut_one : (at c : ℕ) (cs : List ℕ) → Shorter (length (c ∷ cs)) → Cut at (c ∷ cs)
cut_one at c cs again = at_blank (is_blank c) refl
  where
    at_quote : is_blank c ≡ false → (c == number_sign) ≡ false → ((more others : List ℕ) → more ++ others ≡ c ∷ cs → is_lexeme more ≡ false) →
        (b : Bool) → (c == quote) ≡ b → Cut at (c ∷ cs)
    at_quote no_blank no_comment none true e = inr ([], c ∷ cs, at, 4, here, bad_string (grind (arith, e)) none)
    at_quote no_blank no_comment none false e =
        inr ([], c ∷ cs, at, 1, here, bad_byte no_blank (λ same. absurd (grind (arith, no_comment, same))) (λ same. absurd (grind (arith, e, same))) none)

    at_lexeme : is_blank c ≡ false → (c == number_sign) ≡ false → Longest [] (c ∷ cs) → Cut at (c ∷ cs)
    at_lexeme no_blank no_comment (inl f) =
        subst (Cut at) f.2 (in_lexeme at f.0 f.1 f.3 f.4 (subst (λ xs. Shorter (length xs)) (sym f.2) again))
    at_lexeme no_blank no_comment (inr none) = at_quote no_blank no_comment none (c == quote) refl

    at_comment : is_blank c ≡ false → (b : Bool) → (c == number_sign) ≡ b → Cut at (c ∷ cs)
    at_comment no_blank false e = at_lexeme no_blank e (find_longest (c ∷ cs) [])
    at_comment no_blank true e =
        let same : number_sign ≡ c = grind (arith, e) in
        let f = comment_end cs in
        let whole : number_sign ∷ f.0 ++ f.1 ≡ c ∷ cs = λ i. same i ∷ f.2 i in
        subst (Cut at) whole (in_comment at f.0 f.1 f.3 (subst (λ xs. Shorter (length xs)) (sym whole) again))

    at_blank : (b : Bool) → is_blank c ≡ b → Cut at (c ∷ cs)
    at_blank true is =
        let size : length (c ∷ cs) ≡ 1 + length cs = longer c cs in
        behind at (at + 1) (c ∷ cs) cs (omega (arith, size)) (λ ts. ts) (λ ts end rest cuts. blank is cuts)
        (again (at + 1) cs (omega (arith, size)))
    at_blank false is = at_comment is (c == number_sign) refl

cut_up : (n at : ℕ) (text : List ℕ) → length text < n → Cut at text
cut_up zero at text small = absurd (omega (arith, small))
cut_up (suc n) at [] small = inl ([], subst (λ m. Cuts at [] [] m []) nothing here)
  where
    nothing : at ≡ at + length {A = ℕ} []
    nothing = omega arith
cut_up (suc n) at (c ∷ cs) small =
    cut_one at c cs (λ at' text' shorter. cut_up n at' text' (omega (arith, small, shorter)))

pub has_tokens : (text : List ℕ) → length text ≤ longest_text →
    ((tokens : List Token) × Splits text tokens) ⊎ ((code : ℕ) × (at : ℕ) × HasBadToken text code at)
has_tokens text short = go (cut_up (length text + 1) 0 text (omega arith))
  where
    same : 0 + length text ≡ length text
    same = omega arith

    go : Cut 0 text → ((tokens : List Token) × Splits text tokens) ⊎ ((code : ℕ) × (at : ℕ) × HasBadToken text code at)
    go (inl c) = inl (c.0, (short, subst (λ n. Cuts 0 text c.0 n []) same c.1))
    go (inr c) = inr (c.3, c.2, (c.0, c.1, c.4, c.5))
