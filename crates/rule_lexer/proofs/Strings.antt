-- The string in front of a text.
use Rattle.std.proofs.Common.{◌≡◌, refl, sym, ◌∙◌, ap, subst, ℕ, ◌+◌, ◌≤◌, Bool, true, false, cond, ◌&&◌, ◌==◌, nat_le, List, [], ◌∷◌, ◌++◌, length, take, drop, length-append, append_assoc, take-append-drop, arith}
use Rattle.std.specs.List.{list_all, prefix_len}
use Rattle.std.proofs.lemmas.List.Folds.{length-prefix_len}
use Rattle.lc_model.specs.Text.Token.{BeginsNoLexeme, IsLongest, is_closed, is_lexeme, is_string, is_text_byte, quote}
use Rattle.lc_model.proofs.Facts.{tested_equal, and_first, and_second, and_true, not_true}
use Rattle.rule_lexer.specs.Front.{IsFront, begins, is_quote}
use Rattle.rule_lexer.proofs.Runs.{drop_more, run_passes, run_begins}
use Rattle.rule_lexer.proofs.TextFronts.{front_of}
use Rattle.rule_lexer.proofs.Lexemes.{string_alone}

-- text bytes and a quote are closed, and nothing can stand behind them
closed : (front : List ℕ) → list_all is_text_byte front ≡ true → is_closed (front ++ quote ∷ []) ≡ true
closed [] all = refl
closed (c ∷ []) all = and_true (is_text_byte c) _ (and_first (is_text_byte c) _ all) refl
closed (c ∷ d ∷ ds) all =
    and_true (is_text_byte c) _ (and_first (is_text_byte c) _ all) (closed (d ∷ ds) (and_second (is_text_byte c) _ all))

nothing_behind : (front more : List ℕ) → is_closed (front ++ quote ∷ more) ≡ true → more ≡ []
nothing_behind [] [] is = refl
nothing_behind [] (d ∷ more) is = absurd (cc is)
nothing_behind (c ∷ []) more is = nothing_behind [] more (and_second (is_text_byte c) _ is)
nothing_behind (c ∷ d ∷ ds) more is = nothing_behind (d ∷ ds) more (and_second (is_text_byte c) _ is)

quote_is_no_text_byte : (c : ℕ) → is_quote c ≡ true → is_text_byte c ≡ false
quote_is_no_text_byte c e = grind (arith, e)

-- what is closed is the text bytes in front and the quote behind them
pub run_of_closed : (ds others : List ℕ) → is_closed ds ≡ true →
    (prefix_len is_text_byte (ds ++ others) + 1 ≡ length ds) × (begins is_quote (drop (prefix_len is_text_byte (ds ++ others)) (ds ++ others)) ≡ true)
run_of_closed [] others is = absurd (cc is)
run_of_closed (c ∷ []) others is =
    let none : prefix_len is_text_byte (c ∷ others) ≡ 0 = ap (λ (b : Bool). cond b (1 + prefix_len is_text_byte others) 0) (quote_is_no_text_byte c is) in
    (rw none refl, rw none is)
run_of_closed (c ∷ d ∷ ds) others is =
    let run : prefix_len is_text_byte (c ∷ d ∷ ds ++ others) ≡ 1 + prefix_len is_text_byte (d ∷ ds ++ others) = run_begins is_text_byte c (d ∷ ds ++ others) (and_first (is_text_byte c) _ is) in
    let tail = run_of_closed (d ∷ ds) others (and_second (is_text_byte c) _ is) in
    let size : length (c ∷ d ∷ ds) ≡ 1 + length (d ∷ ds) = length-append (c ∷ []) (d ∷ ds) in (
      rw run (omega (arith, tail.0, size)),
      rw run (rw (drop_more (prefix_len is_text_byte (d ∷ ds ++ others)) c (d ∷ ds ++ others)) tail.1),
    )

-- the string of a quote, the text bytes behind it, and a quote behind them
string_of : (c : ℕ) (inner behind : List ℕ) → is_quote c ≡ true → list_all is_text_byte inner ≡ true → length inner ≤ 31 →
    IsFront is_string (c ∷ inner ++ quote ∷ behind) (length inner + 2)
string_of c inner behind begun all short =
    subst (λ text. IsFront is_string text (length inner + 2)) whole
    (subst (IsFront is_string ((c ∷ inner ++ quote ∷ []) ++ behind)) size (front_of is_string (c ∷ inner ++ quote ∷ []) behind is longest))
  where
    more : length (inner ++ quote ∷ []) ≡ length inner + 1
    more = length-append inner (quote ∷ [])

    size : length (c ∷ inner ++ quote ∷ []) ≡ length inner + 2
    size = omega (arith, more, length-append (c ∷ []) (inner ++ quote ∷ []))

    whole : (c ∷ inner ++ quote ∷ []) ++ behind ≡ c ∷ inner ++ quote ∷ behind
    whole = ap (λ (xs : List ℕ). c ∷ xs) (append_assoc inner (quote ∷ []) behind)

    is : is_string (c ∷ inner ++ quote ∷ []) ≡ true
    is =
        let fits : nat_le (length (inner ++ quote ∷ [])) 32 ≡ true = grind (arith, more, short) in
        and_true _ _ (and_true (is_quote c) _ begun (closed inner all)) fits

    longest : IsLongest (c ∷ inner ++ quote ∷ []) behind
    longest more others e lexeme =
        let string : is_string (c ∷ (inner ++ quote ∷ []) ++ more) ≡ true = sym (string_alone (c ∷ (inner ++ quote ∷ []) ++ more) begun) ∙ lexeme in
        let closed_whole : is_closed ((inner ++ quote ∷ []) ++ more) ≡ true = and_second (is_quote c) _ (and_first (is_quote c && is_closed ((inner ++ quote ∷ []) ++ more)) _ string) in
        nothing_behind inner more (sym (ap is_closed (append_assoc inner (quote ∷ []) more)) ∙ closed_whole)

-- a string in front, where a quote stands behind few text bytes
pub string_front : (text : List ℕ) → begins is_quote text ≡ true → prefix_len is_text_byte (drop 1 text) ≤ 31 →
    begins is_quote (drop (prefix_len is_text_byte (drop 1 text)) (drop 1 text)) ≡ true →
    IsFront is_string text (prefix_len is_text_byte (drop 1 text) + 2)
string_front [] begun short ends = absurd (cc begun)
string_front (c ∷ cs) begun short ends = go (drop (prefix_len is_text_byte cs) cs) refl ends
  where
    size : length (take (prefix_len is_text_byte cs) cs) ≡ prefix_len is_text_byte cs
    size = length-prefix_len is_text_byte cs

    go : (back : List ℕ) → drop (prefix_len is_text_byte cs) cs ≡ back → begins is_quote back ≡ true →
        IsFront is_string (c ∷ cs) (prefix_len is_text_byte cs + 2)
    go [] e none = absurd (cc none)
    go (d ∷ behind) e quoted =
        let parts : take (prefix_len is_text_byte cs) cs ++ quote ∷ behind ≡ cs =
        ap (λ x. take (prefix_len is_text_byte cs) cs ++ x ∷ behind) (sym (tested_equal d quote quoted))
        ∙ ap (λ xs. take (prefix_len is_text_byte cs) cs ++ xs) (sym e) ∙ take-append-drop (prefix_len is_text_byte cs) cs in
        subst (λ xs. IsFront is_string (c ∷ xs) (prefix_len is_text_byte cs + 2)) parts
        (subst (λ n. IsFront is_string (c ∷ take (prefix_len is_text_byte cs) cs ++ quote ∷ behind) (n + 2)) size
        (string_of c (take (prefix_len is_text_byte cs) cs) behind begun (run_passes is_text_byte cs) (omega (arith, size, short))))

-- no string in front, where none stands there
pub no_string_front : (text : List ℕ) → begins is_quote text ≡ true →
    (prefix_len is_text_byte (drop 1 text) ≤ 31 → begins is_quote (drop (prefix_len is_text_byte (drop 1 text)) (drop 1 text)) ≡ true → ⊥) →
    BeginsNoLexeme text
no_string_front [] begun none front rest e = absurd (cc begun)
no_string_front (c ∷ cs) begun none [] rest e = refl
no_string_front (c ∷ cs) begun none (d ∷ ds) rest e = not_true (is_lexeme (d ∷ ds)) impossible
  where
    first : is_quote d ≡ true
    first = let same : d ≡ c = cc e in ap is_quote same ∙ begun

    behind : ds ++ rest ≡ cs
    behind = cc e

    impossible : is_lexeme (d ∷ ds) ≡ true → ⊥
    impossible lexeme =
        let string : is_string (d ∷ ds) ≡ true = sym (string_alone (d ∷ ds) first) ∙ lexeme in
        let is : is_closed ds ≡ true = and_second (is_quote d) _ (and_first (is_quote d && is_closed ds) _ string) in
        let few : nat_le (length ds) 32 ≡ true = and_second (is_quote d && is_closed ds) _ string in
        let run = run_of_closed ds rest is in
        let short : prefix_len is_text_byte cs ≤ 31 = rw (sym behind) (grind (arith, run.0, few)) in
        none short (rw (sym behind) run.1)

-- strings by the parts that a program finds: what is behind the first quote, how many text bytes stand there, and what is
-- behind them
module _ (text inside behind : List ℕ) (count : ℕ) (begun : begins is_quote text ≡ true) (inside_is : inside ≡ drop 1 text)
    (count_is : count ≡ prefix_len is_text_byte inside) (behind_is : behind ≡ drop count inside) where
  count_of : count ≡ prefix_len is_text_byte (drop 1 text)
  count_of = count_is ∙ ap (prefix_len is_text_byte) inside_is

  behind_of : behind ≡ drop (prefix_len is_text_byte (drop 1 text)) (drop 1 text)
  behind_of = behind_is ∙ (λ i. drop (count_of i) (inside_is i))

  pub string_by_parts : count ≤ 31 → begins is_quote behind ≡ true → IsFront is_string text (count + 2)
  string_by_parts short ends =
      subst (λ n. IsFront is_string text (n + 2)) (sym count_of)
      (string_front text begun (subst (λ n. n ≤ 31) count_of short) (sym (ap (begins is_quote) behind_of) ∙ ends))

  pub no_string_by_parts : (count ≤ 31 → begins is_quote behind ≡ true → ⊥) → BeginsNoLexeme text
  no_string_by_parts none =
      no_string_front text begun (λ short ends. none (subst (λ n. n ≤ 31) (sym count_of) short) (ap (begins is_quote) behind_of ∙ ends))
