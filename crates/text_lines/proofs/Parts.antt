-- A list parted at some of its elements: its first part, and the others.
use Rattle.std.proofs.Common.{◌≡◌, refl, sym, ◌∙◌, ap, ℕ, suc, ◌+◌, Bool, true, false, not, ◌==◌, List, [], ◌∷◌, length, take, drop, arith}
use Rattle.std.specs.Prelude.{filter}
use Rattle.std.specs.List.{position_or_len, prefix_len}
use Rattle.lc_model.specs.Host.ScheduleText.{lines_of, onto_first, parted, words_of}
use Rattle.text_lines.specs.Lines.{is_blank}

one_more : (n : ℕ) → 1 + n ≡ suc n
one_more n = omega arith

not_none : (n : ℕ) → (suc n == 0) ≡ false
not_none n = grind arith

module _ (parts : ℕ → Bool) where
  -- behind the first part
  abbrev others : List ℕ → List (List ℕ)
  others [] = []
  others (byte ∷ bytes) = parted parts bytes

  -- the first part, and those behind it
  abbrev cut : List ℕ → List (List ℕ)
  cut xs = take (position_or_len parts xs) xs ∷ others (drop (position_or_len parts xs) xs)

  pub first_part : (xs : List ℕ) → parted parts xs ≡ cut xs
  first_part [] = refl
  first_part (x ∷ xs) = by_test (parts x) refl (first_part xs)
    where
      by_test : (b : Bool) → parts x ≡ b → parted parts xs ≡ cut xs → parted parts (x ∷ xs) ≡ cut (x ∷ xs)
      by_test true is later = rw is refl
      by_test false is later = rw (is, one_more (position_or_len parts xs)) (ap (onto_first x) later)

  -- ---- the parts that are not empty

  abbrev full : List (List ℕ) → List (List ℕ)
  full found = filter (λ part. not (length part == 0)) found

  abbrev full_parts : List ℕ → List (List ℕ)
  full_parts xs = full (parted parts xs)

  -- what parts them adds nothing in front
  others_full : (xs : List ℕ) → full (others (drop (position_or_len parts xs) xs)) ≡ full_parts (drop (position_or_len parts xs) xs)
  others_full [] = refl
  others_full (x ∷ xs) = by_test (parts x) refl (others_full xs)
    where
      by_test : (b : Bool) → parts x ≡ b → full (others (drop (position_or_len parts xs) xs)) ≡ full_parts (drop (position_or_len parts xs) xs) →
          full (others (drop (position_or_len parts (x ∷ xs)) (x ∷ xs))) ≡ full_parts (drop (position_or_len parts (x ∷ xs)) (x ∷ xs))
      by_test true is later = rw is (rw is refl)
      by_test false is later = rw (is, one_more (position_or_len parts xs)) later

  -- the first part and those behind it, where there is one
  abbrev pub by_front : List ℕ → List (List ℕ)
  by_front [] = []
  by_front (x ∷ xs) = take (position_or_len parts (x ∷ xs)) (x ∷ xs) ∷ full_parts (drop (position_or_len parts (x ∷ xs)) (x ∷ xs))

  full_is_kept : (x : ℕ) (part : List ℕ) (rest : List (List ℕ)) → full ((x ∷ part) ∷ rest) ≡ (x ∷ part) ∷ full rest
  full_is_kept x part rest = rw (not_none (length part)) refl

  first_is_kept : (x : ℕ) (xs : List ℕ) → parts x ≡ false → full (cut (x ∷ xs)) ≡ take (position_or_len parts (x ∷ xs)) (x ∷ xs) ∷ full (others (drop (position_or_len parts (x ∷ xs)) (x ∷ xs)))
  first_is_kept x xs is =
      rw (is, one_more (position_or_len parts xs)) (full_is_kept x (take (position_or_len parts xs) xs) (others (drop (position_or_len parts xs) xs)))

  front_is_full : (x : ℕ) (xs : List ℕ) → parts x ≡ false → full_parts (x ∷ xs) ≡ by_front (x ∷ xs)
  front_is_full x xs is =
      ap full (first_part (x ∷ xs))
      ∙ first_is_kept x xs is
      ∙ ap (λ (found : List (List ℕ)). take (position_or_len parts (x ∷ xs)) (x ∷ xs) ∷ found) (others_full (x ∷ xs))

  pub full_parts_by_front : (xs : List ℕ) → full_parts xs ≡ by_front (drop (prefix_len parts xs) xs)
  full_parts_by_front [] = refl
  full_parts_by_front (x ∷ xs) = by_test (parts x) refl (full_parts_by_front xs)
    where
      by_test : (b : Bool) → parts x ≡ b → full_parts xs ≡ by_front (drop (prefix_len parts xs) xs) → full_parts (x ∷ xs) ≡ by_front (drop (prefix_len parts (x ∷ xs)) (x ∷ xs))
      by_test true is later = rw (is, one_more (prefix_len parts xs)) later
      by_test false is later =
          let none : drop (prefix_len parts (x ∷ xs)) (x ∷ xs) ≡ x ∷ xs = rw is refl in front_is_full x xs is ∙ sym (ap by_front none)

-- ---- lines

abbrev feeds : ℕ → Bool
feeds byte = byte == 10

pub last_line : (text front back : List ℕ) (n : ℕ) → n ≡ position_or_len feeds text → front ≡ take n text → back ≡ drop n text → (length back == 0) ≡ true →
    lines_of text ≡ front ∷ []
last_line text front [] n place is left none =
    first_part feeds text ∙ (λ i. take (sym place i) text ∷ others feeds (drop (sym place i) text)) ∙ (λ i. sym is i ∷ others feeds (sym left i))
last_line text front (x ∷ back) n place is left none = absurd (cc (sym (not_none (length back)) ∙ none))

pub more_lines : (text front back rest : List ℕ) (n : ℕ) → n ≡ position_or_len feeds text → front ≡ take n text → back ≡ drop n text → (length back == 0) ≡ false →
    rest ≡ drop 1 back → lines_of text ≡ front ∷ lines_of rest
more_lines text front [] rest n place is left some behind = absurd (cc some)
more_lines text front (x ∷ back) rest n place is left some behind =
    first_part feeds text
    ∙ (λ i. take (sym place i) text ∷ others feeds (drop (sym place i) text))
    ∙ (λ i. sym is i ∷ others feeds (sym left i))
    ∙ (λ i. front ∷ lines_of (sym behind i))

-- ---- words

pub no_words : (line from : List ℕ) (n : ℕ) → n ≡ prefix_len is_blank line → from ≡ drop n line → (length from == 0) ≡ true → words_of line ≡ []
no_words line [] n blanks is none =
    full_parts_by_front is_blank line ∙ (λ i. by_front is_blank (drop (sym blanks i) line)) ∙ ap (by_front is_blank) (sym is)
no_words line (x ∷ from) n blanks is none = absurd (cc (sym (not_none (length from)) ∙ none))

pub more_words : (line from word rest : List ℕ) (n m : ℕ) → n ≡ prefix_len is_blank line → from ≡ drop n line → (length from == 0) ≡ false →
    m ≡ position_or_len is_blank from → word ≡ take m from → rest ≡ drop m from → words_of line ≡ word ∷ words_of rest
more_words line [] word rest n m blanks is some place here left = absurd (cc some)
more_words line (x ∷ from) word rest n m blanks is some place here left =
    full_parts_by_front is_blank line
    ∙ (λ i. by_front is_blank (drop (sym blanks i) line))
    ∙ ap (by_front is_blank) (sym is)
    ∙ (λ i. take (sym place i) (x ∷ from) ∷ words_of (drop (sym place i) (x ∷ from)))
    ∙ (λ i. sym here i ∷ words_of (sym left i))
