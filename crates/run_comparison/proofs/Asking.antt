-- The sequences that the records of two runs requested, record by record.
use Rattle.std.proofs.Common.{◌≡◌, refl, sym, ◌∙◌, ap, subst, ℕ, zero, suc, ◌+◌, ◌<◌, ◌≤◌, ◌==◌, ◌||◌, Bool, true, false, List, [], ◌∷◌, ◌++◌, cond, filter, length, length-append, map, min, nat_lt, nat_le, take, arith}
use Rattle.std.specs.List.{concat, list_any}
use Rattle.std.proofs.lemmas.Bool.{false≢true, leb-false, leb-true, lt-ltb, ltb-false, ltb-true, eqb-true}
use Rattle.std.proofs.Math.Bool.{or-true}
use Rattle.std.proofs.lemmas.List.{append-nil, map-append, take-append-le, take_all, take_min}
use Rattle.std.proofs.lemmas.List.Elements.{filter-append}
use Rattle.std.proofs.lemmas.List.Folds.{concat-append}
use Rattle.run_comparison.specs.Asked.{HasAsked, HasNew, asked_by, count_of, is_ahead, sequences_in}
use Rattle.run_comparison.specs.declared.asked.Asked.{Asked}

-- what one record more requests
asked_more : (records : List (List ℕ)) (one : List ℕ) → asked_by (records ++ one ∷ []) ≡ asked_by records ++ sequences_in one
asked_more records one =
    ap concat (map-append sequences_in records (one ∷ []))
    ∙ concat-append (map sequences_in records) (sequences_in one ∷ [])
    ∙ ap (λ more. asked_by records ++ more) (append-nil (sequences_in one))

count_both : (s : ℕ) (xs ys : List ℕ) → count_of s (xs ++ ys) ≡ count_of s xs + count_of s ys
count_both s xs ys = ap length (filter-append (λ other. other == s) xs ys) ∙ length-append (filter (λ other. other == s) xs) (filter (λ other. other == s) ys)

-- ---- tests

some_first : (b : Bool) (s : ℕ) (p : ℕ → Bool) (x : ℕ) (xs : List ℕ) → (x == s) ≡ b → 0 < length (cond b (x ∷ filter (λ other. other == s) xs) (filter (λ other. other == s) xs)) → p s ≡ true →
    (0 < count_of s xs → list_any p xs ≡ true) → (p x || list_any p xs) ≡ true
some_first true s p x xs same more is rest = ap (λ b. b || list_any p xs) (ap p (eqb-true x s same) ∙ is)
some_first false s p x xs same more is rest = ap (λ b. p x || b) (rest more) ∙ or-true (p x)

-- one that is in a list, and passes
some_of : (s : ℕ) (p : ℕ → Bool) (xs : List ℕ) → 0 < count_of s xs → p s ≡ true → list_any p xs ≡ true
some_of s p [] more is = absurd (omega (arith, more))
some_of s p (x ∷ xs) more is = some_first (x == s) s p x xs refl more is (λ m. some_of s p xs m is)

someone_first : (b : Bool) (p : ℕ → Bool) (x : ℕ) (xs : List ℕ) → p x ≡ b → (b || list_any p xs) ≡ true → (list_any p xs ≡ true → (y : ℕ) × (p y ≡ true)) → (y : ℕ) × (p y ≡ true)
someone_first true p x xs same is rest = (x, same)
someone_first false p x xs same is rest = rest is

someone : (p : ℕ → Bool) (xs : List ℕ) → list_any p xs ≡ true → (y : ℕ) × (p y ≡ true)
someone p [] is = absurd (false≢true is)
someone p (x ∷ xs) is = someone_first (p x) p x xs refl is (someone p xs)

-- ---- one record more

module _ (olds news : List (List ℕ)) (old new : List ℕ) (even : length news ≡ length olds) where
  abbrev all_olds : List (List ℕ)
  all_olds = olds ++ old ∷ []

  abbrev all_news : List (List ℕ)
  all_news = news ++ new ∷ []

  front : (all : List (List ℕ)) (one : List ℕ) (n : ℕ) → take (min n (length all)) (all ++ one ∷ []) ≡ take n all
  front all one n = take-append-le (min n (length all)) all (one ∷ []) (omega arith) ∙ take_min n all

  new_kept : HasNew olds news → HasNew all_olds all_news
  new_kept has = record {
    records = min has.records (length olds);
    sequence = has.sequence;
    more = omega (
      arith,
      has.more,
      ap (λ records. count_of has.sequence (asked_by records)) (front olds old has.records),
      ap (λ records. count_of has.sequence (asked_by records)) (ap (λ long. take (min has.records long) all_news) (sym even) ∙ front news new has.records),
    );
  }

  new_now : (s : ℕ) → count_of s (asked_by all_olds) < count_of s (asked_by all_news) → HasNew all_olds all_news
  new_now s more = record {
    records = length olds + 1;
    sequence = s;
    more = omega (
      arith,
      more,
      ap (λ records. count_of s (asked_by records)) (take_all (length olds + 1) all_olds (omega (arith, length-append olds (old ∷ [])))),
      ap (λ records. count_of s (asked_by records)) (take_all (length olds + 1) all_news (omega (arith, length-append news (new ∷ []), even))),
    );
  }

  new_before : (s : ℕ) → count_of s (asked_by olds) < count_of s (asked_by news) → HasNew olds news
  new_before s more = record {
    records = length olds;
    sequence = s;
    more = omega (
      arith,
      more,
      ap (λ records. count_of s (asked_by records)) (take_all (length olds) olds (omega arith)),
      ap (λ records. count_of s (asked_by records)) (take_all (length olds) news (omega (arith, even))),
    );
  }

  -- before the record, or with it
  new_by : (P : Type 0) (has : HasNew all_olds all_news) (b : Bool) → nat_le has.records (length olds) ≡ b → (HasNew olds news → P) →
      ((s : ℕ) → count_of s (asked_by all_olds) < count_of s (asked_by all_news) → P) → P
  new_by P has true early before now = before (record {
    records = has.records;
    sequence = has.sequence;
    more = omega (
      arith,
      has.more,
      ap (λ records. count_of has.sequence (asked_by records)) (take-append-le has.records olds (old ∷ []) (leb-true has.records (length olds) early)),
      ap (λ records. count_of has.sequence (asked_by records)) (take-append-le has.records news (new ∷ []) (omega (arith, leb-true has.records (length olds) early, even))),
    );
  })
  new_by P has false late before now = now has.sequence (omega (
    arith,
    has.more,
    ap (λ records. count_of has.sequence (asked_by records)) (take_all has.records all_olds (omega (arith, leb-false has.records (length olds) late, length-append olds (old ∷ [])))),
    ap (λ records. count_of has.sequence (asked_by records)) (take_all has.records all_news (omega (arith, leb-false has.records (length olds) late, length-append news (new ∷ []), even))),
  ))

  module _ (before after : Asked) (has : HasAsked before olds news) (grown_old : after.by_old.items ≡ before.by_old.items ++ sequences_in old) (grown_new : after.by_new.items ≡ before.by_new.items ++ sequences_in new)
      (is_new : after.is_new ≡ (before.is_new || is_ahead (sequences_in new) after.by_old.items after.by_new.items)) where
    of_olds : after.by_old.items ≡ asked_by all_olds
    of_olds = grown_old ∙ ap (λ all. all ++ sequences_in old) has.old ∙ sym (asked_more olds old)

    of_news : after.by_new.items ≡ asked_by all_news
    of_news = grown_new ∙ ap (λ all. all ++ sequences_in new) has.new ∙ sym (asked_more news new)

    abbrev ahead : ℕ → Bool
    ahead s = nat_lt (count_of s after.by_old.items) (count_of s after.by_new.items)

    found_new : (b : Bool) → before.is_new ≡ b → (b || is_ahead (sequences_in new) after.by_old.items after.by_new.items) ≡ true → HasNew all_olds all_news
    found_new true was is = new_kept (has.only_new was)
    found_new false was is =
        let one = someone ahead (sequences_in new) is in
        new_now one.0 (omega (arith, ltb-true (count_of one.0 after.by_old.items) (count_of one.0 after.by_new.items) one.1, ap (count_of one.0) of_olds, ap (count_of one.0) of_news))

    -- it was not more often before, so it is among those of this record
    is_here : (s : ℕ) → before.is_new ≡ false → count_of s (asked_by all_olds) < count_of s (asked_by all_news) → (b : Bool) → nat_lt (count_of s (asked_by olds)) (count_of s (asked_by news)) ≡ b → 0 < count_of s (sequences_in new)
    is_here s was more true earlier =
        absurd (false≢true (sym was ∙ has.all_new (new_before s (ltb-true (count_of s (asked_by olds)) (count_of s (asked_by news)) earlier))))
    is_here s was more false earlier = omega (arith, more, ltb-false (count_of s (asked_by olds)) (count_of s (asked_by news)) earlier, ap (count_of s) (asked_more olds old), count_both s (asked_by olds) (sequences_in old), ap (count_of s) (asked_more news new), count_both s (asked_by news) (sequences_in new))

    told_now : (b : Bool) → before.is_new ≡ b → (s : ℕ) → count_of s (asked_by all_olds) < count_of s (asked_by all_news) → (b || is_ahead (sequences_in new) after.by_old.items after.by_new.items) ≡ true
    told_now true was s more = refl
    told_now false was s more =
        some_of s ahead (sequences_in new) (is_here s was more (nat_lt (count_of s (asked_by olds)) (count_of s (asked_by news))) refl)
        (lt-ltb (count_of s after.by_old.items) (count_of s after.by_new.items) (omega (arith, more, ap (count_of s) of_olds, ap (count_of s) of_news)))

    pub more_asked : HasAsked after all_olds all_news
    more_asked = record {
      old = of_olds;
      new = of_news;
      only_new = λ is. found_new before.is_new refl (sym is_new ∙ is);
      all_new = λ now. is_new ∙ new_by ((before.is_new || is_ahead (sequences_in new) after.by_old.items after.by_new.items) ≡ true) now (nat_le now.records (length olds)) refl
          (λ earlier. ap (λ b. b || is_ahead (sequences_in new) after.by_old.items after.by_new.items) (has.all_new earlier))
          (told_now before.is_new refl);
    }

pub nothing_asked : (asked : Asked) → asked.by_old.items ≡ [] → asked.by_new.items ≡ [] → asked.is_new ≡ false → HasAsked asked [] []
nothing_asked asked none none' isnt = record {
  old = none;
  new = none';
  only_new = λ is. absurd (false≢true (sym isnt ∙ is));
  all_new = λ has. absurd (none_more has.records has.sequence has.more);
}
  where
    none_more : (n s : ℕ) → count_of s (asked_by (take n [])) < count_of s (asked_by (take n [])) → ⊥
    none_more n s more = omega (arith, more)
