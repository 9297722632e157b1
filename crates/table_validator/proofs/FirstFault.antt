-- The first of many entries that has a fault.
use Rattle.std.proofs.Common.{◌≡◌, refl, sym, ◌∙◌, ap, subst, ℕ, zero, suc, ◌+◌, ◌<◌, ◌≤◌, ◌⊎◌, inl, inr, List, [], ◌∷◌, ◌++◌, slice_get, filter_map, Option, Some, None, option_map, true, ◌&&◌, ◌==◌, length, arith}
use Rattle.std.specs.List.{cons_option}
use Rattle.std.proofs.lemmas.Bool.{cases_lt}
use Rattle.std.proofs.lemmas.List.Elements.{filter_map-append}
use Rattle.std.specs.Option.{option_map_or}
use Rattle.lc_model.specs.declared.kind.Kind.{Kind}
use Rattle.lc_model.specs.declared.kind.Kind.TheVariants.{Wdt, Adt}
use Rattle.lc_model.specs.Codes.{is_kind, table_entries}
use Rattle.lc_model.specs.Tables.Image.{Layout, kind_of, image_length, ImageFault, numbers_below, entry_code, first_entry_fault, preamble_code, image_fault, layout_of, fault_of, wrong_size, IsSound}
use Rattle.lc_model.specs.Tables.InForce.{layouts}
use Rattle.lc_model.proofs.Tables.SoundImages.{found_passes}
use Rattle.lc_model.proofs.Facts.{tested_equal, and_second, and_first}

module _ {X : Type 0} (f : ℕ → Option X) where
  none_listed : (n : ℕ) → ((k : ℕ) → k < n → f k ≡ None) → filter_map f (numbers_below n) ≡ []
  none_listed zero none = refl
  none_listed (suc n) none =
      filter_map-append f (numbers_below n) (n ∷ [])
      ∙ (λ i. none_listed n (λ k below. none k (omega (arith, below))) i ++ cons_option (none n (omega arith) i) [])

  -- where no number has a value, there is no first
  pub no_first : (n : ℕ) → ((k : ℕ) → k < n → f k ≡ None) → slice_get (filter_map f (numbers_below n)) 0 ≡ None
  no_first n none = ap (λ xs. slice_get xs 0) (none_listed n none)

  first_stays : (xs ys : List X) (x : X) → slice_get xs 0 ≡ Some x → slice_get (xs ++ ys) 0 ≡ Some x
  first_stays [] ys x e = absurd (cc e)
  first_stays (y ∷ xs) ys x e = e

  -- behind numbers without a value, the first is that of the next
  pub first_is : (m n : ℕ) (x : X) → n < m → ((k : ℕ) → k < n → f k ≡ None) → f n ≡ Some x → slice_get (filter_map f (numbers_below m)) 0 ≡ Some x
  first_is zero n x within none is = absurd (omega (arith, within))
  first_is (suc m) n x within none is = ap (λ xs. slice_get xs 0) (filter_map-append f (numbers_below m) (m ∷ [])) ∙ go (cases_lt n m) (first_is m n x)
    where
      go : (n < m) ⊎ (m ≤ n) → (n < m → ((k : ℕ) → k < n → f k ≡ None) → f n ≡ Some x → slice_get (filter_map f (numbers_below m)) 0 ≡ Some x) →
          slice_get (filter_map f (numbers_below m) ++ cons_option (f m) []) 0 ≡ Some x
      go (inl less) others = first_stays (filter_map f (numbers_below m)) (cons_option (f m) []) x (others less none is)
      go (inr more) others =
          let same : n ≡ m = omega (arith, within, more) in
          let here : f m ≡ Some x = subst (λ k. f k ≡ Some x) same is in
          ap (λ (xs : List X). slice_get (xs ++ cons_option (f m) []) 0) (none_listed m (λ k below. none k (omega (arith, below, same))))
          ∙ ap (λ o. slice_get (cons_option o []) 0) here

-- ---- entries

fault_at : Layout → List ℕ → ℕ → Option ImageFault
fault_at l image n = option_map (λ code. record { code = code; entry = n }) (entry_code l image n)

-- the first entry with a code is the image's fault
pub entry_found : (l : Layout) (image : List ℕ) (n code : ℕ) → n < table_entries → ((k : ℕ) → k < n → entry_code l image k ≡ None) →
    entry_code l image n ≡ Some code → first_entry_fault l image ≡ Some (record { code = code; entry = n })
unfolding fault_at
entry_found l image n code within none is =
    first_is (fault_at l image) table_entries n (record { code = code; entry = n }) within
    (λ k below. ap (option_map (λ code. record { code = code; entry = k })) (none k below))
    (ap (option_map (λ code. record { code = code; entry = n })) is)

-- without one it has none
none_found : (l : Layout) (image : List ℕ) → ((k : ℕ) → k < table_entries → entry_code l image k ≡ None) → first_entry_fault l image ≡ None
unfolding fault_at
none_found l image none = no_first (fault_at l image) table_entries (λ k below. ap (option_map (λ code. record { code = code; entry = k })) (none k below))

-- one entry more without a code
pub one_more : (l : Layout) (image : List ℕ) (n : ℕ) → ((k : ℕ) → k < n → entry_code l image k ≡ None) → entry_code l image n ≡ None →
    (k : ℕ) → k < n + 1 → entry_code l image k ≡ None
one_more l image n none is k below = go (cases_lt k n)
  where
    go : (k < n) ⊎ (n ≤ k) → entry_code l image k ≡ None
    go (inl less) = none k less
    go (inr more) = let same : n ≡ k = omega (arith, below, more) in subst (λ j. entry_code l image j ≡ None) same is

-- ---- images

-- behind a preamble without a fault the entries count
pub entries_count : (kind : Kind) (image : List ℕ) (l : Layout) → layout_of layouts kind image ≡ Some l → preamble_code l image ≡ None →
    fault_of layouts kind image ≡ first_entry_fault l image
entries_count kind image l found none =
    ap (λ o. option_map_or (λ m. image_fault m image (preamble_code m image)) o (Some wrong_size)) found ∙ ap (image_fault l image) none

-- without a fault of an entry the image is sound
pub all_sound : (kind : Kind) (image : List ℕ) (l : Layout) → layout_of layouts kind image ≡ Some l → preamble_code l image ≡ None →
    (n : ℕ) → table_entries ≤ n → ((k : ℕ) → k < n → entry_code l image k ≡ None) → IsSound layouts kind image
all_sound kind image l found none n all entries =
    entries_count kind image l found none ∙ none_found l image (λ k below. entries k (omega (arith, below, all)))

pub same_kind : (kind other : Kind) → is_kind kind other ≡ true → other ≡ kind
same_kind Wdt Wdt e = refl
same_kind Wdt Adt e = absurd (cc e)
same_kind Adt Wdt e = absurd (cc e)
same_kind Adt Adt e = refl

-- the layout that is found has the kind and the length
pub record IsOf (kind : Kind) (image : List ℕ) (l : Layout) : Type 0 where
  pub of_kind : kind_of l ≡ kind
  pub size : length image ≡ image_length l

pub layout_found : (kind : Kind) (image : List ℕ) (l : Layout) → layout_of layouts kind image ≡ Some l → IsOf kind image l
layout_found kind image l found =
    let passes : (is_kind kind (kind_of l) && (image_length l == length image)) ≡ true =
    found_passes (λ m. is_kind kind (kind_of m) && (image_length m == length image)) layouts l found in
    record {
      of_kind = same_kind kind (kind_of l) (and_first (is_kind kind (kind_of l)) (image_length l == length image) passes);
      size = sym (tested_equal (image_length l) (length image) (and_second (is_kind kind (kind_of l)) (image_length l == length image) passes));
    }
