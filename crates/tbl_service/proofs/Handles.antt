-- The first table of a name, seat by seat.
use Rattle.std.proofs.Common.{◌≡◌, ℕ, zero, suc, ◌+◌, ◌<◌, ◌≤◌, List, [], ◌∷◌, length, drop, refl, ap, sym, ◌∙◌, subst, arith, Option, Some, None, is_some, slice_index_or, slice_get, IsTrue}
use Rattle.std.specs.Option.{option_map_or}
use Rattle.std.proofs.Math.ListN.{drop_of_length-le}
use Rattle.lc_model.specs.Name.{Name}
use Rattle.lc_model.specs.Services.Tables.{Table, Places, Handle, number_named, handle_from, handle_named, table_at}

-- the list from a place on
front : {A : Type 0} (k : ℕ) (xs : List A) (d : A) → k < length xs → drop k xs ≡ slice_index_or xs k d ∷ drop (suc k) xs
front k [] d less = absurd (let nothing : ⊥ = omega (arith, less) in nothing)
front zero (x ∷ xs) d less = refl
front (suc k) (x ∷ xs) d less = front k xs d (omega (arith, less))

there_is : {A : Type 0} (k : ℕ) (xs : List A) → k < length xs → IsTrue (is_some (slice_get xs k))
there_is k [] less = absurd (let nothing : ⊥ = omega (arith, less) in nothing)
there_is zero (x ∷ xs) less = refl
there_is (suc k) (x ∷ xs) less = there_is k xs (omega (arith, less))

-- what stands at a place needs no default
any_default : {A : Type 0} (k : ℕ) (xs : List A) (d e : A) → k < length xs → slice_index_or xs k d ≡ slice_index_or xs k e
any_default k [] d e less = absurd (let nothing : ⊥ = omega (arith, less) in nothing)
any_default zero (x ∷ xs) d e less = refl
any_default (suc k) (x ∷ xs) d e less = any_default k xs d e (omega (arith, less))

module _ (name : Name) (places : Places) (eight : length places ≡ 8) (k : ℕ) (inside : k < 8) (so_far : handle_from name k (drop k places) ≡ handle_from name 0 places)
    (tables d : List Table) (at : tables ≡ slice_index_or places k d) where
  below : k < length places
  below = omega (arith, inside, eight)

  here : handle_from name k (drop k places)
      ≡ option_map_or (λ number. Some (record { seat = k; number = number })) (number_named name tables) (handle_from name (k + 1) (drop (suc k) places))
  unfolding handle_from
  here = ap (handle_from name k) (front k places d below)
      ∙ ap (λ (t : List Table). option_map_or (λ number. Some (record { seat = k; number = number })) (number_named name t) (handle_from name (k + 1) (drop (suc k) places))) (sym at)

  by_number : Option ℕ → Option Handle
  by_number o = option_map_or (λ number. Some (record { seat = k; number = number })) o (handle_from name (k + 1) (drop (suc k) places))

  -- it is one of these tables
  pub found_here : (number : ℕ) (slot : Handle) → Some number ≡ number_named name tables → slot ≡ record { seat = k; number = number } → Some slot ≡ handle_named name places
  unfolding by_number
  found_here number slot is made = ap Some made ∙ ap by_number is ∙ sym here ∙ so_far

  pub is_there : (number : ℕ) (slot : Handle) → number < length tables → slot ≡ record { seat = k; number = number } → IsTrue (is_some (table_at slot places))
  is_there number slot within made =
      subst (λ (h : Handle). IsTrue (is_some (table_at h places))) (sym made)
      (subst (λ (t : List Table). IsTrue (is_some (slice_get t number))) (at ∙ any_default k places d [] below) (there_is number tables within))

  -- it is none of them
  pub not_here : None ≡ number_named name tables → handle_from name (k + 1) (drop (k + 1) places) ≡ handle_from name 0 places
  unfolding by_number
  not_here is = (let next : k + 1 ≡ suc k = omega arith in ap (λ n. handle_from name (k + 1) (drop n places)) next) ∙ ap by_number is ∙ sym here ∙ so_far

-- it is no seat's
pub nowhere : (name : Name) (places : Places) (k : ℕ) → length places ≤ k → handle_from name k (drop k places) ≡ handle_from name 0 places → None ≡ handle_named name places
unfolding handle_from
nowhere name places k past so_far = sym (ap (handle_from name k) (drop_of_length-le places past)) ∙ so_far
