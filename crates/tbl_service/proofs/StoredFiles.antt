-- What is looked up and stored under a name.
use Rattle.std.proofs.Common.{◌≡◌, ℕ, zero, suc, ◌<◌, ◌≤◌, Bool, true, false, ◌&&◌, List, [], ◌∷◌, ◌++◌, length, refl, ap, ap₂, sym, ◌∙◌, arith, Option, Some, None, is_none, Ok, Err, if◌then◌else◌, nat_le, slice_index_or, slice_set}
use Rattle.std.specs.List.{position_from}
use Rattle.std.proofs.lemmas.Bool.{le-ltb, leb-true, leb-false}
use Rattle.std.proofs.lemmas.Slice.Eq.{bytes_eq-Decides}
use Rattle.lc_model.specs.Name.{Name, is_named, value_under, put}
use Rattle.lc_model.specs.Refusal.{refused}
use Rattle.lc_model.specs.Services.Tables.{files_with}
use Rattle.tbl_service.specs.Store.{NamedFile}
use Rattle.tbl_service.proofs.Firsts.{IsFirst, NonePasses, first, none}

module _ (name : Name) where
  abbrev test : NamedFile → Bool
  test file = is_named name file.0

  value_none : (files : List NamedFile) → NonePasses test files → value_under name files ≡ None
  value_none [] no_one = refl
  value_none (file ∷ files) no_one = ap (λ b. if b then Some file.1 else value_under name files) no_one.0 ∙ value_none files no_one.1

  value_first : (k : ℕ) (files : List NamedFile) (d : NamedFile) → IsFirst test files k → value_under name files ≡ Some (slice_index_or files k d).1
  value_first k [] d is = absurd is
  value_first zero (file ∷ files) d is = ap (λ b. if b then Some file.1 else value_under name files) is
  value_first (suc k) (file ∷ files) d is = ap (λ b. if b then Some file.1 else value_under name files) is.0 ∙ value_first k files d is.1

  put_none : (bytes : List ℕ) (files : List NamedFile) → NonePasses test files → put name bytes files ≡ files ++ (name, bytes) ∷ []
  put_none bytes [] no_one = refl
  put_none bytes (file ∷ files) no_one = ap (λ b. if b then (name, bytes) ∷ files else file ∷ put name bytes files) no_one.0 ∙ ap (λ xs. file ∷ xs) (put_none bytes files no_one.1)

  put_first : (bytes : List ℕ) (k : ℕ) (files : List NamedFile) (d : NamedFile) → IsFirst test files k → put name bytes files ≡ slice_set files k ((slice_index_or files k d).0, bytes)
  put_first bytes k [] d is = absurd is
  put_first bytes zero (file ∷ files) d is =
      ap (λ b. if b then (name, bytes) ∷ files else file ∷ put name bytes files) is ∙ ap (λ n. (n, bytes) ∷ files) ((bytes_eq-Decides name file.0).0 is)
  put_first bytes (suc k) (file ∷ files) d is =
      ap (λ b. if b then (name, bytes) ∷ files else file ∷ put name bytes files) is.0 ∙ ap (λ xs. file ∷ xs) (put_first bytes k files d is.1)

  -- ---- a look-up

  pub not_there : (slice now : List NamedFile) → slice ≡ now → None ≡ position_from test 0 slice → None ≡ value_under name now
  not_there slice now lent is = sym (ap (value_under name) (sym lent) ∙ value_none slice (none test slice (sym is)))

  pub there : (slice now : List NamedFile) (k : ℕ) (file d : NamedFile) (bytes : List ℕ) → slice ≡ now → Some k ≡ position_from test 0 slice → file ≡ slice_index_or now k d → bytes ≡ file.1 →
      Some bytes ≡ value_under name now
  there slice now k file d bytes lent is at its =
      sym (value_first k now d (first test k now (ap (position_from test 0) (sym lent) ∙ sym is)) ∙ ap (λ (f : NamedFile). Some f.1) (sym at) ∙ ap Some (sym its))

  -- ---- a file more

  within : (bytes : List ℕ) (files : List NamedFile) → length bytes ≤ 32768 →
      files_with name bytes files ≡ (if nat_le 8 (length files) && is_none (value_under name files) then refused 118 else Ok (put name bytes files))
  within bytes files fits = ap (λ b. if b then refused 119 else if nat_le 8 (length files) && is_none (value_under name files) then refused 118 else Ok (put name bytes files)) (le-ltb 32768 (length bytes) fits)

  -- eight files, and none of this name
  pub no_room : (bytes : List ℕ) (slice now : List NamedFile) → length bytes ≤ 32768 → slice ≡ now → None ≡ position_from test 0 slice → 8 ≤ length now →
      Err (118 ∷ []) ≡ files_with name bytes now
  no_room bytes slice now fits lent is full =
      sym (within bytes now fits ∙ ap₂ (λ (a : Bool) (o : Option (List ℕ)). if a && is_none o then refused 118 else Ok (put name bytes now)) at_least_eight (sym (not_there slice now lent is)))
    where
      at_least_eight : nat_le 8 (length now) ≡ true
      at_least_eight = by_test (nat_le 8 (length now)) refl
        where
          by_test : (b : Bool) → nat_le 8 (length now) ≡ b → nat_le 8 (length now) ≡ true
          by_test true e = e
          by_test false e = absurd (let less = leb-false 8 (length now) e in let nothing : ⊥ = omega (arith, less, full) in nothing)

  -- a file of this name is replaced
  pub replaced : (bytes : List ℕ) (slice now after : List NamedFile) (k : ℕ) (old new d : NamedFile) → length bytes ≤ 32768 → slice ≡ now → Some k ≡ position_from test 0 slice →
      old ≡ slice_index_or now k d → new ≡ (old.0, bytes) → after ≡ slice_set now k new → Ok after ≡ files_with name bytes now
  replaced bytes slice now after k old new d fits lent is at changed written =
      let here : IsFirst test now k = first test k now (ap (position_from test 0) (sym lent) ∙ sym is) in
      ap Ok (written ∙ ap (λ (f : NamedFile). slice_set now k f) (changed ∙ ap (λ (f : NamedFile). (f.0, bytes)) at) ∙ sym (put_first bytes k now d here))
      ∙ sym (within bytes now fits ∙ ap (λ (o : Option (List ℕ)). if nat_le 8 (length now) && is_none o then refused 118 else Ok (put name bytes now)) (value_first k now d here)
      ∙ ap (λ (b : Bool). if b then refused 118 else Ok (put name bytes now)) (and_false (nat_le 8 (length now))))
    where
      and_false : (b : Bool) → (b && false) ≡ false
      and_false true = refl
      and_false false = refl

  -- a file of a new name comes behind the others
  pub added : (bytes : List ℕ) (slice now after : List NamedFile) (file : NamedFile) → length bytes ≤ 32768 → slice ≡ now → None ≡ position_from test 0 slice → length now < 8 →
      file ≡ (name, bytes) → after ≡ now ++ file ∷ [] → Ok after ≡ files_with name bytes now
  added bytes slice now after file fits lent is room same pushed =
      ap Ok (pushed ∙ ap (λ f. now ++ f ∷ []) same ∙ sym (ap (put name bytes) (sym lent) ∙ put_none bytes slice (none test slice (sym is)) ∙ ap (λ xs. xs ++ (name, bytes) ∷ []) lent))
      ∙ sym (within bytes now fits ∙ ap (λ (b : Bool). if b && is_none (value_under name now) then refused 118 else Ok (put name bytes now)) fewer)
    where
      fewer : nat_le 8 (length now) ≡ false
      fewer = by_test (nat_le 8 (length now)) refl
        where
          by_test : (b : Bool) → nat_le 8 (length now) ≡ b → nat_le 8 (length now) ≡ false
          by_test true e = absurd (let more = leb-true 8 (length now) e in let nothing : ⊥ = omega (arith, more, room) in nothing)
          by_test false e = e
