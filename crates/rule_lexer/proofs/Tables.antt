-- The value beside a text in a table.
use Rattle.std.proofs.Common.{◌≡◌, refl, sym, ◌∙◌, ap, ℕ, Bool, true, false, cond, ◌||◌, List, [], ◌∷◌, Some, is_some, option_map, bytes_eq}
use Rattle.std.specs.Prelude.{find}
use Rattle.std.specs.List.{list_all, list_any}
use Rattle.std.proofs.lemmas.Slice.Eq.{bytes_eq-Decides}
use Rattle.lc_model.proofs.Facts.{and_second, and_first}

module _ {A : Type 0} where
  -- where each value is beside its own text, a text with this value is that text
  pub text_of_value : (text_of : A → List ℕ) (table : List (List ℕ × A)) → list_all (λ row. bytes_eq row.0 (text_of row.1)) table ≡ true →
      (text : List ℕ) (value : A) → option_map (λ row. row.1) (find (λ row. bytes_eq row.0 text) table) ≡ Some value → text ≡ text_of value
  text_of_value text_of [] all text value found = absurd (cc found)
  text_of_value text_of (row ∷ rows) all text value found =
      go (bytes_eq row.0 text) refl found (and_first (bytes_eq row.0 (text_of row.1)) _ all)
      (text_of_value text_of rows (and_second (bytes_eq row.0 (text_of row.1)) _ all) text value)
    where
      go : (b : Bool) → bytes_eq row.0 text ≡ b →
          option_map (λ row. row.1) (cond b (Some row) (find (λ row. bytes_eq row.0 text) rows)) ≡ Some value →
          bytes_eq row.0 (text_of row.1) ≡ true →
          (option_map (λ row. row.1) (find (λ row. bytes_eq row.0 text) rows) ≡ Some value → text ≡ text_of value) → text ≡ text_of value
      go true e here own others =
          let same : row.1 ≡ value = cc here in
          sym ((bytes_eq-Decides row.0 text).0 e) ∙ (bytes_eq-Decides row.0 (text_of row.1)).0 own ∙ ap text_of same
      go false e there own others = others there

  -- what passes a test that no text of the table passes has no value there
  pub no_value : (test : List ℕ → Bool) (table : List (List ℕ × A)) → list_any (λ row. test row.0) table ≡ false →
      (text : List ℕ) → test text ≡ true → is_some (option_map (λ row. row.1) (find (λ row. bytes_eq row.0 text) table)) ≡ false
  no_value test [] none text passes = refl
  no_value test (row ∷ rows) none text passes = go (bytes_eq row.0 text) refl (test row.0) refl none (λ others. no_value test rows others text passes)
    where
      go : (b : Bool) → bytes_eq row.0 text ≡ b → (p : Bool) → test row.0 ≡ p → (p || list_any (λ row. test row.0) rows) ≡ false →
          (list_any (λ row. test row.0) rows ≡ false → is_some (option_map (λ row. row.1) (find (λ row. bytes_eq row.0 text) rows)) ≡ false) →
          is_some (option_map (λ row. row.1) (cond b (Some row) (find (λ row. bytes_eq row.0 text) rows))) ≡ false
      go b e true q none others = absurd (cc none)
      go false e false q none others = others none
      go true e false q none others = absurd (cc (sym passes ∙ ap test (sym ((bytes_eq-Decides row.0 text).0 e)) ∙ q))
