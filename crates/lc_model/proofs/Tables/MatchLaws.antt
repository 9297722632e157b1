-- Sound images belong together where they are halves of one text.
use Rattle.std.proofs.Common.{◌≡◌, ℕ, Bool, true, false, ◌&&◌, ◌==◌, List, [], ◌++◌, length, map, bytes_eq, refl, ap, ap₂, sym, ◌∙◌, subst, Contains, None, true≢false}
use Rattle.std.proofs.lemmas.Slice.Eq.{bytes_eq-Decides}
use Rattle.std.proofs.lemmas.Bool.Decides.{Decides-eqb}
use Rattle.sha2.specs.Sha256.{sha256}
use Rattle.lc_model.specs.declared.kind.Kind.{Kind}
use Rattle.lc_model.specs.declared.kind.Kind.TheVariants.{Wdt, Adt}
use Rattle.lc_model.specs.Rule.{NamedRule}
use Rattle.lc_model.specs.Tables.Equation.{terms_of}
use Rattle.lc_model.specs.Tables.Image.{Layout, Watchpoints, preamble, filled, term_bytes, entry_bytes, hash_of, watchpoint_count}
use Rattle.lc_model.specs.Tables.Half.{IsHalf, HoldsHalf}
use Rattle.lc_model.specs.Tables.Interpretation.{Pair}
use Rattle.lc_model.specs.Tables.HalvesAndBytes.{Text, TextImage, HalfOf, Faulty, Foreign, half_fault, is_of_one_text, as_bytes, as_halves}
use Rattle.lc_model.specs.Host.Promise.{HaveOwnHashes}
use Rattle.lc_model.specs.Laws.Correspondence.{IsImageOf, SoundAlike}
use Rattle.lc_model.proofs.Texts.OneReading.{one_reading}
use Rattle.lc_model.proofs.Tables.FilesAlike.{hash_of_half}
use Rattle.lc_model.proofs.Tables.FaultLaws.{same_fault}

-- the watchpoint count that an image has for so many
stored_count : ℕ → ℕ
stored_count n = watchpoint_count (preamble Watchpoints 0 n [] ++ [])

count_of_preamble : (l : Layout) (own n : ℕ) (hash rest : List ℕ) → watchpoint_count (preamble l own n hash ++ rest) ≡ stored_count n
unfolding stored_count
count_of_preamble l own n hash rest = refl

holds_count : (kind : Kind) (hash : List ℕ) (rules : List NamedRule) (image : List ℕ) → HoldsHalf kind hash rules image →
    watchpoint_count image ≡ stored_count (length (terms_of rules))
holds_count Wdt hash rules image e = ap watchpoint_count e ∙ count_of_preamble Watchpoints (length (terms_of rules)) (length (terms_of rules)) hash (filled Watchpoints (map term_bytes (terms_of rules)))
holds_count Adt hash rules image (l, entries, e, fits, same) = ap watchpoint_count e ∙ count_of_preamble l (length entries) (length (terms_of rules)) hash (filled l (map (entry_bytes l) entries))

-- the two halves of one text have one count
one_count : (layouts : List Layout) (wdt adt text : List ℕ) → IsHalf layouts Wdt wdt text → IsHalf layouts Adt adt text → watchpoint_count wdt ≡ watchpoint_count adt
one_count layouts wdt adt text (rules, reads, sound, holds) (others, reads', sound', holds') =
    holds_count Wdt (sha256 text) rules wdt holds ∙ ap (λ r. stored_count (length (terms_of r))) (one_reading text rules others reads reads')
    ∙ sym (holds_count Adt (sha256 text) others adt holds')

module _ (layouts : List Layout) (texts : List Text) (hashes : HaveOwnHashes texts) where
  halves_match : (wdt adt : List ℕ) (s t : Text) → Contains texts s → Contains texts t → IsHalf layouts Wdt wdt s.source → IsHalf layouts Adt adt t.source →
      (bytes_eq (hash_of wdt) (hash_of adt) && watchpoint_count wdt == watchpoint_count adt) ≡ bytes_eq s.source t.source
  halves_match wdt adt s t among among' half half' = by_test (bytes_eq s.source t.source) refl
    where
      hash : hash_of wdt ≡ sha256 s.source
      hash = hash_of_half layouts Wdt wdt s.source half

      hash' : hash_of adt ≡ sha256 t.source
      hash' = hash_of_half layouts Adt adt t.source half'

      of_one : s.source ≡ t.source → (bytes_eq (hash_of wdt) (hash_of adt) && watchpoint_count wdt == watchpoint_count adt) ≡ true
      of_one e =
          ap₂ (λ a b. a && b) ((bytes_eq-Decides (hash_of wdt) (hash_of adt)).1 (hash ∙ ap sha256 e ∙ sym hash'))
          ((Decides-eqb (watchpoint_count wdt) (watchpoint_count adt)).1
          (one_count layouts wdt adt t.source (subst (IsHalf layouts Wdt wdt) e half) half'))

      of_two : bytes_eq s.source t.source ≡ false → (b : Bool) → bytes_eq (hash_of wdt) (hash_of adt) ≡ b → (b && watchpoint_count wdt == watchpoint_count adt) ≡ false
      of_two e false other = refl
      of_two e true one =
          let same : hash_of wdt ≡ hash_of adt = (bytes_eq-Decides (hash_of wdt) (hash_of adt)).0 one in
          let source : s.source ≡ t.source = hashes s t among among' (sym hash ∙ same ∙ hash') in
          absurd (true≢false (sym ((bytes_eq-Decides s.source t.source).1 source) ∙ e))

      by_test : (b : Bool) → bytes_eq s.source t.source ≡ b → (bytes_eq (hash_of wdt) (hash_of adt) && watchpoint_count wdt == watchpoint_count adt) ≡ b
      by_test true e = of_one ((bytes_eq-Decides s.source t.source).0 e)
      by_test false e = of_two e (bytes_eq (hash_of wdt) (hash_of adt)) refl

  -- what images without a fault are
  images_match : (wdt adt : List ℕ) (a b : TextImage) → IsImageOf layouts texts wdt a → IsImageOf layouts texts adt b → half_fault Wdt a ≡ None → half_fault Adt b ≡ None →
      (bytes_eq (hash_of wdt) (hash_of adt) && watchpoint_count wdt == watchpoint_count adt) ≡ is_of_one_text a b
  images_match wdt adt (HalfOf Wdt s) (HalfOf Adt t) a b sound sound' = halves_match wdt adt s t a.0 b.0 a.1 b.1
  images_match wdt adt (HalfOf Wdt s) (HalfOf Wdt t) a b sound sound' = absurd (cc sound')
  images_match wdt adt (HalfOf Wdt s) (Faulty kind fault) a b sound sound' = absurd (cc sound')
  images_match wdt adt (HalfOf Wdt s) Foreign a b sound sound' = absurd (cc sound')
  images_match wdt adt (HalfOf Adt s) other a b sound sound' = absurd (cc sound)
  images_match wdt adt (Faulty kind fault) other a b sound sound' = absurd (cc sound)
  images_match wdt adt Foreign other a b sound sound' = absurd (cc sound)

  pub same_match : (p : Pair (List ℕ)) (q : Pair TextImage) → SoundAlike (IsImageOf layouts texts) (as_bytes layouts) (as_halves layouts) p q →
      (as_bytes layouts).matches p ≡ (as_halves layouts).matches q
  same_match p q h =
      images_match p.wdt p.adt q.wdt q.adt h.wdt h.adt (sym (same_fault layouts texts Wdt p.wdt q.wdt h.wdt) ∙ h.wdt_sound)
      (sym (same_fault layouts texts Adt p.adt q.adt h.adt) ∙ h.adt_sound)
