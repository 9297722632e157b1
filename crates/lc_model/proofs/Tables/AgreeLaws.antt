-- Bytes and halves of texts are read alike, if the halves of a text spell it.
use Rattle.std.proofs.Common.{◌≡◌, ℕ, true, List, refl, ap, sym, ◌∙◌, subst, IsTrue, None}
use Rattle.std.specs.List.{AllZip}
use Rattle.std.proofs.lemmas.Slice.Eq.{bytes_eq-Decides}
use Rattle.lc_model.specs.declared.kind.Kind.TheVariants.{Wdt, Adt}
use Rattle.lc_model.specs.Tables.Equation.{terms_of}
use Rattle.lc_model.specs.Tables.Image.{Layout}
use Rattle.lc_model.specs.Tables.Half.{IsHalf}
use Rattle.lc_model.specs.Rule.{actions}
use Rattle.lc_model.specs.Tables.Spelled.{spelled_terms, spelled_rules}
use Rattle.lc_model.specs.Tables.Interpretation.{Pair}
use Rattle.lc_model.specs.Tables.HalvesAndBytes.{Text, TextImage, HalfOf, Faulty, Foreign, half_fault, is_of_one_text, rules_of_half, as_bytes, as_halves}
use Rattle.lc_model.specs.Host.Promise.{HaveOwnHashes}
use Rattle.lc_model.specs.Laws.Tables.{IsSameRule}
use Rattle.lc_model.specs.Laws.Correspondence.{IsImageOf, SoundAlike, AreRead, BytesAgreeWithTexts, HalvesSpellTheText, SpellingSuffices}
use Rattle.lc_model.specs.LimitChecker.Steps.{is_short}
use Rattle.lc_model.proofs.LimitChecker.Reordered.{reworded}
use Rattle.lc_model.proofs.Tables.FaultLaws.{same_fault}
use Rattle.lc_model.proofs.Tables.MatchLaws.{same_match}
use Rattle.lc_model.proofs.Host.CorrespondenceLaws.{each_input_keeps}

module _ (spell : HalvesSpellTheText) (layouts : List Layout) (texts : List Text) (read : AreRead texts) (hashes : HaveOwnHashes texts) where
  abbrev Spelled : List ℕ → List ℕ → TextImage → Type 0
  Spelled wdt adt a = (spelled_terms wdt ≡ terms_of (rules_of_half a)) × AllZip IsSameRule (spelled_rules layouts wdt adt) (actions (rules_of_half a))

  spelled : (wdt adt : List ℕ) (a b : TextImage) → IsImageOf layouts texts wdt a → IsImageOf layouts texts adt b →
      half_fault Wdt a ≡ None → half_fault Adt b ≡ None → is_of_one_text a b ≡ true → Spelled wdt adt a
  spelled wdt adt (HalfOf Wdt s) (HalfOf Adt t) a b sound sound' one =
      spell layouts s wdt adt (read s a.0) a.1 (subst (IsHalf layouts Adt adt) (sym ((bytes_eq-Decides s.source t.source).0 one)) b.1)
  spelled wdt adt (HalfOf Wdt s) (HalfOf Wdt t) a b sound sound' one = absurd (cc sound')
  spelled wdt adt (HalfOf Wdt s) (Faulty kind fault) a b sound sound' one = absurd (cc sound')
  spelled wdt adt (HalfOf Wdt s) Foreign a b sound sound' one = absurd (cc sound')
  spelled wdt adt (HalfOf Adt s) other a b sound sound' one = absurd (cc sound)
  spelled wdt adt (Faulty kind fault) other a b sound sound' one = absurd (cc sound)
  spelled wdt adt Foreign other a b sound sound' one = absurd (cc sound)

  of_pair : (p : Pair (List ℕ)) (q : Pair TextImage) → SoundAlike (IsImageOf layouts texts) (as_bytes layouts) (as_halves layouts) p q →
      IsTrue ((as_bytes layouts).matches p) → Spelled p.wdt p.adt q.wdt
  of_pair p q h matching =
      spelled p.wdt p.adt q.wdt q.adt h.wdt h.adt (sym (same_fault layouts texts Wdt p.wdt q.wdt h.wdt) ∙ h.wdt_sound)
      (sym (same_fault layouts texts Adt p.adt q.adt h.adt) ∙ h.adt_sound) (sym (same_match layouts texts hashes p q h) ∙ matching)

bytes_agree : HalvesSpellTheText → BytesAgreeWithTexts
bytes_agree spell layouts texts read hashes = record {
  sizes = λ kind size. refl;
  faults = same_fault layouts texts;
  matches = same_match layouts texts hashes;
  short = λ p q h matching packet. ap (λ terms. is_short terms packet) (of_pair spell layouts texts read hashes p q h matching).0;
  rules = λ p q h matching. reworded (spelled_rules layouts p.wdt p.adt) (actions (rules_of_half q.wdt)) (of_pair spell layouts texts read hashes p q h matching).1;
}

pub spelling_suffices : SpellingSuffices
spelling_suffices spell = (
  bytes_agree spell,
  λ layouts texts read hashes. each_input_keeps (IsImageOf layouts texts) (as_bytes layouts) (as_halves layouts) (bytes_agree spell layouts texts read hashes),
)
