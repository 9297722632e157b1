-- Over whole runs nobody requests a sequence that only rules request that never fail.
use Rattle.std.proofs.Common.{◌≡◌, ℕ, zero, suc, ◌+◌, ◌%◌, ◌^◌, ◌<◌, ◌≤◌, Bool, true, false, List, [], ◌∷◌, length, refl, ap, sym, ◌∙◌, subst, arith, Option, Some, None, option_map, Result, Ok, Err, inl, inr, if◌then◌else◌, nat_lt, cond}
use Rattle.std.specs.Prelude.{◌≢◌, ◌⊎◌, ⊤, Contains, find, slice_get}
use Rattle.std.specs.Option.{option_map_or}
use Rattle.std.specs.List.{AllByRecursion, AllZip, filter}
use Rattle.std.proofs.lemmas.Bool.Decides.{nat_tests}
use Rattle.std.proofs.lemmas.List.Elements.{filter-append}
use Rattle.std.proofs.lemmas.Nat.{from_be_bytes-to_be_bytes_2}
use Rattle.lc_model.specs.declared.kind.Kind.{Kind}
use Rattle.lc_model.specs.declared.kind.Kind.TheVariants.{Wdt, Adt}
use Rattle.lc_model.specs.Rule.{NamedRule, actions}
use Rattle.lc_model.specs.Tables.Compiling.{Limits, Compiles}
use Rattle.lc_model.specs.Tables.Image.{Layout, ImageFault, fault_of}
use Rattle.lc_model.specs.Tables.File.{TableFile, opened}
use Rattle.lc_model.specs.Tables.Interpretation.{kind_of_size}
use Rattle.lc_model.specs.Tables.HalvesAndBytes.{Text, TextImage, HalfOf, Faulty, Foreign, as_halves, rules_of_half, text_meanings, text_image, image_of_kind, half_of_one, meaning_by}
use Rattle.lc_model.specs.Packet.{message_id, sequence_mid}
use Rattle.lc_model.specs.Events.Request.{Request, Event, Sequence, Housekeeping}
use Rattle.lc_model.specs.Events.Outgoing.{sequence_request}
use Rattle.lc_model.specs.Host.Schedule.{Schedule}
use Rattle.lc_model.specs.Host.Stream.{StreamEntry, Contents, Packet, Tick, File, Half, records_of}
use Rattle.lc_model.specs.Host.World.{World, Running, Lc, first_world}
use Rattle.lc_model.specs.Host.React.{Step, react}
use Rattle.lc_model.specs.Host.Run.{Sent, input_of, all_delivered, sent_from}
use Rattle.lc_model.specs.Host.Promise.{Mission}
use Rattle.lc_model.specs.Laws.Correspondence.{BothOrNone, SlotAlike, LcAlike, MeaningAlike, InputAlike, StepAlike}
use Rattle.lc_model.specs.Laws.Reading.{IsWithinRanges}
use Rattle.lc_model.proofs.Host.SameCore.{Core, core_of, state_in, is_sequence, sequences_in, numbers_in, requests_from, all_sent}
use Rattle.lc_model.proofs.Host.CorrespondenceLaws.{each_input_keeps}
use Rattle.lc_model.proofs.Host.TwoReadings.{Entry}
use Rattle.lc_model.proofs.Tables.HalfFiles.{numbered_among}
use Rattle.lc_model.proofs.Tables.RulesFit.{within_ranges}
use Rattle.rule_analysis.specs.Judgement.{NeverFails}
use Rattle.rule_analysis.specs.Quiet.{IsQuiet, IsOfQuietRules, AreWithout}
use Rattle.rule_analysis.specs.Called.{sequence_number, NeverFailIn, IsNeverCalledFor, IsNeverWritten}
use Rattle.rule_analysis.proofs.Each.{both}
use Rattle.rule_analysis.proofs.CalledSteps.{Own, alike, agree, Owns, IsQuietIn, react_quiet}

-- ---- texts

-- what holds of each item holds of one that is among them
of_one : {A : Type 0} (P : A → Type 0) (xs : List A) (x : A) → AllByRecursion P xs → Contains xs x → P x
of_one P [] x all among = absurd (omega (arith, among.1))
of_one P (y ∷ xs) x all (zero, below, is) = subst P is all.0
of_one P (y ∷ xs) x all (suc k, below, is) = of_one P xs x all.1 (k, omega (arith, below), is)

compiled_texts : (limits : Limits) (sources : List (List ℕ)) (texts : List Text) →
    AllZip (λ source (text : Text). (text.source ≡ source) × Compiles limits source text.rules) sources texts →
    AllByRecursion (λ (text : Text). AllByRecursion (λ (rule : NamedRule). IsWithinRanges rule.action) text.rules) texts
compiled_texts limits [] [] all = tt
compiled_texts limits [] (text ∷ texts) all = absurd all
compiled_texts limits (source ∷ sources) [] all = absurd all
compiled_texts limits (source ∷ sources) (text ∷ texts) all =
    (within_ranges source text.rules all.0.1.0, compiled_texts limits sources texts all.1)

-- a number that no rule has, or that of the sequence
abbrev IsSilent : ℕ → ℕ → Type 0
IsSilent sequence n = (n ≡ sequence) ⊎ (2 ^ 16 ≤ n)

quiet_rules : (sequence n : ℕ) → IsSilent sequence n → (rules : List NamedRule) →
    AllByRecursion (λ (rule : NamedRule). rule.action.sequence ≡ sequence → NeverFails rule.action.condition) rules →
    AllByRecursion (λ (rule : NamedRule). IsWithinRanges rule.action) rules → IsOfQuietRules n (actions rules)
quiet_rules sequence n silent [] never within = tt
quiet_rules sequence n silent (rule ∷ rules) never within = (by_case silent, quiet_rules sequence n silent rules never.1 within.1)
  where
    by_case : IsSilent sequence n → rule.action.sequence ≡ n → IsQuiet rule.action
    by_case (inl is) same = record { never = never.0 (same ∙ is); counts = within.0.fails.0 }
    by_case (inr large) same = absurd (omega (arith, large, same, within.0.sequence.1))

-- ---- files

find_among : {A : Type 0} (p : A → Bool) (xs : List A) (x : A) → find p xs ≡ Some x → Contains xs x
find_among p [] x e = cc
find_among p (y ∷ xs) x e = by_test (find_among p xs x) (p y) e
  where
    by_test : (find p xs ≡ Some x → Contains xs x) → (test : Bool) → (if test then Some y else find p xs) ≡ Some x → Contains (y ∷ xs) x
    by_test later true e = let same : y ≡ x = cc in (0, omega arith, same)
    by_test later false e = let there = later e in (suc there.0, omega (arith, there.1), there.2)

module _ (layouts : List Layout) (texts : List Text) where
  own_half : (kind : Kind) (o : Option Text) → ((text : Text) → o ≡ Some text → Contains texts text) → Own layouts texts (option_map_or (HalfOf kind) o Foreign)
  own_half kind None among = tt
  own_half kind (Some text) among = among text refl

  own_image : (image : List ℕ) → Own layouts texts (text_image layouts texts image)
  own_image image = by_size (kind_of_size layouts (length image))
    where
      by_fault : (kind : Kind) (o : Option ImageFault) → Own layouts texts (option_map_or (Faulty kind) o (half_of_one layouts texts kind image))
      by_fault kind (Some fault) = tt
      by_fault kind None = own_half kind _ (find_among _ texts)

      by_size : (o : Option Kind) → Own layouts texts (option_map_or (image_of_kind layouts texts image) o Foreign)
      by_size None = tt
      by_size (Some kind) = by_fault kind (fault_of layouts kind image)

  input_alike : (contents : Contents) →
      InputAlike (alike layouts texts) (as_halves layouts) (as_halves layouts) (input_of (text_meanings layouts texts) contents) (input_of (text_meanings layouts texts) contents)
  input_alike (Packet bytes) = refl
  input_alike Tick = tt
  input_alike (File name bytes) = (refl, refl, by_opened (opened bytes))
    where
      by_opened : (r : Result TableFile ℕ) →
          MeaningAlike (alike layouts texts) (as_halves layouts) (as_halves layouts) (meaning_by (text_image layouts texts) r) (meaning_by (text_image layouts texts) r)
      by_opened (Ok file) = (refl, refl, (refl, own_image file.image))
      by_opened (Err fault) = refl
  input_alike (Half name kind number) = (refl, refl, (refl, refl, (refl, own_half kind (slice_get texts number) (numbered_among texts number))))

  -- ---- worlds

  abbrev OwnState : Option (Lc TextImage) → Type 0
  OwnState None = ⊤
  OwnState (Some lc) =
      SlotAlike (alike layouts texts) (as_halves layouts) (as_halves layouts) Wdt lc.wdt lc.wdt × SlotAlike (alike layouts texts) (as_halves layouts) (as_halves layouts) Adt lc.adt lc.adt

  -- the images of a core are halves of the texts
  abbrev OwnCore : Core TextImage → Type 0
  OwnCore core = AllZip (Entry (MeaningAlike (alike layouts texts) (as_halves layouts) (as_halves layouts))) core.files core.files × OwnState core.lc

  owns_core : (w : World TextImage) → Owns layouts texts w → OwnCore (core_of w)
  owns_core w own = (own.files, by_running w.lc.running own.lc)
    where
      by_running : (o : Option (Running (Lc TextImage))) → BothOrNone (LcAlike (alike layouts texts) (as_halves layouts) (as_halves layouts)) o o →
          OwnState (option_map (λ (r : Running (Lc TextImage)). r.state) o)
      by_running None h = tt
      by_running (Some r) h = (h.wdt, h.adt)

  core_owns : (w : World TextImage) → OwnCore (core_of w) → Owns layouts texts w
  core_owns w own = record { files = own.0; host = refl; lc = by_running w.lc.running own.1; lc_spares = refl; sch = refl; counter = refl; sent = refl }
    where
      by_running : (o : Option (Running (Lc TextImage))) → OwnState (option_map (λ (r : Running (Lc TextImage)). r.state) o) →
          BothOrNone (LcAlike (alike layouts texts) (as_halves layouts) (as_halves layouts)) o o
      by_running None h = tt
      by_running (Some r) h = record { mode = refl; wdt = h.0; adt = h.1; watch = refl; points = refl; log = refl }

  module _ (sequence : ℕ) (never : NeverFailIn texts sequence)
      (within : AllByRecursion (λ (text : Text). AllByRecursion (λ (rule : NamedRule). IsWithinRanges rule.action) text.rules) texts) where
    own_rules : (n : ℕ) → IsSilent sequence n → (image : TextImage) → Own layouts texts image → IsOfQuietRules n (actions (rules_of_half image))
    own_rules n silent (HalfOf kind text) own =
        quiet_rules sequence n silent text.rules (never text own)
        (of_one (λ (text : Text). AllByRecursion (λ (rule : NamedRule). IsWithinRanges rule.action) text.rules) texts text within own)
    own_rules n silent (Faulty kind fault) own = tt
    own_rules n silent Foreign own = tt

    -- ---- packets

    abbrev IsOfAnother : List ℕ → Type 0
    IsOfAnother request = sequence_number request ≢ sequence

    numbered : (count number : ℕ) → number < 2 ^ 16 → sequence_number (sequence_request count number) ≡ number
    numbered count number small = from_be_bytes-to_be_bytes_2 number small

    of_another : (count number : ℕ) → (IsSilent sequence number → ⊥) → IsOfAnother (sequence_request count number)
    of_another count number loud same = by_test (nat_lt number (2 ^ 16)) refl
      where
        small : nat_lt number (2 ^ 16) ≡ true → number < 2 ^ 16
        small e = grind (arith, nat_tests)

        large : nat_lt number (2 ^ 16) ≡ false → 2 ^ 16 ≤ number
        large e = grind (arith, nat_tests)

        by_test : (test : Bool) → nat_lt number (2 ^ 16) ≡ test → ⊥
        by_test true e = loud (inl (sym (numbered count number (small e)) ∙ same))
        by_test false e = loud (inr (large e))

    requests_of_others : (count : ℕ) (requests : List Request) → ((n : ℕ) → IsSilent sequence n → AreWithout n requests) →
        AllByRecursion IsOfAnother (requests_from count (numbers_in requests))
    requests_of_others count [] silent = tt
    requests_of_others count (Event sender id kind text ∷ requests) silent = requests_of_others count requests (λ n s. (silent n s).1)
    requests_of_others count (Sequence number ∷ requests) silent =
        (of_another (count % 16384) number (λ s. (silent number s).0 refl), requests_of_others (1 + count) requests (λ n s. (silent n s).1))
    requests_of_others count (Housekeeping mode points ∷ requests) silent = requests_of_others count requests (λ n s. (silent n s).1)

    -- ---- records

    module _ (schedule : Schedule) where
      pub all_of_others : (entries : List StreamEntry) (w : World TextImage) → Owns layouts texts w → IsQuietIn layouts texts (state_in w.lc) →
          AllByRecursion IsOfAnother (filter is_sequence (sent_from (as_halves layouts) schedule w (text_meanings layouts texts) entries))
      all_of_others [] w own quiet = tt
      all_of_others (entry ∷ entries) w own quiet =
          let input = input_of (text_meanings layouts texts) entry.contents in
          let step : Step TextImage = react (as_halves layouts) schedule w input in
          let kept : StepAlike (alike layouts texts) (as_halves layouts) (as_halves layouts) step step =
          each_input_keeps (alike layouts texts) (as_halves layouts) (as_halves layouts) (agree layouts texts) schedule w w input input own (input_alike entry.contents) in
          let fine = react_quiet layouts texts (IsSilent sequence) (2 ^ 16) (inr (omega arith)) own_rules schedule w input own quiet in
          let after : Sent TextImage = all_delivered entry.moment step.1 step.0 in
          let sends = all_sent entry.moment step.1 step.0 in
          subst (AllByRecursion IsOfAnother)
          (sym (filter-append is_sequence after.1 (sent_from (as_halves layouts) schedule after.0 (text_meanings layouts texts) entries)))
          (both IsOfAnother (filter is_sequence after.1) (filter is_sequence (sent_from (as_halves layouts) schedule after.0 (text_meanings layouts texts) entries))
          (subst (AllByRecursion IsOfAnother) (sym sends.packets) (requests_of_others (sequences_in step.0.sent) step.1 fine.1))
          (all_of_others entries after.0 (core_owns after.0 (subst OwnCore (sym sends.core) (owns_core step.0 kept.world)))
          (subst (IsQuietIn layouts texts) (sym (ap (λ core. core.lc) sends.core)) fine.0)))

pub never_called_for : (m : Mission) → IsNeverCalledFor m
never_called_for m texts stream sequence compiled never =
    all_of_others m.edition.layouts texts sequence never (compiled_texts m.edition.limits m.sources texts compiled) m.schedule
    (records_of (length texts) stream).0 (first_world m.stock)
    (record { files = tt; host = refl; lc = tt; lc_spares = refl; sch = refl; counter = refl; sent = refl }) tt

-- ---- what is written

unfiltered : (sequence : ℕ) (packets : List (List ℕ)) → AllByRecursion (λ packet. sequence_number packet ≢ sequence) (filter is_sequence packets) →
    AllByRecursion (λ packet. message_id packet ≡ sequence_mid → sequence_number packet ≢ sequence) packets
unfiltered sequence [] all = tt
unfiltered sequence (packet ∷ packets) all = by_test (unfiltered sequence packets) (is_sequence packet) refl all
  where
    other : is_sequence packet ≡ false → message_id packet ≡ sequence_mid → ⊥
    other e same = grind (arith, nat_tests)

    by_test : (AllByRecursion (λ p. sequence_number p ≢ sequence) (filter is_sequence packets) →
        AllByRecursion (λ p. message_id p ≡ sequence_mid → sequence_number p ≢ sequence) packets) → (test : Bool) → is_sequence packet ≡ test →
        AllByRecursion (λ p. sequence_number p ≢ sequence) (cond test (packet ∷ filter is_sequence packets) (filter is_sequence packets)) →
        AllByRecursion (λ p. message_id p ≡ sequence_mid → sequence_number p ≢ sequence) (packet ∷ packets)
    by_test later true e all = ((λ same. all.0), later all.1)
    by_test later false e all = ((λ same. absurd (other e same)), later all)

pub never_written : IsNeverWritten
never_written m d ending writes texts stream before sequence compiled hashes carried source sink undisturbed never = record {
  gains = (writes texts stream before compiled hashes carried source sink undisturbed).gains;
  none = unfiltered sequence (sent_from (as_halves m.edition.layouts) m.schedule (first_world m.stock) (text_meanings m.edition.layouts texts) (records_of (length texts) stream).0)
      (never_called_for m texts stream sequence compiled never);
}
