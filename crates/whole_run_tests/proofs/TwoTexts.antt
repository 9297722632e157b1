-- Two texts, swaps in flight and a reload: what `run` promises has its premises met, and the requests are computed.
use Rattle.std.proofs.Common.{◌≡◌, ◌≢◌, refl, ap, sym, ◌∙◌, subst, ℕ, zero, suc, ◌<◌, Bool, true, false, ◌&&◌, bytes_eq, List, [], ◌∷◌, length, slice_get, slice_index, slice_index_or, Contains, Some, Ok, true≢false, lit≤, lit<, arith}
use Rattle.std.proofs.lemmas.Slice.Eq.{bytes_eq-Decides}
use Rattle.std.specs.Fmt.{digits}
use Rattle.std.specs.List.{AllByRecursion, list_all}
use Rattle.sha2.specs.Sha256.{sha256, first_words, schedule, rounds, compress, hash_after, digest_bytes}
use Rattle.lc_model.specs.declared.kind.Kind.{Kind}
use Rattle.lc_model.specs.declared.kind.Kind.TheVariants.{Wdt}
use Rattle.lc_model.specs.declared.truth.Truth.{Truth}
use Rattle.lc_model.specs.declared.truth.Truth.TheVariants.{True, False, Stale, Error}
use Rattle.lc_model.specs.Truth.{truth_and, truth_not}
use Rattle.lc_model.specs.LimitChecker.Watch.{truth_of_term}
use Rattle.lc_model.specs.Rule.{NamedRule}
use Rattle.lc_model.specs.Name.{Name}
use Rattle.lc_model.specs.Events.Outgoing.{sequence_request}
use Rattle.lc_model.specs.Tables.File.{TableFile, opened, wrapped}
use Rattle.lc_model.specs.Tables.Half.{IsHalf}
use Rattle.lc_model.specs.Tables.HalvesAndBytes.{Text}
use Rattle.lc_model.specs.Tables.Image.{IsSound}
use Rattle.lc_model.specs.Tables.InForce.{layouts, limits}
use Rattle.lc_model.specs.Tables.Interpretation.{kind_of_size}
use Rattle.lc_model.specs.Host.Schedule.{Schedule}
use Rattle.lc_model.specs.Host.Stream.{Contents, File, Half, Packet, StreamEntry, Tick, records_of}
use Rattle.lc_model.specs.Host.Outcome.{Complete, Devices, Ending, answer}
use Rattle.lc_model.specs.Host.Promise.{AreCompiled, CarriesHalf, CarryHalves, HaveOwnHashes, called_for, sequences_called_for}
use Rattle.worked_examples.proofs.Reading.{low_volts_text, low_volts_rules, low_volts_reads}
use Rattle.worked_examples.proofs.Missions.{text}
use Rattle.rule_analysis.specs.Called.{IsNeverWritten}
use Rattle.rule_analysis.specs.Judgement.{NeverFails}
use Rattle.worked_examples.proofs.Lower.{never, lower_volts, lower_text, lower_volts_rules, lower_volts_reads, lower_volts_text, lower_wdt, lower_wdt_is_half}
use Rattle.flight_core.specs.Fitting.{Fits}
use Rattle.whole_run_tests.specs.TwoTexts.{WritesBoth, lower_wdt_file, swaps_and_reload}
use Rattle.whole_run_tests.specs.WithStock.{KeepsItsPromises, mission, names}
use Rattle.whole_run_tests.proofs.LowVolts.{low_volts_fit}
use Rattle.whole_run_tests.proofs.Undisturbed.{ends_well}

-- ---- the texts

abbrev sources : List (List ℕ)
sources = low_volts_text ∷ lower_volts_text ∷ []

abbrev texts : List Text
texts = text ∷ lower_text ∷ []

compile : AreCompiled limits sources texts
compile = ((refl, (low_volts_reads, refl)), ((refl, (lower_volts_reads, refl)), tt))

lower_volts_fit : Fits lower_volts_text
lower_volts_fit = record { rules = lower_volts_rules; reads = lower_volts_reads; watchpoints = lit≤ tt; actionpoints = lit≤ tt; words = (lit≤ tt, (lit≤ tt, tt)) }

all_fit : (number : ℕ) (source : List ℕ) → slice_get sources number ≡ Some source → Fits source
all_fit zero source there = let same : low_volts_text ≡ source = cc there in subst Fits same low_volts_fit
all_fit (suc zero) source there = let same : lower_volts_text ≡ source = cc there in subst Fits same lower_volts_fit
all_fit (suc (suc number)) source there = absurd (cc there)

-- the first bytes of their hashes differ
first_of_low : slice_index (sha256 low_volts_text) 0 ≡ 0xAE
unfolding sha256 hash_after compress rounds schedule first_words digest_bytes
first_of_low = refl

first_of_lower : slice_index (sha256 lower_volts_text) 0 ≡ 0xEE
unfolding sha256 hash_after compress rounds schedule first_words digest_bytes
first_of_lower = refl

differ : sha256 low_volts_text ≢ sha256 lower_volts_text
differ same = let clash : 0xAE ≡ 0xEE = sym first_of_low ∙ ap (λ hash. slice_index hash 0) same ∙ first_of_lower in omega (arith, clash)

own_hashes : HaveOwnHashes texts
own_hashes a b (zero, less, is) (zero, less', is') same = ap (λ (t : Text). t.source) (sym is ∙ is')
own_hashes a b (zero, less, is) (suc zero, less', is') same =
    absurd (differ (ap (λ (t : Text). sha256 t.source) is ∙ same ∙ sym (ap (λ (t : Text). sha256 t.source) is')))
own_hashes a b (suc zero, less, is) (zero, less', is') same =
    absurd (differ (ap (λ (t : Text). sha256 t.source) is' ∙ sym same ∙ sym (ap (λ (t : Text). sha256 t.source) is)))
own_hashes a b (suc zero, less, is) (suc zero, less', is') same = ap (λ (t : Text). t.source) (sym is ∙ is')
own_hashes a b (suc (suc k), less, is) among same = absurd (let none : ⊥ = omega (arith, less) in none)
own_hashes a b (zero, less, is) (suc (suc k), less', is') same = absurd (let none : ⊥ = omega (arith, less') in none)
own_hashes a b (suc zero, less, is) (suc (suc k), less', is') same = absurd (let none : ⊥ = omega (arith, less') in none)

-- ---- the raw file

wdt_opens : opened lower_wdt_file ≡ Ok (wrapped Wdt lower_wdt)
unfolding sha256 hash_after compress rounds schedule first_words digest_bytes
wdt_opens = refl

wdt_by_size : kind_of_size layouts (length lower_wdt) ≡ Some Wdt
unfolding sha256 hash_after compress rounds schedule first_words digest_bytes
wdt_by_size = refl

-- it carries the second text's half
carries : CarriesHalf layouts texts lower_wdt_file
carries file kind opens by_size sound =
    let same : wrapped Wdt lower_wdt ≡ file = cc (sym wdt_opens ∙ opens) in
    let own : Wdt ≡ kind = cc (sym wdt_by_size ∙ ap (λ (f : TableFile). kind_of_size layouts (length f.image)) same ∙ by_size) in
    (lower_text, (1, lit< tt, refl), subst (λ k. IsHalf layouts k file.image lower_volts_text) own (subst (λ (f : TableFile). IsHalf layouts Wdt f.image lower_volts_text) same lower_wdt_is_half))

-- no other record brings one
unfoldable is_that_file : Contents → Bool
is_that_file (File name bytes) = bytes_eq bytes lower_wdt_file
is_that_file (Packet bytes) = true
is_that_file Tick = true
is_that_file (Half name kind number) = true

one_file : list_all (λ (entry : StreamEntry). is_that_file entry.contents) (records_of 2 swaps_and_reload).0 ≡ true
unfolding is_that_file sha256 hash_after compress rounds schedule first_words digest_bytes
one_file = refl

first : (a b : Bool) → (a && b) ≡ true → a ≡ true
first true b e = refl
first false b e = e

second : (a b : Bool) → (a && b) ≡ true → b ≡ true
second true b e = e
second false b e = absurd (true≢false (sym e))

holds_at : (entries : List StreamEntry) (k : ℕ) → k < length entries → list_all (λ (entry : StreamEntry). is_that_file entry.contents) entries ≡ true → (d : StreamEntry) →
    is_that_file (slice_index_or entries k d).contents ≡ true
holds_at [] k less all d = absurd (let none : ⊥ = omega (arith, less) in none)
holds_at (entry ∷ entries) zero less all d = first (is_that_file entry.contents) _ all
holds_at (entry ∷ entries) (suc k) less all d = holds_at entries k (omega (arith, less)) (second (is_that_file entry.contents) _ all) d

that_file : (name : Name) (bytes : List ℕ) → is_that_file (File name bytes) ≡ true → bytes ≡ lower_wdt_file
unfolding is_that_file
that_file name bytes is = (bytes_eq-Decides bytes lower_wdt_file).0 is

carry : CarryHalves layouts texts (records_of 2 swaps_and_reload).0
carry entry name bytes (k, less, there) is =
    let brought : is_that_file (File name bytes) ≡ true =
    ap is_that_file (sym is) ∙ sym (ap (λ (e : StreamEntry). is_that_file e.contents) there) ∙ holds_at (records_of 2 swaps_and_reload).0 k less one_file entry in
    subst (CarriesHalf layouts texts) (sym (that_file name bytes brought)) carries

-- ---- what is called for

answered : (size : ℕ) → answer (records_of 2 swaps_and_reload) size ≡ Complete 23 size
unfolding sha256 hash_after compress rounds schedule first_words digest_bytes
answered size = refl

short : length swaps_and_reload < 4_294_967_296
unfolding sha256 hash_after compress rounds schedule first_words digest_bytes
short = lit< tt

requested : (slots : Schedule) → sequences_called_for layouts texts slots names swaps_and_reload ≡ sequence_request 0 8 ∷ sequence_request 1 7 ∷ []
unfolding digits sha256 hash_after compress rounds schedule first_words digest_bytes
requested slots = refl

-- ---- the sequence that nobody requests

-- a comparison and its contrary are never both true
not_both : (t : Truth) → truth_and t (truth_not t) ≢ True
not_both True e = cc e
not_both False e = cc e
not_both Stale e = cc e
not_both Error e = cc e

never_fails : NeverFails never
never_fails history = not_both (truth_of_term lower_volts history)

none_fails : (listed : Text) → Contains texts listed → AllByRecursion (λ (rule : NamedRule). rule.action.sequence ≡ 9 → NeverFails rule.action.condition) listed.rules
none_fails listed (zero, less, is) = subst (λ (t : Text). AllByRecursion (λ (rule : NamedRule). rule.action.sequence ≡ 9 → NeverFails rule.action.condition) t.rules) is ((λ e. absurd (cc e)), tt)
none_fails listed (suc zero, less, is) =
    subst (λ (t : Text). AllByRecursion (λ (rule : NamedRule). rule.action.sequence ≡ 9 → NeverFails rule.action.condition) t.rules) is ((λ e. absurd (cc e)), ((λ e. never_fails), tt))
none_fails listed (suc (suc k), less, is) = absurd (let none : ⊥ = omega (arith, less) in none)

-- ---- the run

pub writes_both : IsNeverWritten → (slots : Schedule) (d : Devices) (ending : Ending) → KeepsItsPromises sources slots d ending → WritesBoth slots d ending
writes_both never_written slots d ending kept = record {
  texts = record { low = low_volts_rules; lower = lower_volts_rules; reads_low = low_volts_reads; reads_lower = lower_volts_reads };
  ends = λ before known gained.
      ends_well texts sources compile own_hashes all_fit slots d swaps_and_reload before carry known gained
      (called_for layouts texts slots names swaps_and_reload) refl 23 (length (called_for layouts texts slots names swaps_and_reload))
      (answered (length (called_for layouts texts slots names swaps_and_reload))) short ending kept;
  requests = requested slots;
  quiet = λ before known gained undisturbed.
      never_written (mission sources slots) d ending kept.by_texts texts swaps_and_reload before 9 compile own_hashes carry known gained undisturbed none_fails;
}
