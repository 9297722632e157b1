-- The watchpoints of a sound WDT image watch telemetry.
use Rattle.std.proofs.Common.{◌≡◌, ℕ, ◌<◌, Bool, false, not, ◌||◌, ◌==◌, List, [], ◌∷◌, ap, sym, ◌∙◌, arith, None, is_none, IsTrue, slice_index}
use Rattle.std.specs.Option.{option_map_or}
use Rattle.std.specs.Int.{is_in_range}
use Rattle.std.specs.List.{list_any, AllByRecursion}
use Rattle.lc_model.specs.declared.field.Term.{Term}
use Rattle.lc_model.specs.declared.kind.Kind.TheVariants.{Wdt}
use Rattle.lc_model.specs.Bytes.{u16_at, u32_at}
use Rattle.lc_model.specs.Packet.{reserved_mids, is_telemetry_mid}
use Rattle.lc_model.specs.Codes.{table_entries}
use Rattle.lc_model.specs.Field.{full_mask, is_in_type}
use Rattle.lc_model.specs.Tables.Image.{Layout, Watchpoints, own_count, watchpoint_count, entry_at, used_code, type_of_code, twos_complement_32, watchpoint_code}
use Rattle.lc_model.specs.Tables.Spelled.{spelled_term}
use Rattle.lc_model.proofs.Tables.SoundWords.{none_stands}
use Rattle.lc_model.proofs.Facts.{or_first, not_false}
use Rattle.lc_model.proofs.Tables.SoundImages.{SoundParts, sound_parts}
use Rattle.lc_model.proofs.Tables.SaidLaws.{each_listed, only_watchpoints}
use Rattle.lc_model.proofs.Tables.ImageParts.{SoundPreamble, sound_preamble, used_is_sound}
use Rattle.host_refinement.specs.Statements.{TermsAreTelemetry}

-- the tests of an entry
abbrev tests_of : List ℕ → List (Bool × ℕ)
tests_of e =
    (not (u32_at e 12 == 0), 65)
    ∷ (is_none (type_of_code (slice_index e 0)), 66)
    ∷ (not (is_in_range 1 6 (slice_index e 1)), 67)
    ∷ (not (is_telemetry_mid (u16_at e 2)) || list_any (◌==◌ (u16_at e 2)) reserved_mids, 68)
    ∷ (option_map_or (λ k. not (is_in_range 1 (full_mask k) (u32_at e 8))) (type_of_code (slice_index e 0)) false, 69)
    ∷ (option_map_or (λ k. not (is_in_type k (twos_complement_32 k (u32_at e 20)))) (type_of_code (slice_index e 0)) false, 70) ∷ []

entry_watches : (e : List ℕ) → watchpoint_code e ≡ None → IsTrue (is_telemetry_mid (u16_at e 2))
entry_watches e sound =
    let tests : AllByRecursion (λ t. t.0 ≡ false) (tests_of e) = none_stands (tests_of e) sound in
    not_false (is_telemetry_mid (u16_at e 2)) (or_first (not (is_telemetry_mid (u16_at e 2))) (list_any (◌==◌ (u16_at e 2)) reserved_mids) tests.1.1.1.0)

pub terms_are_telemetry : (layouts : List Layout) → TermsAreTelemetry layouts
terms_are_telemetry layouts wdt bytes sound =
    each_listed (λ (t : Term). IsTrue (is_telemetry_mid t.mid)) (λ n. spelled_term (entry_at Watchpoints wdt n)) (own_count wdt) each
  where
    parts : SoundParts layouts Wdt wdt
    parts = sound_parts layouts Wdt wdt sound

    is : parts.layout ≡ Watchpoints
    is = only_watchpoints parts.layout parts.of_kind

    p : SoundPreamble parts.layout wdt
    p = sound_preamble parts.layout wdt parts.preamble

    each : (n : ℕ) → n < own_count wdt → IsTrue (is_telemetry_mid (u16_at (entry_at Watchpoints wdt n) 2))
    each n below =
        let inside : n < table_entries = omega (arith, below, p.own) in
        entry_watches (entry_at Watchpoints wdt n)
        (ap (λ l. used_code l (watchpoint_count wdt) (entry_at l wdt n)) (sym is) ∙ used_is_sound parts.layout wdt n (parts.entries n inside) below)
