-- A table of watchpoints that was written is read again.
use Rattle.std.proofs.Common.{◌≡◌, refl, ◌∙◌, ap, ℕ, ◌<◌, List, length, map, get_or, unwrap_or, arith}
use Rattle.std.proofs.lemmas.Nat.{from_be_bytes-to_be_bytes_2, from_be_bytes-to_be_bytes_4}
use Rattle.std.proofs.lemmas.List.{length-map}
use Rattle.lc_model.specs.declared.field.FieldType.{FieldType}
use Rattle.lc_model.specs.declared.field.FieldType.TheVariants.{U8}
use Rattle.lc_model.specs.declared.field.Term.{Term}
use Rattle.lc_model.specs.Codes.{type_code}
use Rattle.lc_model.specs.Tables.Image.{Watchpoints, bits_32, twos_complement_32, term_bytes, type_of_code, FitsWatchpoint, wdt_image, entry_at, numbers_below, filled}
use Rattle.lc_model.specs.Tables.Spelled.{spelled_term}
use Rattle.lc_model.proofs.Tables.NumbersIn32Bits.{bits_small, value_again}
use Rattle.table_file.specs.Laws.{WatchpointsAreReadAgain}
use Rattle.lc_model.proofs.Tables.EntryLengths.{terms_long}
use Rattle.lc_model.proofs.Tables.EntriesAgain.{entry_again, listed, at_place, preamble_again}
use Rattle.lc_model.proofs.CodesAgain.{operator_again}
use Rattle.lc_model.proofs.FieldTypes.{type_again}

type_or_first : (k : FieldType) → unwrap_or (type_of_code (type_code k)) U8 ≡ k
type_or_first k = ap (λ found. unwrap_or found U8) (type_again k)

term_again : (t : Term) → FitsWatchpoint t → spelled_term (term_bytes t) ≡ t
term_again t fits =
    let kinds : unwrap_or (type_of_code (type_code t.kind)) U8 ≡ t.kind = type_or_first t.kind in
    let mids = from_be_bytes-to_be_bytes_2 t.mid fits.mid in
    let offsets = from_be_bytes-to_be_bytes_4 t.offset fits.offset in
    let masks = from_be_bytes-to_be_bytes_4 t.mask fits.mask in
    let stales = from_be_bytes-to_be_bytes_4 t.stale fits.stale in
    let bits = from_be_bytes-to_be_bytes_4 (bits_32 t.value) (bits_small t.kind t.value fits.value) in
    let values : twos_complement_32 t.kind (bits_32 t.value) ≡ t.value = value_again t.kind t.value fits.value in
    let value_is = (λ i. twos_complement_32 (kinds i) (bits i)) ∙ values in
    λ i. record { kind = kinds i; mid = mids i; offset = offsets i; mask = masks i; stale = stales i; op = operator_again t.op i; value = value_is i }

pub watchpoints_again : WatchpointsAreReadAgain
watchpoints_again hash terms long few fits =
    let image : List ℕ = wdt_image hash terms in
    let preamble_is = preamble_again Watchpoints (length terms) (length terms) hash (filled Watchpoints (map term_bytes terms)) long few (omega (arith, few)) in
    let each : (i : ℕ) (d : Term) → i < length terms → spelled_term (entry_at Watchpoints image i) ≡ get_or terms i d =
    λ i d within. ap spelled_term (entry_again Watchpoints term_bytes (length terms) (length terms) hash terms i d long (terms_long terms) (length-map terms term_bytes) few within)
    ∙ term_again (get_or terms i d) (at_place FitsWatchpoint terms i d fits within) in
    (preamble_is, ap (λ n. map (λ i. spelled_term (entry_at Watchpoints image i)) (numbers_below n)) preamble_is.own_is ∙ listed _ terms each)
