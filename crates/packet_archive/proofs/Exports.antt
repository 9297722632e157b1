-- What is exported of a stream, by what stands in front.
use Rattle.std.proofs.Common.{◌≡◌, refl, sym, ◌∙◌, ap, ℕ, zero, suc, ◌+◌, ◌<◌, ◌≤◌, List, [], ◌∷◌, ◌++◌, length, append_assoc, arith}
use Rattle.std.proofs.lemmas.List.Concat.{flat_map-append}
use Rattle.lc_model.specs.Host.Stream.{StreamEntry, End, Front, EndOfStream, Record, NoRecord, CutRecord, all_kinds, front, records_by_front, records_from, records_numbered, records_of}
use Rattle.lc_model.proofs.Host.Streams.{front_decides, shorter}
use Rattle.lc_model.proofs.Host.StreamsGoOn.{all_fronts_stay, records_go_on}
use Rattle.stream_script.specs.Front.{any_text}
use Rattle.packet_archive.specs.Export.{ExportsGoOn, ExportsInPieces, exported, left_by, left_of, left_within, packet_of, packets_of}

-- ---- the number of the first record says nothing of what the records are

module _ (kinds : List ℕ) (texts : ℕ) where
  pub same_records : (most n m : ℕ) (bytes : List ℕ) → (records_from kinds texts most n bytes).0 ≡ (records_from kinds texts most m bytes).0
  same_records zero n m bytes = refl
  same_records (suc most) n m bytes = by_front (front kinds texts bytes) (λ rest. same_records most (n + 1) (m + 1) rest)
    where
      by_front : (f : Front) → ((rest : List ℕ) → (records_from kinds texts most (n + 1) rest).0 ≡ (records_from kinds texts most (m + 1) rest).0) →
          (records_by_front (records_from kinds texts most (n + 1)) n f).0 ≡ (records_by_front (records_from kinds texts most (m + 1)) m f).0
      by_front EndOfStream others = refl
      by_front NoRecord others = refl
      by_front CutRecord others = refl
      by_front (Record entry rest) others = ap (λ entries. entry ∷ entries) (others rest)

-- ---- what stands in front

abbrev pub exported_by : Front → List ℕ
exported_by (Record entry rest) = packet_of entry.contents ++ exported rest
exported_by other = []

pub exported_front : (bytes : List ℕ) → exported bytes ≡ exported_by (front all_kinds any_text bytes)
exported_front bytes =
    ap (λ (r : List StreamEntry × End). packets_of r.0) (front_decides all_kinds any_text 1 bytes) ∙ by_front (front all_kinds any_text bytes)
  where
    by_front : (f : Front) → packets_of (records_by_front (records_numbered all_kinds any_text (1 + 1)) 1 f).0 ≡ exported_by f
    by_front EndOfStream = refl
    by_front NoRecord = refl
    by_front CutRecord = refl
    by_front (Record entry rest) = ap (λ entries. packet_of entry.contents ++ packets_of entries) (same_records all_kinds any_text (length rest) 2 1 rest)

-- ---- streams one behind the other

pub exports_go_on : ExportsGoOn
exports_go_on first next ends =
    let entries : List StreamEntry = (records_of any_text first).0 in
    ap (λ (r : List StreamEntry × End). packets_of r.0) (records_go_on all_kinds any_text 1 first next ends)
    ∙ flat_map-append (λ (entry : StreamEntry). packet_of entry.contents) entries (records_numbered all_kinds any_text (1 + length entries) next).0
    ∙ ap (λ others. exported first ++ packets_of others) (same_records all_kinds any_text (length next) (1 + length entries) 1 next)

-- ---- pieces

enough : (m n : ℕ) (bytes : List ℕ) → length bytes ≤ m → length bytes ≤ n → left_within m bytes ≡ left_within n bytes
unfolding left_within
enough zero zero bytes p q = refl
enough zero (suc n) [] p q = refl
enough zero (suc n) (b ∷ bytes) p q = absurd (omega (arith, p))
enough (suc m) zero [] p q = refl
enough (suc m) zero (b ∷ bytes) p q = absurd (omega (arith, q))
enough (suc m) (suc n) bytes p q =
    by_front (front all_kinds any_text bytes) refl (λ rest less. enough m n rest (omega (arith, less, p)) (omega (arith, less, q)))
  where
    by_front : (f : Front) → front all_kinds any_text bytes ≡ f → ((rest : List ℕ) → length rest < length bytes → left_within m rest ≡ left_within n rest) →
        left_by (left_within m) bytes f ≡ left_by (left_within n) bytes f
    by_front EndOfStream is others = refl
    by_front NoRecord is others = refl
    by_front CutRecord is others = refl
    by_front (Record entry rest) is others = others rest (shorter all_kinds any_text bytes entry rest is)

pub left_front : (bytes : List ℕ) → left_of bytes ≡ left_by left_of bytes (front all_kinds any_text bytes)
unfolding left_within
left_front [] = refl
left_front (b ∷ bytes) = by_front (front all_kinds any_text (b ∷ bytes)) refl
  where
    by_front : (f : Front) → front all_kinds any_text (b ∷ bytes) ≡ f → left_by (left_within (length bytes)) (b ∷ bytes) f ≡ left_by left_of (b ∷ bytes) f
    by_front EndOfStream is = refl
    by_front NoRecord is = refl
    by_front CutRecord is = refl
    by_front (Record entry rest) is =
        enough (length bytes) (length rest) rest (omega (arith, shorter all_kinds any_text (b ∷ bytes) entry rest is)) (omega arith)

-- what is exported of a piece, and of the next behind what is left of it
abbrev Goes : List ℕ → List ℕ → Type 0
Goes first next = exported (first ++ next) ≡ exported first ++ exported (left_of first ++ next)

-- where no record stands in front, all is left
none_left_out : (first next : List ℕ) → exported first ≡ [] → left_of first ≡ first → Goes first next
none_left_out first next none all = sym (ap (λ out. out ++ exported (left_of first ++ next)) none ∙ ap (λ left. exported (left ++ next)) all)

one_record : (first next rest : List ℕ) (entry : StreamEntry) → front all_kinds any_text first ≡ Record entry rest → Goes rest next → Goes first next
one_record first next rest entry is others =
    let stays : front all_kinds any_text (first ++ next) ≡ Record entry (rest ++ next) = (all_fronts_stay all_kinds any_text first next).a_record entry rest is in
    let left : left_of first ≡ left_of rest = left_front first ∙ ap (left_by left_of first) is in
    let here : exported first ≡ packet_of entry.contents ++ exported rest = exported_front first ∙ ap exported_by is in
    exported_front (first ++ next)
    ∙ ap exported_by stays
    ∙ ap (λ out. packet_of entry.contents ++ out) others
    ∙ sym (append_assoc (packet_of entry.contents) (exported rest) (exported (left_of rest ++ next)))
    ∙ sym (λ i. here i ++ exported (left i ++ next))

pieces : (most : ℕ) (first next : List ℕ) → length first < most → Goes first next
pieces zero first next less = absurd (omega (arith, less))
pieces (suc most) first next less = by_front (front all_kinds any_text first) refl (λ rest shorter. pieces most rest next (omega (arith, shorter, less)))
  where
    by_front : (f : Front) → front all_kinds any_text first ≡ f → ((rest : List ℕ) → length rest < length first → Goes rest next) → Goes first next
    by_front EndOfStream is others = none_left_out first next (exported_front first ∙ ap exported_by is) (left_front first ∙ ap (left_by left_of first) is)
    by_front NoRecord is others = none_left_out first next (exported_front first ∙ ap exported_by is) (left_front first ∙ ap (left_by left_of first) is)
    by_front CutRecord is others = none_left_out first next (exported_front first ∙ ap exported_by is) (left_front first ∙ ap (left_by left_of first) is)
    by_front (Record entry rest) is others = one_record first next rest entry is (others rest (shorter all_kinds any_text first entry rest is))

pub exports_in_pieces : ExportsInPieces
exports_in_pieces first next = pieces (length first + 1) first next (omega arith)
