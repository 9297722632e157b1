-- Over every stream, what is written by the bytes of files is what the rule texts in force call for.
use Rattle.std.proofs.Common.{◌≡◌, refl, ap, subst, ℕ, zero, suc, ◌+◌, ◌<◌, Bool, true, false, not, cond, nat_lt, ◌==◌, List, [], ◌∷◌, length, take, drop, slice_get, slice_index, arith, Option, Some, None}
use Rattle.std.specs.List.{concat, AllByRecursion}
use Rattle.std.proofs.lemmas.List.Elements.{Contains-append_right}
use Rattle.lc_model.specs.declared.kind.Kind.{Kind}
use Rattle.lc_model.specs.declared.kind.Kind.TheVariants.{Wdt, Adt}
use Rattle.lc_model.specs.Name.{Name, name_in, name_size}
use Rattle.lc_model.specs.Bytes.{u16_at}
use Rattle.lc_model.specs.Tables.Image.{Layout}
use Rattle.lc_model.specs.Tables.File.{headers_length}
use Rattle.lc_model.specs.Tables.Interpretation.{FileMeaning, Opened, Unreadable}
use Rattle.lc_model.specs.Tables.HalvesAndBytes.{Text, TextImage, as_bytes, as_halves, byte_meanings, text_meanings}
use Rattle.lc_model.specs.Host.Schedule.{Schedule}
use Rattle.lc_model.specs.Host.Stream.{StreamEntry, Contents, Packet, Tick, File, Half, Front, EndOfStream, Record, NoRecord, CutRecord, all_kinds, header_size, body_size, fits_body, half_contents, contents_of, moment_of, record_of, front, records_by_front, records_from}
use Rattle.lc_model.specs.Host.World.{first_world}
use Rattle.lc_model.specs.Host.Run.{size_in, input_of, packets_of}
use Rattle.lc_model.specs.Host.Promise.{HaveOwnHashes, CarriesHalf, CarryHalves}
use Rattle.lc_model.specs.Laws.Correspondence.{IsImageOf, MeaningAlike, InputAlike, AreRead}
use Rattle.lc_model.specs.Laws.Runs.{AreFilesOfHalves, BytesRunAsTexts}
use Rattle.lc_model.proofs.Tables.SpellingLaws.{bytes_agree_with_texts}
use Rattle.lc_model.proofs.Tables.FilesAlike.{files_mean_alike}
use Rattle.lc_model.proofs.Tables.HalfFiles.{compiled_files_mean_alike}
use Rattle.lc_model.proofs.Host.SentOfTwo.{sent_alike, first_alike}

-- ---- each half in a stream is of one of its texts

abbrev pub IsHalfBelow : ℕ → Contents → Type 0
IsHalfBelow texts (Half name kind number) = number < texts
IsHalfBelow texts other = Unit {0}

half_below : (texts : ℕ) (name : Name) (half text : ℕ) (contents : Contents) → half_contents texts name half text ≡ Some contents → IsHalfBelow texts contents
half_below texts name half text contents e = by_tests (nat_lt text texts) refl (half == 1) (half == 2) e
  where
    by_tests : (below : Bool) → nat_lt text texts ≡ below → (one two : Bool) →
        cond (not below) None (cond one (Some (Half name Wdt text)) (cond two (Some (Half name Adt text)) None)) ≡ Some contents → IsHalfBelow texts contents
    by_tests false is one two e = absurd (cc e)
    by_tests true is true two e =
        let less : text < texts = grind (arith, is) in
        let same : Half name Wdt text ≡ contents = cc e in
        subst (λ c. IsHalfBelow texts c) same less
    by_tests true is false true e =
        let less : text < texts = grind (arith, is) in
        let same : Half name Adt text ≡ contents = cc e in
        subst (λ c. IsHalfBelow texts c) same less
    by_tests true is false false e = absurd (cc e)

pub contents_below : (texts kind : ℕ) (body : List ℕ) (contents : Contents) → contents_of texts kind body ≡ Some contents → IsHalfBelow texts contents
contents_below texts kind body contents e = by_tests (kind == 1) (kind == 2) (kind == 3) e
  where
    by_tests : (one two three : Bool) →
        cond one (Some (Packet body)) (cond two (Some Tick) (cond three (Some (File (name_in (take name_size body)) (drop name_size body)))
        (half_contents texts (name_in (take name_size body)) (slice_index body 40) (u16_at body 41))))
        ≡ Some contents → IsHalfBelow texts contents
    by_tests true two three e = let same : Packet body ≡ contents = cc e in subst (λ c. IsHalfBelow texts c) same tt
    by_tests false true three e = let same : Tick ≡ contents = cc e in subst (λ c. IsHalfBelow texts c) same tt
    by_tests false false true e =
        let same : File (name_in (take name_size body)) (drop name_size body) ≡ contents = cc e in subst (λ c. IsHalfBelow texts c) same tt
    by_tests false false false e = half_below texts (name_in (take name_size body)) (slice_index body 40) (u16_at body 41) contents e

front_below : (kinds : List ℕ) (texts : ℕ) (bytes : List ℕ) (entry : StreamEntry) (rest : List ℕ) →
    front kinds texts bytes ≡ Record entry rest → IsHalfBelow texts entry.contents
front_below kinds texts [] entry rest e = absurd (cc e)
front_below kinds texts (kind ∷ bytes) entry rest e =
    by_tests (nat_lt (length stream) header_size) (fits_body kinds kind (body_size stream)) (nat_lt (length stream) (header_size + body_size stream))
    (contents_of texts kind (drop header_size (take (header_size + body_size stream) stream))) refl e
  where
    stream : List ℕ
    stream = kind ∷ bytes

    by_tests : (short fits cut : Bool) (contents : Option Contents) →
        contents_of texts kind (drop header_size (take (header_size + body_size stream) stream)) ≡ contents →
        cond short CutRecord (cond (not fits) NoRecord (cond cut CutRecord
        (record_of contents (moment_of stream) (drop (header_size + body_size stream) stream)))) ≡ Record entry rest →
        IsHalfBelow texts entry.contents
    by_tests true fits cut contents brings is = absurd (cc is)
    by_tests false false cut contents brings is = absurd (cc is)
    by_tests false true true contents brings is = absurd (cc is)
    by_tests false true false None brings is = absurd (cc is)
    by_tests false true false (Some contents) brings is =
        let same : record { moment = moment_of stream; contents = contents } ≡ entry = cc is in
        subst (λ (other : StreamEntry). IsHalfBelow texts other.contents) same
        (contents_below texts kind (drop header_size (take (header_size + body_size stream) stream)) contents brings)

-- all records
abbrev pub AreHalvesBelow : ℕ → List StreamEntry → Type 0
AreHalvesBelow texts entries = AllByRecursion (λ (entry : StreamEntry). IsHalfBelow texts entry.contents) entries

pub records_below : (kinds : List ℕ) (texts most number : ℕ) (bytes : List ℕ) → AreHalvesBelow texts (records_from kinds texts most number bytes).0
records_below kinds texts zero number bytes = tt
records_below kinds texts (suc most) number bytes = by_front (front kinds texts bytes) refl (records_below kinds texts most (number + 1))
  where
    by_front : (f : Front) → front kinds texts bytes ≡ f →
        ((rest : List ℕ) → AreHalvesBelow texts (records_from kinds texts most (number + 1) rest).0) →
        AreHalvesBelow texts (records_by_front (records_from kinds texts most (number + 1)) number f).0
    by_front EndOfStream e others = tt
    by_front NoRecord e others = tt
    by_front CutRecord e others = tt
    by_front (Record entry rest) e others = (front_below kinds texts bytes entry rest e, others rest)

-- ---- what records bring is alike

pub numbered : {X : Type 0} (xs : List X) (n : ℕ) → n < length xs → (x : X) × (slice_get xs n ≡ Some x)
numbered [] n inside = absurd (omega (arith, inside))
numbered (x ∷ xs) zero inside = (x, refl)
numbered (x ∷ xs) (suc n) inside = numbered xs n (omega (arith, inside))

module _ (layouts : List Layout) (texts : List Text) (compiled : Kind → ℕ → List ℕ) (hashes : HaveOwnHashes texts)
    (files : AreFilesOfHalves layouts texts compiled) where
  abbrev Means : FileMeaning (List ℕ) → FileMeaning TextImage → Type 0
  Means = MeaningAlike (IsImageOf layouts texts) (as_bytes layouts) (as_halves layouts)

  abbrev Brings : Contents → Type 0
  Brings contents =
      InputAlike (IsImageOf layouts texts) (as_bytes layouts) (as_halves layouts) (input_of (byte_meanings compiled) contents) (input_of (text_meanings layouts texts) contents)

  same_size : (m : FileMeaning (List ℕ)) (n : FileMeaning TextImage) → Means m n → size_in m ≡ size_in n
  same_size (Unreadable fault) (Unreadable other) h = refl
  same_size (Unreadable fault) (Opened table size image) h = absurd h
  same_size (Opened table size image) (Unreadable fault) h = absurd h
  same_size (Opened table size image) (Opened table' size' image') h = h.1

  pub brings_alike : (contents : Contents) → IsHalfBelow (length texts) contents →
      ((name : Name) (bytes : List ℕ) → contents ≡ File name bytes → CarriesHalf layouts texts bytes) → Brings contents
  brings_alike (Packet bytes) below carries = refl
  brings_alike Tick below carries = tt
  brings_alike (File name bytes) below carries = (refl, refl, files_mean_alike layouts texts bytes hashes (carries name bytes refl))
  brings_alike (Half name kind number) below carries =
      let known = numbered texts number below in
      let means = compiled_files_mean_alike layouts texts compiled files kind number known.0 known.1 in (
        refl,
        ap (λ n. headers_length + n) (same_size ((byte_meanings compiled).of_half kind number) ((text_meanings layouts texts).of_half kind number) means),
        means,
      )

  all_bring : (entries : List StreamEntry) → AreHalvesBelow (length texts) entries → CarryHalves layouts texts entries →
      AllByRecursion (λ (entry : StreamEntry). Brings entry.contents) entries
  all_bring [] below carry = tt
  all_bring (entry ∷ entries) below carry = (
    brings_alike entry.contents below.0 (λ name bytes e. carry entry name bytes (0, omega arith, refl) e),
    all_bring entries below.1 (λ other name bytes among e. carry other name bytes (Contains-append_right (entry ∷ []) entries other among) e),
  )

  -- ---- whole runs

  pub same_packets : AreRead texts → (schedule : Schedule) (stock : List Name) (entries : List StreamEntry) → AreHalvesBelow (length texts) entries →
      CarryHalves layouts texts entries →
      packets_of (as_bytes layouts) schedule stock (byte_meanings compiled) entries ≡ packets_of (as_halves layouts) schedule stock (text_meanings layouts texts) entries
  same_packets read schedule stock entries below carry =
      let agree = bytes_agree_with_texts layouts texts read hashes in
      ap concat (sent_alike (IsImageOf layouts texts) (as_bytes layouts) (as_halves layouts) agree schedule (byte_meanings compiled) (text_meanings layouts texts)
      entries (all_bring entries below carry) (first_world stock) (first_world stock)
      (first_alike (IsImageOf layouts texts) (as_bytes layouts) (as_halves layouts) agree stock))

pub bytes_run_as_texts : BytesRunAsTexts
bytes_run_as_texts layouts texts compiled schedule stock stream read hashes files carry =
    same_packets layouts texts compiled hashes files read schedule stock (records_from all_kinds (length texts) (length stream) 1 stream).0
    (records_below all_kinds (length texts) (length stream) 1 stream) carry
