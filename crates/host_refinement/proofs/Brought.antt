-- What a stream of bytes brings.
use Rattle.std.proofs.Common.{◌≡◌, refl, subst, ℕ, zero, suc, ◌+◌, Bool, true, false, not, cond, nat_lt, ◌==◌, List, [], ◌∷◌, length, take, drop, slice_index, Option, Some, None}
use Rattle.lc_model.specs.declared.kind.Kind.TheVariants.{Wdt, Adt}
use Rattle.lc_model.specs.Name.{Name, name_in, name_size}
use Rattle.lc_model.specs.Bytes.{u16_at}
use Rattle.lc_model.specs.Host.Stream.{StreamEntry, Contents, Packet, Tick, File, Half, Front, EndOfStream, Record, NoRecord, CutRecord, all_kinds, header_size, body_size, fits_body, half_contents, contents_of, moment_of, record_of, front, records_by_front, records_from}
use Rattle.lc_model.proofs.Host.WholeRuns.{IsHalfBelow, contents_below}
use Rattle.lc_model.proofs.Tables.SaidLaws.{bytes_in_front}
use Rattle.host_refinement.specs.Statements.{AreBytes, IsBrought, AreBrought, StreamsBring}
use Rattle.host_refinement.proofs.FineFiles.{dropped}

-- the bytes of a file are some of the body's
IsFileOf : List ℕ → Contents → Type 0
IsFileOf body (File name bytes) = AreBytes body → AreBytes bytes
IsFileOf body other = Unit {0}

file_of : (texts kind : ℕ) (body : List ℕ) (contents : Contents) → contents_of texts kind body ≡ Some contents → IsFileOf body contents
unfolding IsFileOf
file_of texts kind body contents e = by_tests (kind == 1) (kind == 2) (kind == 3) e
  where
    by_half : (below one two : Bool) (name : Name) (text : ℕ) →
        cond (not below) None (cond one (Some (Half name Wdt text)) (cond two (Some (Half name Adt text)) None)) ≡ Some contents → IsFileOf body contents
    by_half false one two name text e = absurd (cc e)
    by_half true true two name text e =
        let same : Half name Wdt text ≡ contents = cc e in subst (IsFileOf body) same tt
    by_half true false true name text e =
        let same : Half name Adt text ≡ contents = cc e in subst (IsFileOf body) same tt
    by_half true false false name text e = absurd (cc e)

    by_tests : (one two three : Bool) →
        cond one (Some (Packet body)) (cond two (Some Tick) (cond three (Some (File (name_in (take name_size body)) (drop name_size body)))
        (half_contents texts (name_in (take name_size body)) (slice_index body 40) (u16_at body 41))))
        ≡ Some contents → IsFileOf body contents
    by_tests true two three e = let same : Packet body ≡ contents = cc e in subst (IsFileOf body) same tt
    by_tests false true three e = let same : Tick ≡ contents = cc e in subst (IsFileOf body) same tt
    by_tests false false true e =
        let same : File (name_in (take name_size body)) (drop name_size body) ≡ contents = cc e in
        subst (IsFileOf body) same (λ all. dropped name_size body all)
    by_tests false false false e =
        by_half (nat_lt (u16_at body 41) texts) (slice_index body 40 == 1) (slice_index body 40 == 2) (name_in (take name_size body)) (u16_at body 41) e

brought : (texts : ℕ) (body : List ℕ) (contents : Contents) → IsHalfBelow texts contents → IsFileOf body contents → AreBytes body → IsBrought texts contents
unfolding IsFileOf
brought texts body (Packet bytes) below file all = tt
brought texts body Tick below file all = tt
brought texts body (File name bytes) below file all = file all
brought texts body (Half name kind text) below file all = below

record Brings (texts : ℕ) (entry : StreamEntry) (rest : List ℕ) : Type 0 where
  here : IsBrought texts entry.contents
  behind : AreBytes rest

record_parts : (texts : ℕ) (entry other : StreamEntry) (rest more : List ℕ) → Record entry rest ≡ Record other more → Brings texts entry rest → Brings texts other more
record_parts texts entry other rest more e brings =
    let first : entry ≡ other = cc e in
    let second : rest ≡ more = cc e in
    record { here = subst (λ (o : StreamEntry). IsBrought texts o.contents) first brings.here; behind = subst AreBytes second brings.behind }

front_brings : (kinds : List ℕ) (texts : ℕ) (bytes : List ℕ) (entry : StreamEntry) (rest : List ℕ) → AreBytes bytes →
    front kinds texts bytes ≡ Record entry rest → Brings texts entry rest
front_brings kinds texts [] entry rest all e = absurd (cc e)
front_brings kinds texts (kind ∷ bytes) entry rest all e =
    by_tests (nat_lt (length stream) header_size) (fits_body kinds kind (body_size stream)) (nat_lt (length stream) (header_size + body_size stream))
    (contents_of texts kind body) refl e
  where
    stream : List ℕ
    stream = kind ∷ bytes

    body : List ℕ
    body = drop header_size (take (header_size + body_size stream) stream)

    are : AreBytes body
    are = dropped header_size (take (header_size + body_size stream) stream) (bytes_in_front (header_size + body_size stream) stream all)

    by_tests : (short fits cut : Bool) (contents : Option Contents) → contents_of texts kind body ≡ contents →
        cond short CutRecord (cond (not fits) NoRecord (cond cut CutRecord
        (record_of contents (moment_of stream) (drop (header_size + body_size stream) stream)))) ≡ Record entry rest →
        Brings texts entry rest
    by_tests true fits cut contents brings is = absurd (cc is)
    by_tests false false cut contents brings is = absurd (cc is)
    by_tests false true true contents brings is = absurd (cc is)
    by_tests false true false None brings is = absurd (cc is)
    by_tests false true false (Some contents) brings is =
        record_parts texts (record { moment = moment_of stream; contents = contents }) entry (drop (header_size + body_size stream) stream) rest is
        (record {
          here = brought texts body contents (contents_below texts kind body contents brings) (file_of texts kind body contents brings) are;
          behind = dropped (header_size + body_size stream) stream all;
        })

records_bring : (texts most number : ℕ) (bytes : List ℕ) → AreBytes bytes → AreBrought texts (records_from all_kinds texts most number bytes).0
records_bring texts zero number bytes all = tt
records_bring texts (suc most) number bytes all = by_front (front all_kinds texts bytes) refl (records_bring texts most (number + 1))
  where
    by_front : (f : Front) → front all_kinds texts bytes ≡ f →
        ((rest : List ℕ) → AreBytes rest → AreBrought texts (records_from all_kinds texts most (number + 1) rest).0) →
        AreBrought texts (records_by_front (records_from all_kinds texts most (number + 1)) number f).0
    by_front EndOfStream e others = tt
    by_front NoRecord e others = tt
    by_front CutRecord e others = tt
    by_front (Record entry rest) e others =
        let brings : Brings texts entry rest = front_brings all_kinds texts bytes entry rest all e in (brings.here, others rest brings.behind)

pub streams_bring : StreamsBring
streams_bring texts stream all = records_bring texts (length stream) 1 stream all
