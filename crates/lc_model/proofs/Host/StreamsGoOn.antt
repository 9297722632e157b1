-- What stands in front of a stream stays there, whatever follows.
use Rattle.std.proofs.Common.{◌≡◌, refl, sym, ◌∙◌, ap, ℕ, zero, suc, ◌+◌, ◌<◌, ◌≤◌, Bool, true, false, not, cond, nat_lt, List, [], ◌∷◌, ◌++◌, length, take, drop, Option, Some, None, arith, length-append}
use Rattle.lc_model.specs.declared.record.Moment.{Moment}
use Rattle.lc_model.specs.Host.Stream.{StreamEntry, End, Whole, Contents, Front, EndOfStream, Record, NoRecord, CutRecord, header_size, body_size, fits_body, contents_of, moment_of, record_of, front, records_by_front, records_numbered}
use Rattle.lc_model.specs.Laws.Stream.{FrontsStay, AllFrontsStay, RecordsGoOn}
use Rattle.lc_model.proofs.Host.Streams.{shorter, front_decides}

take_within : (n : ℕ) (xs ys : List ℕ) → n ≤ length xs → take n (xs ++ ys) ≡ take n xs
take_within zero xs ys within = refl
take_within (suc n) [] ys within = absurd (omega (arith, within))
take_within (suc n) (x ∷ xs) ys within = ap (λ rest. x ∷ rest) (take_within n xs ys (omega (arith, within)))

drop_within : (n : ℕ) (xs ys : List ℕ) → n ≤ length xs → drop n (xs ++ ys) ≡ drop n xs ++ ys
drop_within zero xs ys within = refl
drop_within (suc n) [] ys within = absurd (omega (arith, within))
drop_within (suc n) (x ∷ xs) ys within = drop_within n xs ys (omega (arith, within))

-- ---- the header

record HeaderStays (bytes more : List ℕ) : Type 0 where
  size : body_size (bytes ++ more) ≡ body_size bytes
  moment : moment_of (bytes ++ more) ≡ moment_of bytes

header_stays : (bytes more : List ℕ) → 11 ≤ length bytes → HeaderStays bytes more
header_stays [] more long = absurd (omega (arith, long))
header_stays (a ∷ []) more long = absurd (omega (arith, long))
header_stays (a ∷ b ∷ []) more long = absurd (omega (arith, long))
header_stays (a ∷ b ∷ c ∷ []) more long = absurd (omega (arith, long))
header_stays (a ∷ b ∷ c ∷ d ∷ []) more long = absurd (omega (arith, long))
header_stays (a ∷ b ∷ c ∷ d ∷ e ∷ []) more long = absurd (omega (arith, long))
header_stays (a ∷ b ∷ c ∷ d ∷ e ∷ f ∷ []) more long = absurd (omega (arith, long))
header_stays (a ∷ b ∷ c ∷ d ∷ e ∷ f ∷ g ∷ []) more long = absurd (omega (arith, long))
header_stays (a ∷ b ∷ c ∷ d ∷ e ∷ f ∷ g ∷ h ∷ []) more long = absurd (omega (arith, long))
header_stays (a ∷ b ∷ c ∷ d ∷ e ∷ f ∷ g ∷ h ∷ i ∷ []) more long = absurd (omega (arith, long))
header_stays (a ∷ b ∷ c ∷ d ∷ e ∷ f ∷ g ∷ h ∷ i ∷ j ∷ []) more long = absurd (omega (arith, long))
header_stays (a ∷ b ∷ c ∷ d ∷ e ∷ f ∷ g ∷ h ∷ i ∷ j ∷ k ∷ bytes) more long = record { size = refl; moment = refl }

-- ---- one record

-- what stands in front, by its tests
abbrev by_header : (short fits cut : Bool) → Option Contents → Moment → List ℕ → Front
by_header short fits cut contents moment rest = cond short CutRecord (cond (not fits) NoRecord (cond cut CutRecord (record_of contents moment rest)))

module _ (kinds : List ℕ) (texts kind : ℕ) (bytes more : List ℕ) where
  long_enough : nat_lt (length (kind ∷ bytes)) header_size ≡ false → 11 ≤ length (kind ∷ bytes)
  long_enough e = grind (arith, e)

  still_long : nat_lt (length (kind ∷ bytes)) header_size ≡ false → nat_lt (length ((kind ∷ bytes) ++ more)) header_size ≡ false
  still_long e =
      let long : 11 ≤ length (kind ∷ bytes) = long_enough e in
      let both : length ((kind ∷ bytes) ++ more) ≡ length (kind ∷ bytes) + length more = length-append (kind ∷ bytes) more in
      let longer : 11 ≤ length ((kind ∷ bytes) ++ more) = omega (arith, long, both) in
      grind (arith, longer)

  whole : nat_lt (length (kind ∷ bytes)) (header_size + body_size (kind ∷ bytes)) ≡ false → header_size + body_size (kind ∷ bytes) ≤ length (kind ∷ bytes)
  whole e = grind (arith, e)

  still_whole : nat_lt (length (kind ∷ bytes)) (header_size + body_size (kind ∷ bytes)) ≡ false →
      nat_lt (length ((kind ∷ bytes) ++ more)) (header_size + body_size (kind ∷ bytes)) ≡ false
  still_whole e =
      let enough : header_size + body_size (kind ∷ bytes) ≤ length (kind ∷ bytes) = whole e in
      let both : length ((kind ∷ bytes) ++ more) ≡ length (kind ∷ bytes) + length more = length-append (kind ∷ bytes) more in
      let more_than : header_size + body_size (kind ∷ bytes) ≤ length ((kind ∷ bytes) ++ more) = omega (arith, enough, both) in
      grind (arith, more_than)

  -- with a header, where its body is there or needn't be
  refused_stays : nat_lt (length (kind ∷ bytes)) header_size ≡ false → fits_body kinds kind (body_size (kind ∷ bytes)) ≡ false →
      front kinds texts ((kind ∷ bytes) ++ more) ≡ NoRecord
  refused_stays long unfit =
      let header : HeaderStays (kind ∷ bytes) more = header_stays (kind ∷ bytes) more (long_enough long) in
      λ i. by_header (still_long long i) ((ap (fits_body kinds kind) header.size ∙ unfit) i)
      (nat_lt (length ((kind ∷ bytes) ++ more)) (header_size + body_size ((kind ∷ bytes) ++ more)))
      (contents_of texts kind (drop header_size (take (header_size + body_size ((kind ∷ bytes) ++ more)) ((kind ∷ bytes) ++ more))))
      (moment_of ((kind ∷ bytes) ++ more)) (drop (header_size + body_size ((kind ∷ bytes) ++ more)) ((kind ∷ bytes) ++ more))

  whole_stays : nat_lt (length (kind ∷ bytes)) header_size ≡ false → fits_body kinds kind (body_size (kind ∷ bytes)) ≡ true →
      nat_lt (length (kind ∷ bytes)) (header_size + body_size (kind ∷ bytes)) ≡ false →
      front kinds texts ((kind ∷ bytes) ++ more)
      ≡ record_of (contents_of texts kind (drop header_size (take (header_size + body_size (kind ∷ bytes)) (kind ∷ bytes)))) (moment_of (kind ∷ bytes))
      (drop (header_size + body_size (kind ∷ bytes)) (kind ∷ bytes) ++ more)
  whole_stays long fit uncut =
      let header : HeaderStays (kind ∷ bytes) more = header_stays (kind ∷ bytes) more (long_enough long) in
      let enough : header_size + body_size (kind ∷ bytes) ≤ length (kind ∷ bytes) = whole uncut in
      let taken = take_within (header_size + body_size (kind ∷ bytes)) (kind ∷ bytes) more enough in
      let left = drop_within (header_size + body_size (kind ∷ bytes)) (kind ∷ bytes) more enough in
      (λ i. by_header (still_long long i) (fits_body kinds kind (header.size i))
      (nat_lt (length ((kind ∷ bytes) ++ more)) (header_size + header.size i))
      (contents_of texts kind (drop header_size (take (header_size + header.size i) ((kind ∷ bytes) ++ more))))
      (header.moment i) (drop (header_size + header.size i) ((kind ∷ bytes) ++ more)))
      ∙ (λ i. by_header false (fit i) (still_whole uncut i) (contents_of texts kind (drop header_size (taken i))) (moment_of (kind ∷ bytes)) (left i))

  fronts_stay_of : FrontsStay kinds texts (kind ∷ bytes) more
  fronts_stay_of = record {
    a_record = λ entry rest e. record_by_tests (nat_lt (length (kind ∷ bytes)) header_size) (fits_body kinds kind (body_size (kind ∷ bytes)))
        (nat_lt (length (kind ∷ bytes)) (header_size + body_size (kind ∷ bytes))) refl refl refl
        (contents_of texts kind (drop header_size (take (header_size + body_size (kind ∷ bytes)) (kind ∷ bytes)))) refl entry rest e;
    none = λ e. none_by_tests (nat_lt (length (kind ∷ bytes)) header_size) (fits_body kinds kind (body_size (kind ∷ bytes)))
        (nat_lt (length (kind ∷ bytes)) (header_size + body_size (kind ∷ bytes))) refl refl refl
        (contents_of texts kind (drop header_size (take (header_size + body_size (kind ∷ bytes)) (kind ∷ bytes)))) refl e;
  }
    where
      behind : List ℕ
      behind = drop (header_size + body_size (kind ∷ bytes)) (kind ∷ bytes)

      record_by_tests : (short fits cut : Bool) → nat_lt (length (kind ∷ bytes)) header_size ≡ short → fits_body kinds kind (body_size (kind ∷ bytes)) ≡ fits →
          nat_lt (length (kind ∷ bytes)) (header_size + body_size (kind ∷ bytes)) ≡ cut → (contents : Option Contents) →
          contents_of texts kind (drop header_size (take (header_size + body_size (kind ∷ bytes)) (kind ∷ bytes))) ≡ contents →
          (entry : StreamEntry) (rest : List ℕ) → by_header short fits cut contents (moment_of (kind ∷ bytes)) behind ≡ Record entry rest →
          front kinds texts ((kind ∷ bytes) ++ more) ≡ Record entry (rest ++ more)
      record_by_tests true fits cut long fit uncut contents is entry rest e = absurd (cc e)
      record_by_tests false false cut long fit uncut contents is entry rest e = absurd (cc e)
      record_by_tests false true true long fit uncut contents is entry rest e = absurd (cc e)
      record_by_tests false true false long fit uncut None is entry rest e = absurd (cc e)
      record_by_tests false true false long fit uncut (Some contents) is entry rest e =
          let same_entry : record { moment = moment_of (kind ∷ bytes); contents = contents } ≡ entry = cc e in
          let same_rest : drop (header_size + body_size (kind ∷ bytes)) (kind ∷ bytes) ≡ rest = cc e in
          whole_stays long fit uncut
          ∙ ap (λ c. record_of c (moment_of (kind ∷ bytes)) (drop (header_size + body_size (kind ∷ bytes)) (kind ∷ bytes) ++ more)) is
          ∙ (λ i. Record (same_entry i) (same_rest i ++ more))

      none_by_tests : (short fits cut : Bool) → nat_lt (length (kind ∷ bytes)) header_size ≡ short → fits_body kinds kind (body_size (kind ∷ bytes)) ≡ fits →
          nat_lt (length (kind ∷ bytes)) (header_size + body_size (kind ∷ bytes)) ≡ cut → (contents : Option Contents) →
          contents_of texts kind (drop header_size (take (header_size + body_size (kind ∷ bytes)) (kind ∷ bytes))) ≡ contents →
          by_header short fits cut contents (moment_of (kind ∷ bytes)) behind ≡ NoRecord → front kinds texts ((kind ∷ bytes) ++ more) ≡ NoRecord
      none_by_tests true fits cut long fit uncut contents is e = absurd (cc e)
      none_by_tests false false cut long fit uncut contents is e = refused_stays long fit
      none_by_tests false true true long fit uncut contents is e = absurd (cc e)
      none_by_tests false true false long fit uncut None is e =
          whole_stays long fit uncut
          ∙ ap (λ c. record_of c (moment_of (kind ∷ bytes)) (drop (header_size + body_size (kind ∷ bytes)) (kind ∷ bytes) ++ more)) is
      none_by_tests false true false long fit uncut (Some contents) is e = absurd (cc e)

pub all_fronts_stay : AllFrontsStay
all_fronts_stay kinds texts [] more = record { a_record = λ entry rest e. absurd (cc e); none = λ e. absurd (cc e) }
all_fronts_stay kinds texts (kind ∷ bytes) more = fronts_stay_of kinds texts kind bytes more

-- ---- all records

-- only nothing is the end
no_end : (kinds : List ℕ) (texts kind : ℕ) (bytes : List ℕ) → front kinds texts (kind ∷ bytes) ≡ EndOfStream → ⊥
no_end kinds texts kind bytes e =
    by_tests (nat_lt (length (kind ∷ bytes)) header_size) (fits_body kinds kind (body_size (kind ∷ bytes)))
    (nat_lt (length (kind ∷ bytes)) (header_size + body_size (kind ∷ bytes)))
    (contents_of texts kind (drop header_size (take (header_size + body_size (kind ∷ bytes)) (kind ∷ bytes)))) e
  where
    by_tests : (short fits cut : Bool) (contents : Option Contents) →
        by_header short fits cut contents (moment_of (kind ∷ bytes)) (drop (header_size + body_size (kind ∷ bytes)) (kind ∷ bytes)) ≡ EndOfStream → ⊥
    by_tests true fits cut contents is = cc is
    by_tests false false cut contents is = cc is
    by_tests false true true contents is = cc is
    by_tests false true false None is = cc is
    by_tests false true false (Some contents) is = cc is

-- these records first, and then others
abbrev behind : List StreamEntry → List StreamEntry × End → List StreamEntry × End
behind entries others = (entries ++ others.0, others.1)

module _ (kinds : List ℕ) (texts : ℕ) (more : List ℕ) where
  abbrev Continues : ℕ → List ℕ → Type 0
  Continues number bytes =
      records_numbered kinds texts number (bytes ++ more)
      ≡ behind (records_numbered kinds texts number bytes).0 (records_numbered kinds texts (number + length (records_numbered kinds texts number bytes).0) more)

  continues : (most number : ℕ) (bytes : List ℕ) → length bytes ≤ most → (records_numbered kinds texts number bytes).1 ≡ Whole → Continues number bytes
  continues most number [] few ends =
      let none_more : number ≡ number + 0 = omega arith in
      ap (λ n. behind [] (records_numbered kinds texts n more)) none_more
  continues zero number (kind ∷ bytes) few ends = absurd (omega (arith, few))
  continues (suc most) number (kind ∷ bytes) few ends = by_front (front kinds texts (kind ∷ bytes)) refl (λ rest less whole. continues most (number + 1) rest (omega (arith, less, few)) whole)
    where
      by_front : (f : Front) → front kinds texts (kind ∷ bytes) ≡ f →
          ((rest : List ℕ) → length rest < length (kind ∷ bytes) → (records_numbered kinds texts (number + 1) rest).1 ≡ Whole → Continues (number + 1) rest) →
          Continues number (kind ∷ bytes)
      by_front EndOfStream is later = absurd (no_end kinds texts kind bytes is)
      by_front NoRecord is later =
          let decided : records_numbered kinds texts number (kind ∷ bytes) ≡ records_by_front (records_numbered kinds texts (number + 1)) number NoRecord =
          front_decides kinds texts number (kind ∷ bytes) ∙ ap (records_by_front (records_numbered kinds texts (number + 1)) number) is in
          absurd (cc (sym (ap (λ (r : List StreamEntry × End). r.1) decided) ∙ ends))
      by_front CutRecord is later =
          let decided : records_numbered kinds texts number (kind ∷ bytes) ≡ records_by_front (records_numbered kinds texts (number + 1)) number CutRecord =
          front_decides kinds texts number (kind ∷ bytes) ∙ ap (records_by_front (records_numbered kinds texts (number + 1)) number) is in
          absurd (cc (sym (ap (λ (r : List StreamEntry × End). r.1) decided) ∙ ends))
      by_front (Record entry rest) is later =
          let decided : records_numbered kinds texts number (kind ∷ bytes) ≡ (entry ∷ (records_numbered kinds texts (number + 1) rest).0, (records_numbered kinds texts (number + 1) rest).1) =
          front_decides kinds texts number (kind ∷ bytes) ∙ ap (records_by_front (records_numbered kinds texts (number + 1)) number) is in
          let stays : front kinds texts ((kind ∷ bytes) ++ more) ≡ Record entry (rest ++ more) = (fronts_stay_of kinds texts kind bytes more).a_record entry rest is in
          let rest_ends : (records_numbered kinds texts (number + 1) rest).1 ≡ Whole = sym (ap (λ (r : List StreamEntry × End). r.1) decided) ∙ ends in
          let later_on : Continues (number + 1) rest = later rest (shorter kinds texts (kind ∷ bytes) entry rest is) rest_ends in
          let same_number : number + 1 + length (records_numbered kinds texts (number + 1) rest).0 ≡ number + suc (length (records_numbered kinds texts (number + 1) rest).0) = omega arith in
          front_decides kinds texts number ((kind ∷ bytes) ++ more)
          ∙ ap (records_by_front (records_numbered kinds texts (number + 1)) number) stays
          ∙ ap (λ (r : List StreamEntry × End). (entry ∷ r.0, r.1)) later_on
          ∙ ap (λ n. behind (entry ∷ (records_numbered kinds texts (number + 1) rest).0) (records_numbered kinds texts n more)) same_number
          ∙ ap (λ entries. behind entries (records_numbered kinds texts (number + length entries) more)) (sym (ap (λ (r : List StreamEntry × End). r.0) decided))

-- the records of a front of some bytes are a front of their records
record IsFrontOf (number : ℕ) (kinds : List ℕ) (texts : ℕ) (bytes more : List ℕ) : Type 0 where
  pub others : List StreamEntry
  pub all : (records_numbered kinds texts number (bytes ++ more)).0 ≡ (records_numbered kinds texts number bytes).0 ++ others

module _ (kinds : List ℕ) (texts : ℕ) (more : List ℕ) where
  -- a front without a record
  without : (number : ℕ) (bytes : List ℕ) → (records_numbered kinds texts number bytes).0 ≡ [] → IsFrontOf number kinds texts bytes more
  without number bytes none = record {
    others = (records_numbered kinds texts number (bytes ++ more)).0;
    all = ap (λ entries. entries ++ (records_numbered kinds texts number (bytes ++ more)).0) (sym none);
  }

  is_front : (most number : ℕ) (bytes : List ℕ) → length bytes ≤ most → IsFrontOf number kinds texts bytes more
  is_front most number [] few = without number [] refl
  is_front zero number (kind ∷ bytes) few = absurd (omega (arith, few))
  is_front (suc most) number (kind ∷ bytes) few =
      by_front (front kinds texts (kind ∷ bytes)) refl (λ rest less. is_front most (number + 1) rest (omega (arith, less, few)))
    where
      decided : (f : Front) → front kinds texts (kind ∷ bytes) ≡ f →
          (records_numbered kinds texts number (kind ∷ bytes)).0 ≡ (records_by_front (records_numbered kinds texts (number + 1)) number f).0
      decided f is =
          ap (λ (r : List StreamEntry × End). r.0)
          (front_decides kinds texts number (kind ∷ bytes) ∙ ap (records_by_front (records_numbered kinds texts (number + 1)) number) is)

      by_front : (f : Front) → front kinds texts (kind ∷ bytes) ≡ f →
          ((rest : List ℕ) → length rest < length (kind ∷ bytes) → IsFrontOf (number + 1) kinds texts rest more) → IsFrontOf number kinds texts (kind ∷ bytes) more
      by_front EndOfStream is later = without number (kind ∷ bytes) (decided EndOfStream is)
      by_front NoRecord is later = without number (kind ∷ bytes) (decided NoRecord is)
      by_front CutRecord is later = without number (kind ∷ bytes) (decided CutRecord is)
      by_front (Record entry rest) is later =
          let stays : front kinds texts ((kind ∷ bytes) ++ more) ≡ Record entry (rest ++ more) = (fronts_stay_of kinds texts kind bytes more).a_record entry rest is in
          let of_rest : IsFrontOf (number + 1) kinds texts rest more = later rest (shorter kinds texts (kind ∷ bytes) entry rest is) in
          record {
            others = of_rest.others;
            all =
                ap (λ (r : List StreamEntry × End). r.0)
                (front_decides kinds texts number ((kind ∷ bytes) ++ more) ∙ ap (records_by_front (records_numbered kinds texts (number + 1)) number) stays)
                ∙ ap (λ entries. entry ∷ entries) of_rest.all
                ∙ ap (λ entries. entries ++ of_rest.others) (sym (decided (Record entry rest) is));
          }

pub front_of_records : (kinds : List ℕ) (texts number : ℕ) (bytes more : List ℕ) →
    (others : List StreamEntry) × ((records_numbered kinds texts number (bytes ++ more)).0 ≡ (records_numbered kinds texts number bytes).0 ++ others)
front_of_records kinds texts number bytes more =
    let is : IsFrontOf number kinds texts bytes more = is_front kinds texts more (length bytes) number bytes (omega arith) in (is.others, is.all)

pub records_go_on : RecordsGoOn
records_go_on kinds texts number bytes more ends = continues kinds texts more (length bytes) number bytes (omega arith) ends
