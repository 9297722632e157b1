-- The record in front of a stream, where only a piece of the stream is there.
use Rattle.std.proofs.Common.{◌≡◌, refl, sym, ◌∙◌, ap, ℕ, ◌+◌, ◌<◌, ◌≤◌, ◌⊎◌, inl, inr, min, Bool, true, false, not, cond, nat_lt, List, [], ◌∷◌, ◌++◌, length, take, drop, length-drop, length-take, Option, Some, None, arith}
use Rattle.std.specs.Int.{w32, from_be_bytes}
use Rattle.std.proofs.lemmas.List.{drop-append-le, drop_all, drop_min, take_all, take-append-drop}
use Rattle.lc_model.specs.Host.Stream.{StreamEntry, Contents, Front, EndOfStream, Record, CutRecord, NoRecord, all_kinds, body_size, contents_of, fits_body, front, header_size, moment_of, record_of}
use Rattle.lc_model.proofs.Facts.{tested_less, tested_not_less, test_not_less}
use Rattle.lc_model.proofs.Host.StreamsGoOn.{all_fronts_stay}
use Rattle.run_stepper.specs.Trace.{moment_in, size_in_front}

-- ---- what is known by what stands in front

-- a whole record stands in front of these bytes, and so many behind it
pub record IsRecord (bytes : List ℕ) (entry : StreamEntry) (rest : List ℕ) : Type 0 where
  pub long : 11 ≤ length bytes
  pub inside : 11 + body_size bytes ≤ length bytes
  pub behind : rest ≡ drop (11 + body_size bytes) bytes
  pub moment : entry.moment ≡ moment_of bytes

module _ (n kind : ℕ) (bytes : List ℕ) where
  abbrev all : List ℕ
  all = kind ∷ bytes

  record_tests : (entry : StreamEntry) (rest : List ℕ) (short fits cut : Bool) (contents : Option Contents) → nat_lt (length all) header_size ≡ short → nat_lt (length all) (header_size + body_size all) ≡ cut →
      cond short CutRecord (cond (not fits) NoRecord (cond cut CutRecord (record_of contents (moment_of all) (drop (header_size + body_size all) all)))) ≡ Record entry rest → IsRecord all entry rest
  record_tests entry rest true fits cut contents long whole is = absurd (cc is)
  record_tests entry rest false false cut contents long whole is = absurd (cc is)
  record_tests entry rest false true true contents long whole is = absurd (cc is)
  record_tests entry rest false true false None long whole is = absurd (cc is)
  record_tests entry rest false true false (Some contents) long whole is =
      let first : record { moment = moment_of all; contents = contents } ≡ entry = cc is in
      let second : drop (header_size + body_size all) all ≡ rest = cc is in
      record {
        long = tested_not_less (length all) 11 long;
        inside = tested_not_less (length all) (11 + body_size all) whole;
        behind = sym second;
        moment = sym (ap (λ (e : StreamEntry). e.moment) first);
      }

  end_tests : (short fits cut : Bool) (contents : Option Contents) →
      cond short CutRecord (cond (not fits) NoRecord (cond cut CutRecord (record_of contents (moment_of all) (drop (header_size + body_size all) all)))) ≡ EndOfStream → ⊥
  end_tests true fits cut contents is = cc is
  end_tests false false cut contents is = cc is
  end_tests false true true contents is = cc is
  end_tests false true false None is = cc is
  end_tests false true false (Some contents) is = cc is

  cut_tests : (short fits cut : Bool) (contents : Option Contents) → nat_lt (length all) header_size ≡ short → nat_lt (length all) (header_size + body_size all) ≡ cut →
      cond short CutRecord (cond (not fits) NoRecord (cond cut CutRecord (record_of contents (moment_of all) (drop (header_size + body_size all) all)))) ≡ CutRecord →
      (length all < 11) ⊎ (length all < 11 + body_size all)
  cut_tests true fits cut contents short part is = inl (tested_less (length all) 11 short)
  cut_tests false false cut contents short part is = absurd (cc is)
  cut_tests false true true contents short part is = inr (tested_less (length all) (11 + body_size all) part)
  cut_tests false true false None short part is = absurd (cc is)
  cut_tests false true false (Some contents) short part is = absurd (cc is)

pub a_record : (n : ℕ) (bytes : List ℕ) (entry : StreamEntry) (rest : List ℕ) → front all_kinds n bytes ≡ Record entry rest → IsRecord bytes entry rest
a_record n [] entry rest is = absurd (cc is)
a_record n (kind ∷ bytes) entry rest is =
    record_tests n kind bytes entry rest (nat_lt (length (kind ∷ bytes)) header_size) (fits_body all_kinds kind (body_size (kind ∷ bytes)))
    (nat_lt (length (kind ∷ bytes)) (header_size + body_size (kind ∷ bytes)))
    (contents_of n kind (drop header_size (take (header_size + body_size (kind ∷ bytes)) (kind ∷ bytes)))) refl refl is

pub none_there : (n : ℕ) (bytes : List ℕ) → front all_kinds n bytes ≡ EndOfStream → length bytes ≡ 0
none_there n [] is = refl
none_there n (kind ∷ bytes) is = absurd (
    end_tests n kind bytes (nat_lt (length (kind ∷ bytes)) header_size) (fits_body all_kinds kind (body_size (kind ∷ bytes)))
    (nat_lt (length (kind ∷ bytes)) (header_size + body_size (kind ∷ bytes)))
    (contents_of n kind (drop header_size (take (header_size + body_size (kind ∷ bytes)) (kind ∷ bytes)))) is
    )

a_part : (n : ℕ) (bytes : List ℕ) → front all_kinds n bytes ≡ CutRecord → (length bytes < 11) ⊎ (length bytes < 11 + body_size bytes)
a_part n [] is = absurd (cc is)
a_part n (kind ∷ bytes) is =
    cut_tests n kind bytes (nat_lt (length (kind ∷ bytes)) header_size) (fits_body all_kinds kind (body_size (kind ∷ bytes)))
    (nat_lt (length (kind ∷ bytes)) (header_size + body_size (kind ∷ bytes)))
    (contents_of n kind (drop header_size (take (header_size + body_size (kind ∷ bytes)) (kind ∷ bytes)))) refl refl is

-- ---- sizes

four_in_front : (ds ys : List ℕ) → 4 ≤ length ds → from_be_bytes w32 (ds ++ ys) ≡ from_be_bytes w32 ds
four_in_front [] ys some = absurd (omega (arith, some))
four_in_front (a ∷ []) ys some = absurd (omega (arith, some))
four_in_front (a ∷ b ∷ []) ys some = absurd (omega (arith, some))
four_in_front (a ∷ b ∷ c ∷ []) ys some = absurd (omega (arith, some))
four_in_front (a ∷ b ∷ c ∷ d ∷ ds) ys some = refl

pub same_size : (xs ys : List ℕ) → 11 ≤ length xs → body_size (xs ++ ys) ≡ body_size xs
same_size xs ys long =
    ap (from_be_bytes w32) (drop-append-le 7 xs ys (omega (arith, long))) ∙ four_in_front (drop 7 xs) ys (omega (arith, length-drop 7 xs, long))

pub long_moment : (bytes : List ℕ) → 11 ≤ length bytes → moment_in bytes ≡ moment_of bytes
long_moment bytes long = rw (test_not_less (length bytes) 11 long) refl

pub long_size : (bytes : List ℕ) → 11 ≤ length bytes → size_in_front bytes ≡ min (11 + body_size bytes) (length bytes)
long_size bytes long = rw (test_not_less (length bytes) 11 long) refl

-- ---- a piece of the record in front

-- what is taken of the record in front, and what there is behind it
module _ (n : ℕ) (stream piece more : List ℕ) (is : stream ≡ piece ++ more) where
  pub whole_stays : (entry : StreamEntry) (rest : List ℕ) → front all_kinds n piece ≡ Record entry rest → front all_kinds n stream ≡ Record entry (rest ++ more)
  whole_stays entry rest there = ap (front all_kinds n) is ∙ (all_fronts_stay all_kinds n piece more).a_record entry rest there

  -- a whole record is all that was taken, and the rest stands behind it
  pub record IsAllOf (entry : StreamEntry) (rest : List ℕ) : Type 0 where
    pub none_left : rest ≡ []
    pub moment : entry.moment ≡ moment_in stream
    pub there : front all_kinds n stream ≡ Record entry (drop (size_in_front stream) stream)

  pub all_of : (entry : StreamEntry) (rest : List ℕ) → length piece ≤ size_in_front stream → front all_kinds n piece ≡ Record entry rest → IsAllOf entry rest
  all_of entry rest few there =
      let own = a_record n piece entry rest there in
      let whole = a_record n stream entry (rest ++ more) (whole_stays entry rest there) in
      let size : body_size stream ≡ body_size piece = ap body_size is ∙ same_size piece more own.long in
      let least : size_in_front stream ≡ min (11 + body_size stream) (length stream) = long_size stream whole.long in
      record {
        none_left = own.behind ∙ drop_all (11 + body_size piece) piece (omega (arith, few, least, size));
        moment = whole.moment ∙ sym (long_moment stream whole.long);
        there = whole_stays entry rest there ∙ ap (Record entry) (whole.behind ∙ sym (drop_min (11 + body_size stream) stream) ∙ ap (λ k. drop k stream) (sym least));
      }

  pub none_of : front all_kinds n piece ≡ NoRecord → front all_kinds n stream ≡ NoRecord
  none_of there = ap (front all_kinds n) is ∙ (all_fronts_stay all_kinds n piece more).none there

-- ---- a record by itself

module _ (n : ℕ) (bytes : List ℕ) (entry : StreamEntry) (rest : List ℕ) (there : front all_kinds n bytes ≡ Record entry rest) where
  abbrev own : List ℕ
  own = take (11 + body_size bytes) bytes

  abbrev past : List ℕ
  past = drop (11 + body_size bytes) bytes

  found : IsRecord bytes entry rest
  found = a_record n bytes entry rest there

  pub rest_is : rest ≡ past
  rest_is = found.behind

  pub parted : bytes ≡ own ++ past
  parted = sym (take-append-drop (11 + body_size bytes) bytes)

  pub as_long : length own ≡ 11 + body_size bytes
  as_long = omega (arith, length-take (11 + body_size bytes) bytes, found.inside)

  size : body_size bytes ≡ body_size own
  size = ap body_size parted ∙ same_size own past (omega (arith, as_long))

  -- its bytes are all that is in front of them
  pub all_of_it : take (11 + body_size own) own ≡ own
  all_of_it = take_all (11 + body_size own) own (omega (arith, as_long, size))

  -- and they are this record
  pub by_itself : front all_kinds n own ≡ Record entry []
  by_itself = by_front (front all_kinds n own) refl
    where
      by_cut : (length own < 11) ⊎ (length own < 11 + body_size own) → ⊥
      by_cut (inl short) = omega (arith, short, as_long)
      by_cut (inr cut) = omega (arith, cut, as_long, size)

      by_front : (f : Front) → front all_kinds n own ≡ f → front all_kinds n own ≡ Record entry []
      by_front (Record first others) is =
          let same : Record entry rest ≡ Record first (others ++ past) = sym there ∙ whole_stays n bytes own past parted first others is in
          let one : entry ≡ first = cc same in
          let none : others ≡ [] = (a_record n own first others is).behind ∙ drop_all (11 + body_size own) own (omega (arith, as_long, size)) in
          is ∙ (λ i. Record (sym one i) (none i))
      by_front NoRecord is = let none : Record entry rest ≡ NoRecord = sym there ∙ none_of n bytes own past parted is in absurd (cc none)
      by_front CutRecord is = absurd (by_cut (a_part n own is))
      by_front EndOfStream is = let none : length own ≡ 0 = none_there n own is in absurd (omega (arith, none, as_long))
