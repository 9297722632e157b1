-- What stands in front for an import that resynchronizes or doesn't, whatever comes behind.
use Rattle.std.proofs.Common.{◌≡◌, ◌≢◌, refl, ◌∙◌, ap, ℕ, ◌+◌, ◌/◌, ◌%◌, ◌<◌, ◌≤◌, Bool, true, false, true≢false, not, ◌==◌, ◌&&◌, ◌||◌, nat_lt, nat_le, if◌then◌else◌, List, [], ◌∷◌, ◌++◌, length, take, drop, length-append, length-drop, bytes_eq, arith}
use Rattle.std.proofs.lemmas.List.{take-append-le, drop-append-le}
use Rattle.lc_model.specs.Packet.{has_secondary_header, longest_packet, primary_header_size, sequence_flags, unsegmented, version}
use Rattle.packet_archive.specs.declared.front.ArchiveFront.{ArchiveFront}
use Rattle.packet_archive.specs.declared.front.ArchiveFront.TheVariants.{Over, Gap, Cut, Foreign, Unmarked, Stray, Packet}
use Rattle.packet_archive.specs.declared.front.Resync.{Resync}
use Rattle.packet_archive.specs.declared.front.Resync.TheVariants.{Never, Within, AtEnd}
use Rattle.packet_archive.specs.Choice.{is_idle}
use Rattle.packet_archive.specs.Front.{before_each, front_by, headers_size, is_begin, is_plausible, packet_in, packet_size, sought_in, uncut, zeros}
use Rattle.packet_archive.specs.Import.{follows}
use Rattle.packet_archive.proofs.Stays.{bounds, front_no_stray, front_stays, gap_is, no_gap, no_stray, none_of, not_none, number_of, packet_bounds, packet_stays, same_u16, zeros_stay, zeros_within}

-- ---- a plausible header stays so

abbrev plausible_by : ℕ → ℕ → ℕ → Bool
plausible_by mid flags size =
    mid / 8192 == 0 && flags / 16384 == 3 && nat_le (size + 7) 2048
    && (mid % 2048 == 2047 || (mid / 2048 % 2 == 1 && nat_le (if mid / 4096 % 2 == 1 then 8 else 12) (size + 7)))

plausible_stays : (header ys : List ℕ) → 6 ≤ length header → is_plausible (header ++ ys) ≡ is_plausible header
plausible_stays header ys long =
    λ i. plausible_by (same_u16 header ys 0 (omega (arith, long)) i) (same_u16 header ys 2 (omega (arith, long)) i) (same_u16 header ys 4 (omega (arith, long)) i)

begin_stays : (marked : Bool) (xs ys : List ℕ) → length (before_each marked) + primary_header_size ≤ length xs → is_begin marked (xs ++ ys) ≡ is_begin marked xs
begin_stays marked xs ys long =
    let n : ℕ = length (before_each marked) in
    let front : take n (xs ++ ys) ≡ take n xs = take-append-le n xs ys (omega (arith, long)) in
    let behind : drop n (xs ++ ys) ≡ drop n xs ++ ys = drop-append-le n xs ys (omega (arith, long)) in
    let header : is_plausible (drop n (xs ++ ys)) ≡ is_plausible (drop n xs) =
    ap is_plausible behind ∙ plausible_stays (drop n xs) ys (omega (arith, length-drop n xs, long)) in
    λ i. bytes_eq (front i) (before_each marked) && header i

-- ---- a packet

record IsSought (marked : Bool) (bytes : List ℕ) (b s : ℕ) : Type 0 where
  pub there : 0 < length bytes
  pub none : zeros bytes ≡ 0
  pub long : length (before_each marked) + primary_header_size ≤ length bytes
  pub begins : is_begin marked bytes ≡ true
  pub packet : packet_in (length (before_each marked)) (drop (length (before_each marked)) bytes) ≡ Packet b s

sought_passed : (b s count : ℕ) (none some short begins : Bool) (packet : ArchiveFront) →
    (if none then Over else if some then Gap count else if short then Cut else if begins then packet else Stray) ≡ Packet b s →
    (none ≡ false) × (some ≡ false) × (short ≡ false) × (begins ≡ true) × (packet ≡ Packet b s)
sought_passed b s count true some short begins packet is = cc
sought_passed b s count false true short begins packet is = cc
sought_passed b s count false false true begins packet is = cc
sought_passed b s count false false false false packet is = cc
sought_passed b s count false false false true packet is = (refl, refl, refl, refl, is)

is_sought : (marked : Bool) (bytes : List ℕ) (b s : ℕ) → sought_in marked bytes ≡ Packet b s → IsSought marked bytes b s
is_sought marked bytes b s is =
    let n : ℕ = length (before_each marked) in
    let passed = sought_passed b s (zeros bytes) (length bytes == 0) (nat_lt 0 (zeros bytes)) (nat_lt (length bytes) (n + primary_header_size)) (is_begin marked bytes) (packet_in n (drop n bytes)) is in
    record { there = grind (arith, passed.0); none = none_of (zeros bytes) passed.1; long = grind (arith, passed.2); begins = passed.3; packet = passed.4 }

-- the tests of what has more bytes behind
record Tests (marked : Bool) (xs ys : List ℕ) : Type 0 where
  some : (length (xs ++ ys) == 0) ≡ false
  no_zeros : nat_lt 0 (zeros (xs ++ ys)) ≡ false
  long : nat_lt (length (xs ++ ys)) (length (before_each marked) + primary_header_size) ≡ false
  begins : is_begin marked (xs ++ ys) ≡ is_begin marked xs

tests : (marked : Bool) (xs ys : List ℕ) → 0 < length xs → zeros xs ≡ 0 → length (before_each marked) + primary_header_size ≤ length xs → Tests marked xs ys
tests marked xs ys there none long =
    let still : zeros (xs ++ ys) ≡ 0 = zeros_stay xs ys (omega (arith, none, there)) ∙ none in
    record {
      some = not_none (length (xs ++ ys)) (omega (arith, length-append xs ys, there));
      no_zeros = grind (arith, still);
      long = grind (arith, length-append xs ys, long);
      begins = begin_stays marked xs ys long;
    }

abbrev sought_by : (none some short begins : Bool) → ℕ → ArchiveFront → ArchiveFront
sought_by none some short begins count packet = if none then Over else if some then Gap count else if short then Cut else if begins then packet else Stray

by_tests : (count : ℕ) (none some short begins is_one : Bool) (packet : ArchiveFront) → none ≡ false → some ≡ false → short ≡ false → begins ≡ is_one →
    sought_by none some short begins count packet ≡ (if is_one then packet else Stray)
by_tests count none some short begins is_one packet p q r b = rw (p, q, r, b) refl

sought_behind : (marked : Bool) (xs ys : List ℕ) (is_one : Bool) → Tests marked xs ys → is_begin marked xs ≡ is_one →
    sought_in marked (xs ++ ys) ≡ (if is_one then packet_in (length (before_each marked)) (drop (length (before_each marked)) (xs ++ ys)) else Stray)
sought_behind marked xs ys is_one t is =
    by_tests (zeros (xs ++ ys)) (length (xs ++ ys) == 0) (nat_lt 0 (zeros (xs ++ ys))) (nat_lt (length (xs ++ ys)) (length (before_each marked) + primary_header_size)) (is_begin marked (xs ++ ys)) is_one
    (packet_in (length (before_each marked)) (drop (length (before_each marked)) (xs ++ ys))) t.some t.no_zeros t.long (t.begins ∙ is)

sought_stays : (marked : Bool) (xs ys : List ℕ) (b s : ℕ) → sought_in marked xs ≡ Packet b s → sought_in marked (xs ++ ys) ≡ Packet b s
sought_stays marked xs ys b s is =
    let n : ℕ = length (before_each marked) in
    let it : IsSought marked xs b s = is_sought marked xs b s is in
    sought_behind marked xs ys true (tests marked xs ys it.there it.none it.long) it.begins
    ∙ ap (packet_in n) (drop-append-le n xs ys (omega (arith, it.long)))
    ∙ packet_stays n (drop n xs) ys b s it.packet

sought_bounds : (marked : Bool) (xs : List ℕ) (b s : ℕ) → sought_in marked xs ≡ Packet b s → (1 ≤ b + s) × (b + s ≤ length xs)
sought_bounds marked xs b s is =
    let n : ℕ = length (before_each marked) in
    let it : IsSought marked xs b s = is_sought marked xs b s is in
    let found = packet_bounds n (drop n xs) b s it.packet in
    (omega (arith, found.1), omega (arith, found.0, found.2, length-drop n xs, it.long))

uncut_packet : (front : ArchiveFront) (b s : ℕ) → uncut front ≡ Packet b s → front ≡ Packet b s
uncut_packet Over b s is = cc
uncut_packet (Gap n) b s is = cc
uncut_packet Cut b s is = cc
uncut_packet Foreign b s is = cc
uncut_packet Unmarked b s is = cc
uncut_packet Stray b s is = cc
uncut_packet (Packet c t) b s is = is

pub bounds_by : (resync : Resync) (marked : Bool) (xs : List ℕ) (b s : ℕ) → front_by resync marked xs ≡ Packet b s → (1 ≤ b + s) × (b + s ≤ length xs)
bounds_by Never marked xs b s is = bounds marked xs b s is
bounds_by Within marked xs b s is = sought_bounds marked xs b s is
bounds_by AtEnd marked xs b s is = sought_bounds marked xs b s (uncut_packet (sought_in marked xs) b s is)

pub front_stays_by : (resync last : Resync) (marked : Bool) (xs ys : List ℕ) (b s : ℕ) → follows resync last ≡ true → front_by resync marked xs ≡ Packet b s →
    front_by last marked (xs ++ ys) ≡ Packet b s
front_stays_by Never Never marked xs ys b s may is = front_stays marked xs ys b s is
front_stays_by Never Within marked xs ys b s may is = cc
front_stays_by Never AtEnd marked xs ys b s may is = cc
front_stays_by Within Never marked xs ys b s may is = cc
front_stays_by Within Within marked xs ys b s may is = sought_stays marked xs ys b s is
front_stays_by Within AtEnd marked xs ys b s may is = ap uncut (sought_stays marked xs ys b s is)
front_stays_by AtEnd last marked xs ys b s may is = absurd (ends last may)
  where
    ends : (l : Resync) → follows AtEnd l ≡ true → ⊥
    ends Never is = cc
    ends Within is = cc
    ends AtEnd is = cc

-- the same, where both are imported in one way
pub same_front : (resync : Resync) (marked : Bool) (xs ys : List ℕ) (b s : ℕ) → front_by resync marked xs ≡ Packet b s → front_by resync marked (xs ++ ys) ≡ Packet b s
same_front Never marked xs ys b s is = front_stays marked xs ys b s is
same_front Within marked xs ys b s is = sought_stays marked xs ys b s is
same_front AtEnd marked xs ys b s is = ap uncut (sought_stays marked xs ys b s (uncut_packet (sought_in marked xs) b s is))

-- ---- a gap

sought_gap : (n count : ℕ) (none some short begins : Bool) (packet : ArchiveFront) → packet ≢ Gap n →
    sought_by none some short begins count packet ≡ Gap n → (some ≡ true) × (count ≡ n)
sought_gap n count true some short begins packet p is = cc
sought_gap n count false true short begins packet p is = (refl, ap (λ f. (number_of f).1) is)
sought_gap n count false false true begins packet p is = cc
sought_gap n count false false false true packet p is = absurd (p is)
sought_gap n count false false false false packet p is = cc

sought_gap_is : (marked : Bool) (xs : List ℕ) (n : ℕ) → sought_in marked xs ≡ Gap n → (0 < zeros xs) × (zeros xs ≡ n)
sought_gap_is marked xs n is =
    let before : ℕ = length (before_each marked) in
    let passed = sought_gap n (zeros xs) (length xs == 0) (nat_lt 0 (zeros xs)) (nat_lt (length xs) (before + primary_header_size)) (is_begin marked xs) (packet_in before (drop before xs))
    (no_gap before (drop before xs) n) is in
    (grind (arith, passed.0), passed.1)

uncut_gap : (front : ArchiveFront) (n : ℕ) → uncut front ≡ Gap n → front ≡ Gap n
uncut_gap Over n is = cc
uncut_gap (Gap m) n is = is
uncut_gap Cut n is = cc
uncut_gap Foreign n is = cc
uncut_gap Unmarked n is = cc
uncut_gap Stray n is = cc
uncut_gap (Packet c t) n is = cc

pub gap_is_by : (resync : Resync) (marked : Bool) (xs : List ℕ) (n : ℕ) → front_by resync marked xs ≡ Gap n → (0 < zeros xs) × (zeros xs ≡ n)
gap_is_by Never marked xs n is = gap_is marked xs n is
gap_is_by Within marked xs n is = sought_gap_is marked xs n is
gap_is_by AtEnd marked xs n is = sought_gap_is marked xs n (uncut_gap (sought_in marked xs) n is)

pub gap_in_front_by : (resync : Resync) (marked : Bool) (xs : List ℕ) → 0 < zeros xs → front_by resync marked xs ≡ Gap (zeros xs)
gap_in_front_by resync marked xs some = by_case resync
  where
    there : (length xs == 0) ≡ false
    there = not_none (length xs) (omega (arith, zeros_within xs, some))

    test : nat_lt 0 (zeros xs) ≡ true
    test = grind (arith, some)

    by_case : (r : Resync) → front_by r marked xs ≡ Gap (zeros xs)
    by_case Never = rw (there, test) refl
    by_case Within = rw (there, test) refl
    by_case AtEnd = rw (there, test) refl

pub gap_stays_by : (resync : Resync) (marked : Bool) (xs ys : List ℕ) → 0 < zeros xs → zeros xs < length xs → front_by resync marked (xs ++ ys) ≡ Gap (zeros xs)
gap_stays_by resync marked xs ys some less =
    let same : zeros (xs ++ ys) ≡ zeros xs = zeros_stay xs ys less in
    gap_in_front_by resync marked (xs ++ ys) (omega (arith, same, some)) ∙ ap Gap same

-- ---- a skipped byte

sought_stray : (count : ℕ) (none some short begins : Bool) (packet : ArchiveFront) → packet ≢ Stray →
    sought_by none some short begins count packet ≡ Stray → (none ≡ false) × (some ≡ false) × (short ≡ false) × (begins ≡ false)
sought_stray count true some short begins packet p is = cc
sought_stray count false true short begins packet p is = cc
sought_stray count false false true begins packet p is = cc
sought_stray count false false false true packet p is = absurd (p is)
sought_stray count false false false false packet p is = (refl, refl, refl, refl)

sought_stays_stray : (marked : Bool) (xs ys : List ℕ) → sought_in marked xs ≡ Stray → sought_in marked (xs ++ ys) ≡ Stray
sought_stays_stray marked xs ys is =
    let n : ℕ = length (before_each marked) in
    let passed = sought_stray (zeros xs) (length xs == 0) (nat_lt 0 (zeros xs)) (nat_lt (length xs) (n + primary_header_size)) (is_begin marked xs) (packet_in n (drop n xs)) (no_stray n (drop n xs)) is in
    sought_behind marked xs ys false (tests marked xs ys (grind (arith, passed.0)) (none_of (zeros xs) passed.1) (grind (arith, passed.2))) passed.3

pub stray_stays_by : (resync last : Resync) (marked : Bool) (xs ys : List ℕ) → follows resync last ≡ true → front_by resync marked xs ≡ Stray →
    front_by last marked (xs ++ ys) ≡ Stray
stray_stays_by Never last marked xs ys may is = absurd (front_no_stray marked xs is)
stray_stays_by Within Never marked xs ys may is = cc
stray_stays_by Within Within marked xs ys may is = sought_stays_stray marked xs ys is
stray_stays_by Within AtEnd marked xs ys may is = ap uncut (sought_stays_stray marked xs ys is)
stray_stays_by AtEnd last marked xs ys may is = absurd (ends last may)
  where
    ends : (l : Resync) → follows AtEnd l ≡ true → ⊥
    ends Never is = cc
    ends Within is = cc
    ends AtEnd is = cc

pub stray_there : (resync : Resync) (marked : Bool) (xs : List ℕ) → front_by resync marked xs ≡ Stray → 1 ≤ length xs
stray_there Never marked [] is = cc
stray_there Within marked [] is = cc
stray_there AtEnd marked [] is = cc
stray_there resync marked (x ∷ xs) is = omega arith

-- ---- an import that resynchronizes stops at the end alone, where no more bytes come

known_packet : (before size : ℕ) (short known cut : Bool) → known ≡ true →
    ((if short then Cut else if not known then Foreign else if cut then Cut else Packet before size) ≢ Foreign)
    × ((if short then Cut else if not known then Foreign else if cut then Cut else Packet before size) ≢ Unmarked)
known_packet before size true known cut is_known = ((λ is. cc), (λ is. cc))
known_packet before size false true true is_known = ((λ is. cc), (λ is. cc))
known_packet before size false true false is_known = ((λ is. cc), (λ is. cc))
known_packet before size false false cut is_known = cc

and_first : (a b : Bool) → (a && b) ≡ true → a ≡ true
and_first true b is = refl
and_first false b is = cc

and_second : (a b : Bool) → (a && b) ≡ true → b ≡ true
and_second true b is = is
and_second false b is = cc

-- a plausible header is of version 0
known_first : (header : List ℕ) → is_plausible header ≡ true → (version header == 0) ≡ true
known_first header is =
    let flags : Bool = sequence_flags header == unsegmented in
    let short : Bool = nat_le (packet_size header) longest_packet in
    let rest : Bool = is_idle header || (has_secondary_header header && nat_le (headers_size header) (packet_size header)) in
    and_first (version header == 0) flags (and_first (version header == 0 && flags) short (and_first (version header == 0 && flags && short) rest is))

begin_known : (marked : Bool) (bytes : List ℕ) → is_begin marked bytes ≡ true → (version (drop (length (before_each marked)) bytes) == 0) ≡ true
begin_known marked bytes is =
    let n : ℕ = length (before_each marked) in
    known_first (drop n bytes) (and_second (bytes_eq (take n bytes) (before_each marked)) (is_plausible (drop n bytes)) is)

sought_known : (count : ℕ) (none some short begins : Bool) (packet : ArchiveFront) → (begins ≡ true → (packet ≢ Foreign) × (packet ≢ Unmarked)) →
    (sought_by none some short begins count packet ≢ Foreign) × (sought_by none some short begins count packet ≢ Unmarked)
sought_known count true some short begins packet p = ((λ is. cc), (λ is. cc))
sought_known count false true short begins packet p = ((λ is. cc), (λ is. cc))
sought_known count false false true begins packet p = ((λ is. cc), (λ is. cc))
sought_known count false false false true packet p = p refl
sought_known count false false false false packet p = ((λ is. cc), (λ is. cc))

sought_goes : (marked : Bool) (xs : List ℕ) → (sought_in marked xs ≢ Foreign) × (sought_in marked xs ≢ Unmarked)
sought_goes marked xs =
    let n : ℕ = length (before_each marked) in
    let header : List ℕ = drop n xs in
    sought_known (zeros xs) (length xs == 0) (nat_lt 0 (zeros xs)) (nat_lt (length xs) (n + primary_header_size)) (is_begin marked xs) (packet_in n header)
    (λ begins. known_packet n (packet_size header) (nat_lt (length header) primary_header_size) (version header == 0) (nat_lt (length header) (packet_size header)) (begin_known marked xs begins))

-- it is none of these
pub record GoesOn (front : ArchiveFront) : Type 0 where
  pub not_cut : front ≢ Cut
  pub not_foreign : front ≢ Foreign
  pub not_unmarked : front ≢ Unmarked

uncut_goes : (front : ArchiveFront) → front ≢ Foreign → front ≢ Unmarked → GoesOn (uncut front)
uncut_goes Over p q = record { not_cut = λ is. cc; not_foreign = λ is. cc; not_unmarked = λ is. cc }
uncut_goes (Gap n) p q = record { not_cut = λ is. cc; not_foreign = λ is. cc; not_unmarked = λ is. cc }
uncut_goes Cut p q = record { not_cut = λ is. cc; not_foreign = λ is. cc; not_unmarked = λ is. cc }
uncut_goes Foreign p q = absurd (p refl)
uncut_goes Unmarked p q = absurd (q refl)
uncut_goes Stray p q = record { not_cut = λ is. cc; not_foreign = λ is. cc; not_unmarked = λ is. cc }
uncut_goes (Packet b s) p q = record { not_cut = λ is. cc; not_foreign = λ is. cc; not_unmarked = λ is. cc }

pub goes_on_at_end : (marked : Bool) (xs : List ℕ) → GoesOn (front_by AtEnd marked xs)
goes_on_at_end marked xs = let goes = sought_goes marked xs in uncut_goes (sought_in marked xs) goes.0 goes.1

-- ---- nothing stands in front where all is over

packet_no_over : (before size : ℕ) (short known cut : Bool) →
    (if short then Cut else if not known then Foreign else if cut then Cut else Packet before size) ≢ Over
packet_no_over before size true known cut is = cc
packet_no_over before size false false cut is = cc
packet_no_over before size false true true is = cc
packet_no_over before size false true false is = cc

uncut_no_over : (front : ArchiveFront) → front ≢ Over → uncut front ≢ Over
uncut_no_over Over p is = p refl
uncut_no_over (Gap n) p is = cc
uncut_no_over Cut p is = cc
uncut_no_over Foreign p is = cc
uncut_no_over Unmarked p is = cc
uncut_no_over Stray p is = cc
uncut_no_over (Packet b s) p is = cc

sought_no_over : (count : ℕ) (none some short begins : Bool) (packet : ArchiveFront) → packet ≢ Over → none ≡ false → sought_by none some short begins count packet ≢ Over
sought_no_over count true some short begins packet p there is = absurd (true≢false there)
sought_no_over count false true short begins packet p there is = cc
sought_no_over count false false true begins packet p there is = cc
sought_no_over count false false false true packet p there is = p is
sought_no_over count false false false false packet p there is = cc

pub over_at_end : (marked : Bool) (xs : List ℕ) → front_by AtEnd marked xs ≡ Over → xs ≡ []
over_at_end marked [] is = refl
over_at_end marked (x ∷ xs) is =
    let n : ℕ = length (before_each marked) in
    let header : List ℕ = drop n (x ∷ xs) in
    absurd (uncut_no_over (sought_in marked (x ∷ xs))
    (sought_no_over (zeros (x ∷ xs)) (length (x ∷ xs) == 0) (nat_lt 0 (zeros (x ∷ xs))) (nat_lt (length (x ∷ xs)) (n + primary_header_size)) (is_begin marked (x ∷ xs)) (packet_in n header)
    (packet_no_over n (packet_size header) (nat_lt (length header) primary_header_size) (version header == 0) (nat_lt (length header) (packet_size header))) (not_none (length (x ∷ xs)) (omega arith))) is)
