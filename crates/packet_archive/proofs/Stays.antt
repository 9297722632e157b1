-- What stands in front of an archive stays so, whatever comes behind.
use Rattle.std.proofs.Common.{◌≡◌, ◌≢◌, refl, sym, ◌∙◌, ap, ℕ, zero, suc, ◌+◌, ◌/◌, ◌<◌, ◌≤◌, Bool, true, false, true≢false, not, ◌==◌, nat_lt, if◌then◌else◌, List, [], ◌∷◌, ◌++◌, length, take, drop, length-append, length-drop, bytes_eq, cond, eqb, w16, arith}
use Rattle.std.specs.Int.{from_be_bytes}
use Rattle.std.specs.List.{prefix_len}
use Rattle.std.proofs.lemmas.List.{take-append-le, drop-append-le, length-take-le}
use Rattle.std.proofs.lemmas.List.Sums.{prefix_len-le-length}
use Rattle.std.proofs.lemmas.List.Folds.{prefix_len-append}
use Rattle.lc_model.specs.Bytes.{u16_at}
use Rattle.lc_model.specs.Packet.{version, primary_header_size, message_id_end}
use Rattle.packet_archive.specs.declared.front.ArchiveFront.{ArchiveFront}
use Rattle.packet_archive.specs.declared.front.ArchiveFront.TheVariants.{Over, Gap, Cut, Foreign, Unmarked, Stray, Packet}
use Rattle.packet_archive.specs.Front.{front_in, marked_in, marker, packet_in, packet_size, zeros}

-- ---- numbers and lists

two_in_front : (ds ys : List ℕ) → 2 ≤ length ds → from_be_bytes w16 (ds ++ ys) ≡ from_be_bytes w16 ds
two_in_front [] ys some = absurd (omega (arith, some))
two_in_front (d ∷ []) ys some = absurd (omega (arith, some))
two_in_front (d ∷ e ∷ ds) ys some = refl

pub same_u16 : (xs ys : List ℕ) (at : ℕ) → at + 2 ≤ length xs → u16_at (xs ++ ys) at ≡ u16_at xs at
same_u16 xs ys at inside =
    ap (from_be_bytes w16) (drop-append-le at xs ys (omega (arith, inside)))
    ∙ two_in_front (drop at xs) ys (omega (arith, length-drop at xs, inside))

-- ---- zeros

zeros_is : (xs : List ℕ) → zeros xs ≡ prefix_len (λ byte. byte == 0) xs
zeros_is xs = length-take-le (prefix_len (λ byte. byte == 0) xs) xs (prefix_len-le-length (λ byte. byte == 0) xs)

pub zeros_within : (xs : List ℕ) → zeros xs ≤ length xs
zeros_within xs = omega (arith, zeros_is xs, prefix_len-le-length (λ byte. byte == 0) xs)

joined : (xs ys : List ℕ) (b : Bool) → eqb (prefix_len (λ byte. byte == 0) xs) (length xs) ≡ b →
    zeros (xs ++ ys) ≡ cond b (length xs + zeros ys) (zeros xs)
joined xs ys b is =
    zeros_is (xs ++ ys) ∙ prefix_len-append (λ byte. byte == 0) xs ys ∙ rw is (by_test b)
  where
    by_test : (b : Bool) → cond b (length xs + prefix_len (λ byte. byte == 0) ys) (prefix_len (λ byte. byte == 0) xs) ≡ cond b (length xs + zeros ys) (zeros xs)
    by_test true = omega (arith, zeros_is ys)
    by_test false = sym (zeros_is xs)

pub zeros_stay : (xs ys : List ℕ) → zeros xs < length xs → zeros (xs ++ ys) ≡ zeros xs
zeros_stay xs ys less = joined xs ys false (grind (arith, zeros_is xs, less))

pub zeros_go_on : (xs ys : List ℕ) → zeros xs ≡ length xs → zeros (xs ++ ys) ≡ length xs + zeros ys
zeros_go_on xs ys all = joined xs ys true (grind (arith, zeros_is xs, all))

-- ---- a packet

-- the three tests that a packet passes
record IsThere (before : ℕ) (bytes : List ℕ) (b s : ℕ) : Type 0 where
  pub header : primary_header_size ≤ length bytes
  pub known : (version bytes == 0) ≡ true
  pub whole : packet_size bytes ≤ length bytes
  pub same : Packet before (packet_size bytes) ≡ Packet b s

tests_passed : (before b s size : ℕ) (short known cut : Bool) →
    (if short then Cut else if not known then Foreign else if cut then Cut else Packet before size) ≡ Packet b s →
    (short ≡ false) × (known ≡ true) × (cut ≡ false) × (Packet before size ≡ Packet b s)
tests_passed before b s size true known cut is = cc
tests_passed before b s size false false cut is = cc
tests_passed before b s size false true true is = cc
tests_passed before b s size false true false is = (refl, refl, refl, is)

is_there : (before : ℕ) (bytes : List ℕ) (b s : ℕ) → packet_in before bytes ≡ Packet b s → IsThere before bytes b s
is_there before bytes b s is =
    let passed = tests_passed before b s (packet_size bytes) (nat_lt (length bytes) primary_header_size) (version bytes == 0) (nat_lt (length bytes) (packet_size bytes)) is in
    record { header = grind (arith, passed.0); known = passed.1; whole = grind (arith, passed.2); same = passed.3 }

pub packet_stays : (before : ℕ) (xs ys : List ℕ) (b s : ℕ) → packet_in before xs ≡ Packet b s → packet_in before (xs ++ ys) ≡ Packet b s
packet_stays before xs ys b s is =
    let there : IsThere before xs b s = is_there before xs b s is in
    let long : length (xs ++ ys) ≡ length xs + length ys = length-append xs ys in
    let size : packet_size (xs ++ ys) ≡ packet_size xs = ap (λ n. n + 7) (same_u16 xs ys 4 (omega (arith, there.header))) in
    let mid : u16_at (xs ++ ys) 0 ≡ u16_at xs 0 = same_u16 xs ys 0 (omega (arith, there.header)) in
    let known : (version (xs ++ ys) == 0) ≡ true = ap (λ (n : ℕ). n / message_id_end == 0) mid ∙ there.known in
    let header : nat_lt (length (xs ++ ys)) primary_header_size ≡ false = grind (arith, long, there.header) in
    let whole : nat_lt (length (xs ++ ys)) (packet_size (xs ++ ys)) ≡ false = grind (arith, long, size, there.whole) in
    rw (header, known, whole, size) there.same

-- ---- behind a marker

record IsMarked (bytes : List ℕ) (b s : ℕ) : Type 0 where
  pub long : 4 ≤ length bytes
  pub marked : bytes_eq (take 4 bytes) marker ≡ true
  pub packet : packet_in 4 (drop 4 bytes) ≡ Packet b s

marked_passed : (b s : ℕ) (short begun marked : Bool) (packet : ArchiveFront) →
    (if short then (if begun then Cut else Unmarked) else if marked then packet else Unmarked) ≡ Packet b s →
    (short ≡ false) × (marked ≡ true) × (packet ≡ Packet b s)
marked_passed b s true true marked packet is = cc
marked_passed b s true false marked packet is = cc
marked_passed b s false begun false packet is = cc
marked_passed b s false begun true packet is = (refl, refl, is)

marked_stays : (xs ys : List ℕ) (b s : ℕ) → marked_in xs ≡ Packet b s → marked_in (xs ++ ys) ≡ Packet b s
marked_stays xs ys b s is =
    let passed = marked_passed b s (nat_lt (length xs) 4) (bytes_eq xs (take (length xs) marker)) (bytes_eq (take 4 xs) marker) (packet_in 4 (drop 4 xs)) is in
    let there : 4 ≤ length xs = grind (arith, passed.0) in
    let long : nat_lt (length (xs ++ ys)) 4 ≡ false = grind (arith, length-append xs ys, there) in
    let front : take 4 (xs ++ ys) ≡ take 4 xs = take-append-le 4 xs ys there in
    let marked : bytes_eq (take 4 (xs ++ ys)) marker ≡ true = ap (λ (m : List ℕ). bytes_eq m marker) front ∙ passed.1 in
    rw (long, marked) (ap (λ (bytes : List ℕ). packet_in 4 bytes) (drop-append-le 4 xs ys there) ∙ packet_stays 4 (drop 4 xs) ys b s passed.2)

-- ---- what is in front

front_passed : (b s count : ℕ) (none some marked : Bool) (with_marker plain : ArchiveFront) →
    (if none then Over else if some then Gap count else if marked then with_marker else plain) ≡ Packet b s →
    (none ≡ false) × (some ≡ false) × ((if marked then with_marker else plain) ≡ Packet b s)
front_passed b s count true some marked with_marker plain is = cc
front_passed b s count false true marked with_marker plain is = cc
front_passed b s count false false marked with_marker plain is = (refl, refl, is)

pub none_of : (n : ℕ) → nat_lt 0 n ≡ false → n ≡ 0
none_of zero is = refl
none_of (suc n) is = let more : nat_lt 0 (suc n) ≡ true = grind arith in absurd (true≢false (sym more ∙ is))

pub not_none : (n : ℕ) → 0 < n → (n == 0) ≡ false
not_none n some = grind (arith, some)

pub front_stays : (marked : Bool) (xs ys : List ℕ) (b s : ℕ) → front_in marked xs ≡ Packet b s → front_in marked (xs ++ ys) ≡ Packet b s
front_stays marked xs ys b s is =
    let passed = front_passed b s (zeros xs) (length xs == 0) (nat_lt 0 (zeros xs)) marked (marked_in xs) (packet_in 0 xs) is in
    let there : 0 < length xs = grind (arith, passed.0) in
    let none : zeros xs ≡ 0 = none_of (zeros xs) passed.1 in
    let some : (length (xs ++ ys) == 0) ≡ false = not_none (length (xs ++ ys)) (omega (arith, length-append xs ys, there)) in
    let still : zeros (xs ++ ys) ≡ 0 = zeros_stay xs ys (omega (arith, none, there)) ∙ none in
    let test : nat_lt 0 (zeros (xs ++ ys)) ≡ false = grind (arith, still) in
    rw (some, test) (by_marked marked passed.2)
  where
    by_marked : (m : Bool) → (if m then marked_in xs else packet_in 0 xs) ≡ Packet b s → (if m then marked_in (xs ++ ys) else packet_in 0 (xs ++ ys)) ≡ Packet b s
    by_marked true is = marked_stays xs ys b s is
    by_marked false is = packet_stays 0 xs ys b s is

pub gap_stays : (marked : Bool) (xs ys : List ℕ) → 0 < zeros xs → zeros xs < length xs → front_in marked (xs ++ ys) ≡ Gap (zeros xs)
gap_stays marked xs ys some less =
    let there : (length (xs ++ ys) == 0) ≡ false = grind (arith, length-append xs ys, less) in
    let same = zeros_stay xs ys less in
    let test : nat_lt 0 (zeros xs) ≡ true = grind (arith, some) in
    rw (there, same, test) refl

pub gap_goes_on : (marked : Bool) (xs ys : List ℕ) → 0 < zeros xs → zeros xs ≡ length xs → front_in marked (xs ++ ys) ≡ Gap (length xs + zeros ys)
gap_goes_on marked xs ys some all =
    let there : (length (xs ++ ys) == 0) ≡ false = grind (arith, length-append xs ys, some, all) in
    let same = zeros_go_on xs ys all in
    let test : nat_lt 0 (zeros (xs ++ ys)) ≡ true = grind (arith, same, some, all) in
    rw (there, test, same) refl

pub gap_in_front : (marked : Bool) (xs : List ℕ) → 0 < zeros xs → front_in marked xs ≡ Gap (zeros xs)
gap_in_front marked xs some =
    let there : (length xs == 0) ≡ false = grind (arith, zeros_within xs, some) in
    let test : nat_lt 0 (zeros xs) ≡ true = grind (arith, some) in
    rw (there, test) refl

-- ---- how long it is

abbrev pub number_of : ArchiveFront → ℕ × ℕ
number_of (Gap size) = (0, size)
number_of (Packet b s) = (b, s)
number_of front = (0, 0)

pub packet_bounds : (before : ℕ) (bytes : List ℕ) (b s : ℕ) → packet_in before bytes ≡ Packet b s → (b ≡ before) × (7 ≤ s) × (s ≤ length bytes)
packet_bounds before bytes b s is =
    let there : IsThere before bytes b s = is_there before bytes b s is in
    let same : packet_size bytes ≡ s = ap (λ f. (number_of f).1) there.same in
    (sym (ap (λ f. (number_of f).0) there.same), omega (arith, same), omega (arith, same, there.whole))

pub bounds : (marked : Bool) (xs : List ℕ) (b s : ℕ) → front_in marked xs ≡ Packet b s → (1 ≤ b + s) × (b + s ≤ length xs)
bounds marked xs b s is =
    let passed = front_passed b s (zeros xs) (length xs == 0) (nat_lt 0 (zeros xs)) marked (marked_in xs) (packet_in 0 xs) is in
    by_marked marked passed.2
  where
    by_marked : (m : Bool) → (if m then marked_in xs else packet_in 0 xs) ≡ Packet b s → (1 ≤ b + s) × (b + s ≤ length xs)
    by_marked true is =
        let passed = marked_passed b s (nat_lt (length xs) 4) (bytes_eq xs (take (length xs) marker)) (bytes_eq (take 4 xs) marker) (packet_in 4 (drop 4 xs)) is in
        let there : 4 ≤ length xs = grind (arith, passed.0) in
        let found = packet_bounds 4 (drop 4 xs) b s passed.2 in
        (omega (arith, found.1), omega (arith, found.0, found.2, length-drop 4 xs, there))
    by_marked false is = let found = packet_bounds 0 xs b s is in (omega (arith, found.1), omega (arith, found.0, found.2))

gap_passed : (n count : ℕ) (none some marked : Bool) (with_marker plain : ArchiveFront) →
    ((m : ℕ) → with_marker ≢ Gap m) → ((m : ℕ) → plain ≢ Gap m) →
    (if none then Over else if some then Gap count else if marked then with_marker else plain) ≡ Gap n → (some ≡ true) × (count ≡ n)
gap_passed n count true some marked with_marker plain p q is = cc
gap_passed n count false true marked with_marker plain p q is = (refl, ap (λ f. (number_of f).1) is)
gap_passed n count false false true with_marker plain p q is = absurd (p n is)
gap_passed n count false false false with_marker plain p q is = absurd (q n is)

packet_no_gap : (before size m : ℕ) (short known cut : Bool) →
    (if short then Cut else if not known then Foreign else if cut then Cut else Packet before size) ≢ Gap m
packet_no_gap before size m true known cut is = cc
packet_no_gap before size m false false cut is = cc
packet_no_gap before size m false true true is = cc
packet_no_gap before size m false true false is = cc

marked_no_gap : (m : ℕ) (short begun marked : Bool) (packet : ArchiveFront) → packet ≢ Gap m →
    (if short then (if begun then Cut else Unmarked) else if marked then packet else Unmarked) ≢ Gap m
marked_no_gap m true true marked packet p is = cc
marked_no_gap m true false marked packet p is = cc
marked_no_gap m false begun true packet p is = p is
marked_no_gap m false begun false packet p is = cc

pub no_gap : (before : ℕ) (bytes : List ℕ) (m : ℕ) → packet_in before bytes ≢ Gap m
no_gap before bytes m = packet_no_gap before (packet_size bytes) m (nat_lt (length bytes) primary_header_size) (version bytes == 0) (nat_lt (length bytes) (packet_size bytes))

pub gap_is : (marked : Bool) (xs : List ℕ) (n : ℕ) → front_in marked xs ≡ Gap n → (0 < zeros xs) × (zeros xs ≡ n)
gap_is marked xs n is =
    let passed = gap_passed n (zeros xs) (length xs == 0) (nat_lt 0 (zeros xs)) marked (marked_in xs) (packet_in 0 xs)
    (λ m. marked_no_gap m (nat_lt (length xs) 4) (bytes_eq xs (take (length xs) marker)) (bytes_eq (take 4 xs) marker) (packet_in 4 (drop 4 xs)) (no_gap 4 (drop 4 xs) m))
    (λ m. no_gap 0 xs m) is in
    (grind (arith, passed.0), passed.1)

-- ---- it is no skipped byte

packet_no_stray : (before size : ℕ) (short known cut : Bool) →
    (if short then Cut else if not known then Foreign else if cut then Cut else Packet before size) ≢ Stray
packet_no_stray before size true known cut is = cc
packet_no_stray before size false false cut is = cc
packet_no_stray before size false true true is = cc
packet_no_stray before size false true false is = cc

pub no_stray : (before : ℕ) (bytes : List ℕ) → packet_in before bytes ≢ Stray
no_stray before bytes = packet_no_stray before (packet_size bytes) (nat_lt (length bytes) primary_header_size) (version bytes == 0) (nat_lt (length bytes) (packet_size bytes))

marked_no_stray : (short begun marked : Bool) (packet : ArchiveFront) → packet ≢ Stray →
    (if short then (if begun then Cut else Unmarked) else if marked then packet else Unmarked) ≢ Stray
marked_no_stray true true marked packet p is = cc
marked_no_stray true false marked packet p is = cc
marked_no_stray false begun true packet p is = p is
marked_no_stray false begun false packet p is = cc

front_tests : (count : ℕ) (none some marked : Bool) (with_marker plain : ArchiveFront) → with_marker ≢ Stray → plain ≢ Stray →
    (if none then Over else if some then Gap count else if marked then with_marker else plain) ≢ Stray
front_tests count true some marked with_marker plain p q is = cc
front_tests count false true marked with_marker plain p q is = cc
front_tests count false false true with_marker plain p q is = p is
front_tests count false false false with_marker plain p q is = q is

pub front_no_stray : (marked : Bool) (xs : List ℕ) → front_in marked xs ≢ Stray
front_no_stray marked xs =
    front_tests (zeros xs) (length xs == 0) (nat_lt 0 (zeros xs)) marked (marked_in xs) (packet_in 0 xs)
    (marked_no_stray (nat_lt (length xs) 4) (bytes_eq xs (take (length xs) marker)) (bytes_eq (take 4 xs) marker) (packet_in 4 (drop 4 xs)) (no_stray 4 (drop 4 xs)))
    (no_stray 0 xs)
