-- The bits of a byte: what is said of sets of seats is computed for each of the 256 bytes.
use Rattle.std.proofs.Common.{◌≡◌, ◌∙◌, ap, refl, ℕ, zero, suc, ◌*◌, ◌-◌, ◌<◌, ◌^◌, ◌%◌, ◌==◌, Bool, true, false, not, ◌&&◌, ◌||◌, List, [], ◌∷◌, arith, bit_and, bit_or, count_by, min, max}
use Rattle.std.specs.Prelude.{slice_set, slice_index_or, Option, Some, None}
use Rattle.std.specs.List.{list_any, position_from}
use Rattle.std.specs.Int.{bit_at, trailing_zeros, w8}
use Rattle.std.proofs.lemmas.Nat.Bits.{bit_at_and, bit_at_or, bit_at-lt}
use Rattle.std.proofs.lemmas.Nat.{and_le_l}
use Rattle.lc_model.proofs.Facts.{and_first, and_second, tested_equal}
use Rattle.packet_bus.specs.Seats.{is_in, seats_in, meet, together}
use lib.Count.{ones, count_trailing_zeros}

-- a test holds of each number below a count
abbrev passes : (ℕ → Bool) → ℕ → Bool
passes p zero = true
passes p (suc n) = p n && passes p n

by_last : (p : ℕ → Bool) (m n : ℕ) (b : Bool) → (n == m) ≡ b → p m ≡ true → n < suc m → (n < m → p n ≡ true) → p n ≡ true
by_last p m n true is last below before = let e : n ≡ m = grind (arith, is) in rw e last
by_last p m n false is last below before = let less : n < m = grind (arith, is, below) in before less

pub each_below : (p : ℕ → Bool) (count : ℕ) → passes p count ≡ true → (n : ℕ) → n < count → p n ≡ true
each_below p zero e n below = absurd (omega arith)
each_below p (suc m) e n below =
    by_last p m n (n == m) refl (and_first (p m) (passes p m) e) below (λ less. each_below p m (and_second (p m) (passes p m) e) n less)

-- two lists of tests are the same
abbrev same : List Bool → List Bool → Bool
same [] [] = true
same (true ∷ xs) (true ∷ ys) = same xs ys
same (false ∷ xs) (false ∷ ys) = same xs ys
same _ _ = false

same_is : (xs ys : List Bool) → same xs ys ≡ true → xs ≡ ys
same_is [] [] e = refl
same_is (true ∷ xs) (true ∷ ys) e = ap (λ zs. true ∷ zs) (same_is xs ys e)
same_is (false ∷ xs) (false ∷ ys) e = ap (λ zs. false ∷ zs) (same_is xs ys e)
same_is [] (y ∷ ys) e = cc
same_is (true ∷ xs) [] e = cc
same_is (false ∷ xs) [] e = cc
same_is (true ∷ xs) (false ∷ ys) e = cc
same_is (false ∷ xs) (true ∷ ys) e = cc

abbrev is_equal : Bool → Bool → Bool
is_equal true b = b
is_equal false b = not b

same_bool : (a b : Bool) → is_equal a b ≡ true → a ≡ b
same_bool true true e = refl
same_bool false false e = refl
same_bool true false e = cc
same_bool false true e = cc

-- a seat more, and a seat less
pub seats_with : (bits seat : ℕ) → bits < 256 → seat < 8 → seats_in (bit_or bits (1 * 2 ^ seat % 256)) ≡ slice_set (seats_in bits) seat true
seats_with bits seat byte eight =
    let p : ℕ → ℕ → Bool = λ s b. same (seats_in (bit_or b (1 * 2 ^ s % 256))) (slice_set (seats_in b) s true) in
    same_is _ _ (each_below (p seat) 256 (each_below (λ s. passes (p s) 256) 8 refl seat eight) bits byte)

pub seats_without : (bits seat : ℕ) → bits < 256 → seat < 8 → seats_in (bit_and bits (255 - 1 * 2 ^ seat % 256)) ≡ slice_set (seats_in bits) seat false
seats_without bits seat byte eight =
    let p : ℕ → ℕ → Bool = λ s b. same (seats_in (bit_and b (255 - 1 * 2 ^ s % 256))) (slice_set (seats_in b) s false) in
    same_is _ _ (each_below (p seat) 256 (each_below (λ s. passes (p s) 256) 8 refl seat eight) bits byte)

-- whether a seat is in the set
pub seat_inside : (bits seat : ℕ) → bits < 256 → seat < 8 → not (bit_and bits (1 * 2 ^ seat % 256) == 0) ≡ slice_index_or (seats_in bits) seat false
seat_inside bits seat byte eight =
    let p : ℕ → ℕ → Bool = λ s b. is_equal (not (bit_and b (1 * 2 ^ s % 256) == 0)) (slice_index_or (seats_in b) s false) in
    same_bool _ _ (each_below (p seat) 256 (each_below (λ s. passes (p s) 256) 8 refl seat eight) bits byte)

-- how many seats there are
pub seats_counted : (bits : ℕ) → bits < 256 → ones bits ≡ count_by is_in (seats_in bits)
unfolding ones
seats_counted bits byte = tested_equal _ _ (each_below (λ b. ones b == count_by is_in (seats_in b)) 256 refl bits byte)

pub no_seats : (bits : ℕ) → bits < 256 → (bits == 0) ≡ (count_by is_in (seats_in bits) == 0)
no_seats bits byte = same_bool _ _ (each_below (λ b. is_equal (b == 0) (count_by is_in (seats_in b) == 0)) 256 refl bits byte)

-- the least seat
abbrev is_place : ℕ → Option ℕ → Bool
is_place n None = false
is_place n (Some m) = n == m

place_is : (n : ℕ) (o : Option ℕ) → is_place n o ≡ true → Some n ≡ o
place_is n None e = cc
place_is n (Some m) e = ap Some (tested_equal n m e)

seat_is : (b : ℕ) (t : Bool) → 0 < b → ((b == 0) || t) ≡ true → t ≡ true
seat_is b t some e = let nonzero : (b == 0) ≡ false = grind (arith, some) in rw nonzero at e

pub least_seat : (bits : ℕ) → bits < 256 → 0 < bits → Some (trailing_zeros w8 bits) ≡ position_from is_in 0 (seats_in bits)
unfolding count_trailing_zeros
least_seat bits byte some =
    let p : ℕ → Bool = λ b. is_place (trailing_zeros w8 b) (position_from is_in 0 (seats_in b)) in
    place_is _ _ (seat_is bits (p bits) some (each_below (λ b. (b == 0) || p b) 256 refl bits byte))

-- and the others
pub seats_without_least : (bits : ℕ) → bits < 256 → 0 < bits → seats_in (bit_and bits (bits - 1)) ≡ slice_set (seats_in bits) (trailing_zeros w8 bits) false
unfolding count_trailing_zeros
seats_without_least bits byte some =
    let p : ℕ → Bool = λ b. same (seats_in (bit_and b (b - 1))) (slice_set (seats_in b) (trailing_zeros w8 b) false) in
    same_is _ _ (seat_is bits (p bits) some (each_below (λ b. (b == 0) || p b) 256 refl bits byte))

-- whether a seat is in both of two sets
abbrev either : List Bool → Bool
either bs = list_any is_in bs

bit_test : (m n : ℕ) → m < 2 → n < 2 → (min m n == 1) ≡ ((m == 1) && (n == 1))
bit_test m n a b = grind (arith, a, b)

in_both : (a b seat : ℕ) → (bit_at (bit_and a b) seat == 1) ≡ ((bit_at a seat == 1) && (bit_at b seat == 1))
in_both a b seat = rw bit_at_and (bit_test (bit_at a seat) (bit_at b seat) (bit_at-lt a seat) (bit_at-lt b seat))

any_in_both : (a b : ℕ) → either (seats_in (bit_and a b)) ≡ meet (seats_in a) (seats_in b)
any_in_both a b =
    simp (in_both a b) (refl)

some_seat : (bits : ℕ) → bits < 256 → not (bits == 0) ≡ either (seats_in bits)
some_seat bits byte = same_bool _ _ (each_below (λ b. is_equal (not (b == 0)) (either (seats_in b))) 256 refl bits byte)

pub sets_meet : (a b : ℕ) → a < 256 → not (bit_and a b == 0) ≡ meet (seats_in a) (seats_in b)
sets_meet a b byte = let less : bit_and a b < 256 = omega (arith, and_le_l a b) in some_seat (bit_and a b) less ∙ any_in_both a b

-- the seats of two sets
bit_of_two : (m n : ℕ) → m < 2 → n < 2 → (max m n == 1) ≡ ((m == 1) || (n == 1))
bit_of_two m n a b = grind (arith, a, b)

in_either : (a b seat : ℕ) → (bit_at (bit_or a b) seat == 1) ≡ ((bit_at a seat == 1) || (bit_at b seat == 1))
in_either a b seat = rw bit_at_or (bit_of_two (bit_at a seat) (bit_at b seat) (bit_at-lt a seat) (bit_at-lt b seat))

pub seats_together : (a b : ℕ) → seats_in (bit_or a b) ≡ together (seats_in a) (seats_in b)
seats_together a b = simp (in_either a b) refl
