-- Characters one after the other.
use Rattle.std.proofs.Common.{◌≡◌, ◌+◌, ◌-◌, ◌<◌, ◌++◌, ℕ, zero, suc, List, [], ◌∷◌, length, drop, refl, ap, sym, ◌∙◌, arith, append_assoc, flat_map, subst, append-nil}
use Rattle.diagnostics.specs.Character.{char_in_front, characters, characters_behind, shown, shown_of, size_in_front}

skips : (left : ℕ) (bytes : List ℕ) → characters_behind left bytes ≡ characters_behind 0 (drop left bytes)
skips zero [] = refl
skips zero (byte ∷ bytes) = refl
skips (suc left) [] = refl
skips (suc left) (byte ∷ bytes) = skips left bytes

dropped : (n byte : ℕ) (bytes : List ℕ) → 0 < n → drop n (byte ∷ bytes) ≡ drop (n - 1) bytes
dropped zero byte bytes some = absurd (omega (arith, some))
dropped (suc n) byte bytes some = let e : n ≡ suc n - 1 = omega arith in ap (λ k. drop k bytes) e

-- the character in front, and those behind its bytes
pub in_front : (bytes : List ℕ) → 0 < length bytes → 0 < size_in_front bytes
    → characters bytes ≡ char_in_front bytes ∷ characters (drop (size_in_front bytes) bytes)
unfolding characters
in_front [] some positive = absurd (omega (arith, some))
in_front (byte ∷ bytes) some positive =
    let size : ℕ = size_in_front (byte ∷ bytes) in
    ap (λ rest. char_in_front (byte ∷ bytes) ∷ rest)
    (skips (size - 1) bytes ∙ ap (λ rest. characters_behind 0 rest) (sym (dropped size byte bytes positive)))

-- no bytes, no characters
pub of_nothing : (bytes : List ℕ) → length bytes ≡ 0 → characters bytes ≡ []
unfolding characters
of_nothing [] e = refl
of_nothing (byte ∷ bytes) e = absurd (omega (arith, e))

-- one more is counted
pub counted : (count whole size : ℕ) (bytes : List ℕ) → 0 < length bytes → 0 < size → size ≡ size_in_front bytes
    → count + length (characters bytes) ≡ whole → count + 1 + length (characters (drop size bytes)) ≡ whole
counted count whole size bytes some positive is so_far =
    let first : characters bytes ≡ char_in_front bytes ∷ characters (drop size bytes) =
    rw is (in_front bytes some (rw (sym is) positive)) in
    let more : length (characters bytes) ≡ suc (length (characters (drop size bytes))) = ap length first in
    omega (arith, more, so_far)

-- one more is shown
pub shown_next : (done whole : List ℕ) (char size : ℕ) (bytes : List ℕ) → 0 < length bytes → 0 < size
    → char ≡ char_in_front bytes → size ≡ size_in_front bytes
    → done ++ shown bytes ≡ whole → (done ++ shown_of char) ++ shown (drop size bytes) ≡ whole
shown_next done whole char size bytes some positive char_is size_is so_far =
    let first : shown bytes ≡ shown_of (char_in_front bytes) ++ shown (drop (size_in_front bytes) bytes) =
    ap (λ cs. flat_map shown_of cs) (in_front bytes some (subst (λ n. 0 < n) size_is positive)) in
    rw (char_is, size_is)
    (append_assoc done (shown_of (char_in_front bytes)) (shown (drop (size_in_front bytes) bytes))
    ∙ ap (λ rest. done ++ rest) (sym first) ∙ so_far)

-- nothing more is shown
pub shown_all : (done whole bytes : List ℕ) → length bytes ≡ 0 → done ++ shown bytes ≡ whole → done ≡ whole
shown_all done whole bytes none so_far =
    sym (append-nil done) ∙ ap (λ rest. done ++ rest) (sym (ap (λ cs. flat_map shown_of cs) (of_nothing bytes none))) ∙ so_far

-- nothing more is counted
pub counted_all : (count whole : ℕ) (bytes : List ℕ) → length bytes ≡ 0 → count + length (characters bytes) ≡ whole → count ≡ whole
counted_all count whole bytes none so_far =
    let rest : length (characters bytes) ≡ 0 = ap length (of_nothing bytes none) in omega (arith, rest, so_far)
