-- Entries that aren't used.
use Rattle.std.proofs.Common.{◌≡◌, refl, sym, ap, subst, ℕ, zero, suc, ◌&&◌, ◌==◌, List, [], ◌∷◌, length, drop, replicate, bytes_eq, arith, slice_index}
use Rattle.std.specs.List.{list_all}
use Rattle.lc_model.specs.Tables.Image.{Layout, Watchpoints, Actionpoints, WideActionpoints, entry_length, blank_entry}

zeros : (bytes : List ℕ) (n : ℕ) → length bytes ≡ n → list_all (λ b. b == 0) bytes ≡ bytes_eq bytes (replicate n 0)
zeros [] zero long = refl
zeros [] (suc n) long = absurd (omega (arith, long))
zeros (b ∷ bytes) zero long = absurd (omega (arith, long))
zeros (b ∷ bytes) (suc n) long = ap (λ t. (b == 0) && t) (zeros bytes n (omega (arith, long)))

blank_bytes : (entry : List ℕ) (n : ℕ) → length entry ≡ suc n → slice_index entry 0 ≡ 0xFF →
    list_all (λ b. b == 0) (drop 1 entry) ≡ bytes_eq entry (0xFF ∷ replicate n 0)
blank_bytes [] n long first = absurd (omega (arith, long))
blank_bytes (b ∷ bytes) n long first =
    subst (λ x. list_all (λ b. b == 0) bytes ≡ bytes_eq (x ∷ bytes) (0xFF ∷ replicate n 0)) (sym first) (zeros bytes n (omega (arith, long)))

pub is_blank_entry : (l : Layout) (entry : List ℕ) → length entry ≡ entry_length l → slice_index entry 0 ≡ 0xFF →
    list_all (λ b. b == 0) (drop 1 entry) ≡ bytes_eq entry (blank_entry l)
is_blank_entry Watchpoints entry long first = blank_bytes entry 23 long first
is_blank_entry Actionpoints entry long first = blank_bytes entry 85 long first
is_blank_entry WideActionpoints entry long first = blank_bytes entry 109 long first
