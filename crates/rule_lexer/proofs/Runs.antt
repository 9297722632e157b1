-- The longest run of bytes in front that pass a test.
use Rattle.std.proofs.Common.{◌≡◌, refl, sym, ◌∙◌, ap, ℕ, suc, ◌+◌, Bool, true, false, cond, ◌&&◌, List, [], ◌∷◌, ◌++◌, take, drop, arith}
use Rattle.std.specs.List.{list_all, prefix_len}
use Rattle.std.proofs.lemmas.List.Folds.{list_all-append}
use Rattle.rule_lexer.specs.Front.{begins}
use Rattle.lc_model.proofs.Facts.{and_second, and_first}

pub take_more : (n x : ℕ) (xs : List ℕ) → take (1 + n) (x ∷ xs) ≡ x ∷ take n xs
take_more n x xs = let e : 1 + n ≡ suc n = omega arith in rw e refl

pub drop_more : (n x : ℕ) (xs : List ℕ) → drop (1 + n) (x ∷ xs) ≡ drop n xs
drop_more n x xs = let e : 1 + n ≡ suc n = omega arith in rw e refl

-- all its bytes pass
pub run_passes : (p : ℕ → Bool) (xs : List ℕ) → list_all p (take (prefix_len p xs) xs) ≡ true
run_passes p [] = refl
run_passes p (x ∷ xs) = go (p x) refl (run_passes p xs)
  where
    go : (b : Bool) → p x ≡ b → list_all p (take (prefix_len p xs) xs) ≡ true →
        list_all p (take (cond b (1 + prefix_len p xs) 0) (x ∷ xs)) ≡ true
    go true e others = ap (list_all p) (take_more (prefix_len p xs) x xs) ∙ ap (λ b. b && list_all p (take (prefix_len p xs) xs)) e ∙ others
    go false e others = refl

-- the byte behind it fails
pub run_stops : (p : ℕ → Bool) (xs : List ℕ) → begins p (drop (prefix_len p xs) xs) ≡ false
run_stops p [] = refl
run_stops p (x ∷ xs) = go (p x) refl (run_stops p xs)
  where
    go : (b : Bool) → p x ≡ b → begins p (drop (prefix_len p xs) xs) ≡ false → begins p (drop (cond b (1 + prefix_len p xs) 0) (x ∷ xs)) ≡ false
    go true e others = ap (begins p) (drop_more (prefix_len p xs) x xs) ∙ others
    go false e others = e

-- where the first byte passes, the run is that byte and the run behind it
pub run_begins : (p : ℕ → Bool) (x : ℕ) (xs : List ℕ) → p x ≡ true → prefix_len p (x ∷ xs) ≡ 1 + prefix_len p xs
run_begins p x xs e = ap (λ (b : Bool). cond b (1 + prefix_len p xs) 0) e

pub take_run : (p : ℕ → Bool) (x : ℕ) (xs : List ℕ) → p x ≡ true → take (prefix_len p (x ∷ xs)) (x ∷ xs) ≡ x ∷ take (prefix_len p xs) xs
take_run p x xs e = ap (λ n. take n (x ∷ xs)) (run_begins p x xs e) ∙ take_more (prefix_len p xs) x xs

pub drop_run : (p : ℕ → Bool) (x : ℕ) (xs : List ℕ) → p x ≡ true → drop (prefix_len p (x ∷ xs)) (x ∷ xs) ≡ drop (prefix_len p xs) xs
drop_run p x xs e = ap (λ n. drop n (x ∷ xs)) (run_begins p x xs e) ∙ drop_more (prefix_len p xs) x xs

-- a run takes nothing more in
pub nothing_more : (p : ℕ → Bool) (front more others rest : List ℕ) → begins p rest ≡ false → more ++ others ≡ rest →
    list_all p (front ++ more) ≡ true → more ≡ []
nothing_more p front [] others rest stops e all = refl
nothing_more p front (d ∷ more) others rest stops e all =
    let fails : p d ≡ false = ap (begins p) e ∙ stops in
    let passes : (p d && list_all p more) ≡ true = and_second (list_all p front) _ (sym (list_all-append p front (d ∷ more)) ∙ all) in
    absurd (cc (fails, and_first (p d) _ passes))
