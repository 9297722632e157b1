-- What is written in several parts.
use Rattle.std.proofs.Common.{◌≡◌, refl, sym, ◌∙◌, ap, ℕ, zero, suc, ◌+◌, ◌-◌, ◌*◌, ◌<◌, List, [], ◌∷◌, ◌++◌, length, get_or, take, map, replicate, arith, append_assoc, length-append}
use Rattle.std.specs.List.{flat_map}
use Rattle.std.proofs.lemmas.Grind.{flat_map-append}
use Rattle.std.proofs.lemmas.List.{length-map, take_more, flat_map_more}
use Rattle.std.proofs.lemmas.List.Folds.{flat_map-map}
use Rattle.lc_model.specs.declared.field.Term.{Term}
use Rattle.lc_model.specs.Bytes.{u16, u32, zero_filled}
use Rattle.lc_model.specs.Codes.{type_code, operator_code, state_code, event_code, table_entries}
use Rattle.lc_model.specs.Tables.Image.{Layout, TableEntry, bits_32, term_bytes, filled, blank_entry}
use Rattle.table_file.specs.Parts.{entry_numbers}

-- a watchpoint's entry
pub watchpoint_written : (t : Term) (kind operator bits : ℕ) (s₀ s₁ s₂ s₃ s₄ s₅ s₆ s₇ s₈ : List ℕ) → kind ≡ type_code t.kind → operator ≡ operator_code t.op → bits ≡ bits_32 t.value →
    s₁ ≡ s₀ ++ kind ∷ [] → s₂ ≡ s₁ ++ operator ∷ [] → s₃ ≡ s₂ ++ u16 t.mid → s₄ ≡ s₃ ++ u32 t.offset → s₅ ≡ s₄ ++ u32 t.mask →
    s₆ ≡ s₅ ++ u32 0 → s₇ ≡ s₆ ++ u32 t.stale → s₈ ≡ s₇ ++ u32 bits → s₈ ≡ s₀ ++ term_bytes t
watchpoint_written t kind operator bits s₀ s₁ s₂ s₃ s₄ s₅ s₆ s₇ s₈ k o b e₁ e₂ e₃ e₄ e₅ e₆ e₇ e₈ =
    rw (e₈, e₇, e₆, e₅, e₄, e₃, e₂, e₁, k, o, b) (simp append_assoc)

-- an actionpoint's numbers
pub numbers_written : (e : TableEntry) (state event : ℕ) (s₀ s₁ s₂ s₃ s₄ s₅ s₆ s₇ s₈ : List ℕ) → state ≡ state_code e.mode → event ≡ event_code e.event_kind →
    s₁ ≡ s₀ ++ state ∷ [] → s₂ ≡ s₁ ++ e.report.passive ∷ [] → s₃ ≡ s₂ ++ u16 e.report.pass_to_fail → s₄ ≡ s₃ ++ u16 e.report.fail_to_pass →
    s₅ ≡ s₄ ++ u16 e.sequence → s₆ ≡ s₅ ++ u16 e.fails → s₇ ≡ s₆ ++ u16 event → s₈ ≡ s₇ ++ u16 e.event_id → s₈ ≡ s₀ ++ entry_numbers e
numbers_written e state event s₀ s₁ s₂ s₃ s₄ s₅ s₆ s₇ s₈ s k e₁ e₂ e₃ e₄ e₅ e₆ e₇ e₈ =
    rw (e₈, e₇, e₆, e₅, e₄, e₃, e₂, e₁, s, k) (simp append_assoc)

-- zeros for words are zeros for bytes
zero_words : (n : ℕ) → flat_map u16 (replicate n 0) ≡ replicate (2 * n) 0
zero_words zero = refl
zero_words (suc n) = let double : 2 * suc n ≡ suc (suc (2 * n)) = omega arith in rw (double, zero_words n) refl

-- an equation, EQUAL and zeros
pub equation_written : (all : ℕ) (ws : List ℕ) (word : ℕ) (s₀ s₁ s₂ s₃ : List ℕ) → s₁ ≡ s₀ ++ flat_map u16 ws → s₂ ≡ s₁ ++ u16 word →
    s₃ ≡ s₂ ++ replicate (2 * (all - length ws - 1)) 0 → s₃ ≡ s₀ ++ flat_map u16 (zero_filled all (ws ++ word ∷ []))
equation_written all ws word s₀ s₁ s₂ s₃ e₁ e₂ e₃ =
    let left : ℕ = all - length ws - 1 in
    let count : all - length (ws ++ word ∷ []) ≡ left = omega (arith, length-append ws (word ∷ [])) in
    let parts : flat_map u16 ((ws ++ word ∷ []) ++ replicate left 0) ≡ (flat_map u16 ws ++ u16 word) ++ replicate (2 * left) 0 =
    flat_map-append u16 (ws ++ word ∷ []) (replicate left 0)
    ∙ (λ i. flat_map-append u16 ws (word ∷ []) i ++ zero_words left i) in
    rw (e₃, e₂, e₁, count, parts) (simp append_assoc)

-- entries, and blank ones up to the end
pub filled_up : {A : Type 0} (l : Layout) (f : A → List ℕ) (xs : List A) (front s₁ s₂ s₃ : List ℕ) → s₁ ≡ front → s₂ ≡ s₁ ++ flat_map f xs →
    s₃ ≡ s₂ ++ flat_map (λ e. e) (replicate (table_entries - length xs) (blank_entry l)) → s₃ ≡ front ++ filled l (map f xs)
filled_up l f xs front s₁ s₂ s₃ e₁ e₂ e₃ =
    let blanks : List (List ℕ) = replicate (table_entries - length xs) (blank_entry l) in
    let count : replicate (table_entries - length (map f xs)) (blank_entry l) ≡ blanks = ap (λ n. replicate (table_entries - n) (blank_entry l)) (length-map xs f) in
    let parts : flat_map (λ e. e) (map f xs ++ blanks) ≡ flat_map f xs ++ flat_map (λ e. e) blanks =
    flat_map-append (λ e. e) (map f xs) blanks ∙ ap (λ (s : List ℕ). s ++ flat_map (λ e. e) blanks) (flat_map-map (λ e. e) f xs) in
    rw (e₃, e₂, e₁, count, parts) (simp append_assoc)

-- one item more
pub item_written : {A : Type 0} (f : A → List ℕ) (xs : List A) (i : ℕ) (x : A) (s₀ s₁ s₂ : List ℕ) → i < length xs → x ≡ get_or xs i x →
    s₁ ≡ s₀ ++ flat_map f (take i xs) → s₂ ≡ s₁ ++ f x → s₂ ≡ s₀ ++ flat_map f (take (i + 1) xs)
item_written f xs i x s₀ s₁ s₂ within is e₁ e₂ =
    let longer : take (i + 1) xs ≡ take i xs ++ x ∷ [] = take_more xs i x within ∙ ap (λ y. take i xs ++ y ∷ []) (sym is) in
    rw (e₂, e₁, longer) (flat_map_more f s₀ (take i xs) x)
