-- The ticks that are due, one after the other.
use Rattle.std.proofs.Common.{◌≡◌, refl, sym, ◌∙◌, ap, ℕ, suc, ◌+◌, ◌-◌, ◌*◌, ◌/◌, ◌%◌, ◌<◌, ◌≤◌, Bool, true, false, ◌==◌, nat_lt, if◌then◌else◌, List, [], ◌++◌, append_assoc, append-nil, Some, arith}
use Rattle.std.proofs.lemmas.Nat.{div-add-mod', div-mul-add}
use Rattle.std.proofs.Math.Nat.{mod-lt}
use Rattle.packet_archive.specs.Clock.{ticks_due}
use Rattle.packet_archive.specs.Import.{record_bytes, tick_kind, ticks}

by_parts : (d p q r : ℕ) → p ≤ d → d - p ≡ q * p + r → r < p → d / p ≡ suc q
by_parts d p q r whole parts less =
    let all : d ≡ suc q * p + r = omega (arith, whole, parts) in
    ap (λ n. n / p) all ∙ div-mul-add (suc q) p r less

one_more : (d p : ℕ) → 0 < p → p ≤ d → d / p ≡ suc ((d - p) / p)
one_more d p some whole = by_parts d p ((d - p) / p) ((d - p) % p) whole (sym (div-add-mod' (d - p) p)) (mod-lt (d - p) some)

none_more : (d p : ℕ) → d < p → d / p ≡ 0
none_more d p less = let all : d ≡ 0 * p + d = omega arith in ap (λ n. n / p) all ∙ div-mul-add 0 p d less

-- one more is due, where the next one is
due_more : (period next second : ℕ) → 0 < period → next ≤ second →
    ticks_due period (Some next) second ≡ suc (ticks_due period (Some (next + period)) second)
due_more period next second some due =
    let there : (period == 0) ≡ false = grind (arith, some) in
    let now : nat_lt second next ≡ false = grind (arith, due) in
    rw (there, now) (by_test (nat_lt second (next + period)) refl)
  where
    by_test : (b : Bool) → nat_lt second (next + period) ≡ b → (second - next) / period + 1 ≡ suc (if b then 0 else (second - (next + period)) / period + 1)
    by_test true less =
        let short : second - next < period = grind (arith, less, due) in
        ap (λ n. n + 1) (none_more (second - next) period short)
    by_test false more =
        let long : period ≤ second - next = grind (arith, more, due) in
        let rest : second - next - period ≡ second - (next + period) = omega arith in
        let step = one_more (second - next) period some long in
        omega (arith, ap (λ n. n / period) rest, step)

-- none is
none_due : (period next second : ℕ) → 0 < period → second < next → ticks_due period (Some next) second ≡ 0
none_due period next second some later =
    let now : nat_lt second next ≡ true = grind (arith, later) in
    let there : (period == 0) ≡ false = grind (arith, some) in
    rw (there, now) refl

-- a tick is written
pub one_written : (period next second : ℕ) (before after whole : List ℕ) → 0 < period → next ≤ second →
    after ≡ before ++ record_bytes tick_kind (record { seconds = next; subseconds = 0 }) [] →
    before ++ ticks (ticks_due period (Some next) second) period next ≡ whole →
    after ++ ticks (ticks_due period (Some (next + period)) second) period (next + period) ≡ whole
unfolding ticks
one_written period next second before after whole some due written so_far =
    ap (λ (front : List ℕ). front ++ ticks (ticks_due period (Some (next + period)) second) period (next + period)) written
    ∙ append_assoc before (record_bytes tick_kind (record { seconds = next; subseconds = 0 }) []) _
    ∙ ap (λ count. before ++ ticks count period next) (sym (due_more period next second some due))
    ∙ so_far

-- all are
pub all_written : (period next second : ℕ) (items whole : List ℕ) → 0 < period → second < next →
    items ++ ticks (ticks_due period (Some next) second) period next ≡ whole → items ≡ whole
unfolding ticks
all_written period next second items whole some later so_far =
    sym (append-nil items) ∙ ap (λ count. items ++ ticks count period next) (sym (none_due period next second some later)) ∙ so_far
