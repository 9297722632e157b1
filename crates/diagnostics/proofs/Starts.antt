-- Where a line begins, one byte further back.
use Rattle.std.proofs.Common.{◌≡◌, ◌≢◌, ◌-◌, ◌<◌, ◌==◌, ℕ, zero, suc, List, slice_index, cond, refl, ap, sym, ◌∙◌, arith}
use Rattle.diagnostics.specs.Line.{line_feed, line_start}

pub at_first : (text : List ℕ) → line_start text 0 ≡ 0
unfolding line_start
at_first text = refl

by_byte : (byte : ℕ) (x y : ℕ) → byte ≡ line_feed → cond (byte == line_feed) x y ≡ x
by_byte byte x y e = rw e refl

pub at_feed : (text : List ℕ) (at : ℕ) → 0 < at → slice_index text (at - 1) ≡ line_feed → line_start text at ≡ at
unfolding line_start
at_feed text zero some feed = absurd (omega (arith, some))
at_feed text (suc at) some feed =
    let e : suc at - 1 ≡ at = omega arith in
    by_byte (slice_index text at) (suc at) (line_start text at) (sym (ap (λ k. slice_index text k) e) ∙ feed)

pub before_feed : (text : List ℕ) (at : ℕ) → 0 < at → slice_index text (at - 1) ≢ line_feed
    → line_start text at ≡ line_start text (at - 1)
unfolding line_start
before_feed text zero some other = absurd (omega (arith, some))
before_feed text (suc at) some other =
    let e : suc at - 1 ≡ at = omega arith in
    let none : slice_index text at ≢ line_feed = λ feed. other (ap (λ k. slice_index text k) e ∙ feed) in
    grind (arith, e, none)
