-- What an import counts, step by step.
use Rattle.std.proofs.Common.{◌≡◌, refl, sym, ◌∙◌, ap, ℕ, zero, suc, ◌+◌, ◌<◌, ◌≤◌, List, drop, Option, Some, None, arith}
use Rattle.packet_archive.specs.declared.import.Met.{Met}
use Rattle.packet_archive.specs.declared.tally.Tally.{Tally}
use Rattle.packet_archive.specs.Clock.{Clocked}
use Rattle.packet_archive.specs.Import.{Asking, next_step, passed}
use Rattle.packet_archive.specs.Tally.{counted_on, noted, tallied_within}

-- so many steps may be left: what they count, beside what is counted by now, is what the whole import counts
pub record Counting (asking : Asking) (whole : Tally) (counter end : ℕ) (clock : Clocked) (left : List ℕ) (t : Tally) : Type 0 where
  pub most : ℕ
  pub spare : counter + most ≡ end
  pub counts : tallied_within most asking clock left t ≡ whole

pub begun : (asking : Asking) (most : ℕ) (clock : Clocked) (bytes : List ℕ) (t : Tally) →
    Counting asking (tallied_within most asking clock bytes t) 0 most clock bytes t
begun asking most clock bytes t = record { most = most; spare = omega arith; counts = refl }

at_zero : (asking : Asking) (clock : Clocked) (bytes : List ℕ) (t : Tally) → tallied_within zero asking clock bytes t ≡ t
unfolding tallied_within
at_zero asking clock bytes t = refl

at_more : (most : ℕ) (asking : Asking) (clock : Clocked) (bytes : List ℕ) (t : Tally) →
    tallied_within (suc most) asking clock bytes t
    ≡ counted_on (tallied_within most asking (next_step asking clock bytes).clock) bytes (passed (next_step asking clock bytes).met) (noted (next_step asking clock bytes).met t)
unfolding tallied_within
at_more most asking clock bytes t = refl

module _ (asking : Asking) (whole : Tally) (counter end : ℕ) (clock : Clocked) (left : List ℕ) (t : Tally) (so_far : Counting asking whole counter end clock left t) where
  -- no step is left
  pub over : end ≤ counter → t ≡ whole
  over past = by_most so_far.most so_far.spare so_far.counts
    where
      by_most : (most : ℕ) → counter + most ≡ end → tallied_within most asking clock left t ≡ whole → t ≡ whole
      by_most zero spare counts = sym (at_zero asking clock left t) ∙ counts
      by_most (suc most) spare counts = absurd (omega (arith, spare, past))

  module _ (within : counter < end) (met : Met) (after : Tally) (is : met ≡ (next_step asking clock left).met) (now : after ≡ noted met t) where
    same : after ≡ noted (next_step asking clock left).met t
    same = now ∙ ap (λ (m : Met). noted m t) is

    -- a step that passes nothing
    pub ended : passed met ≡ None → after ≡ whole
    ended none = by_most so_far.most so_far.spare so_far.counts
      where
        by_most : (most : ℕ) → counter + most ≡ end → tallied_within most asking clock left t ≡ whole → after ≡ whole
        by_most zero spare counts = absurd (omega (arith, spare, within))
        by_most (suc most) spare counts =
            same
            ∙ sym (at_more most asking clock left t
            ∙ ap (λ (o : Option ℕ). counted_on (tallied_within most asking (next_step asking clock left).clock) left o (noted (next_step asking clock left).met t)) (sym (ap passed is) ∙ none))
            ∙ counts

    -- one that passes something
    pub one_more : (stands : Clocked) (size : ℕ) → stands ≡ (next_step asking clock left).clock → passed met ≡ Some size →
        Counting asking whole (counter + 1) end stands (drop size left) after
    one_more stands size ticked some = by_most so_far.most so_far.spare so_far.counts
      where
        by_most : (most : ℕ) → counter + most ≡ end → tallied_within most asking clock left t ≡ whole → Counting asking whole (counter + 1) end stands (drop size left) after
        by_most zero spare counts = absurd (omega (arith, spare, within))
        by_most (suc most) spare counts = record {
          most = most;
          spare = omega (arith, spare);
          counts =
              ap (tallied_within most asking stands (drop size left)) same
              ∙ ap (λ (c : Clocked). tallied_within most asking c (drop size left) (noted (next_step asking clock left).met t)) ticked
              ∙ sym (at_more most asking clock left t
              ∙ ap (λ (o : Option ℕ). counted_on (tallied_within most asking (next_step asking clock left).clock) left o (noted (next_step asking clock left).met t)) (sym (ap passed is) ∙ some))
              ∙ counts;
        }
