-- An import, step by step.
use Rattle.std.proofs.Common.{◌≡◌, refl, sym, ◌∙◌, ap, ℕ, zero, suc, ◌+◌, ◌<◌, ◌≤◌, List, ◌++◌, drop, append_assoc, append-nil, Some, None, arith}
use Rattle.packet_archive.specs.declared.import.Met.{Met}
use Rattle.packet_archive.specs.declared.import.Met.TheVariants.{Stands}
use Rattle.packet_archive.specs.declared.front.ArchiveFront.TheVariants.{Over}
use Rattle.packet_archive.specs.Clock.{Clocked}
use Rattle.packet_archive.specs.Import.{Asking, Imported, Step, going_on, imported_within, next_step, passed}

-- so many steps may be left: what they make, behind what there is, is what the whole import makes
pub record Importing (asking : Asking) (whole : Imported) (base : List ℕ) (counter end : ℕ) (out : List ℕ) (clock : Clocked) (left : List ℕ) : Type 0 where
  pub most : ℕ
  pub spare : counter + most ≡ end
  pub all_written : out ++ (imported_within most asking clock left).written ≡ base ++ whole.written
  pub same_clock : (imported_within most asking clock left).clock ≡ whole.clock
  pub same_left : (imported_within most asking clock left).left ≡ whole.left
  pub same_met : (imported_within most asking clock left).met ≡ whole.met

pub begun : (asking : Asking) (most : ℕ) (base : List ℕ) (clock : Clocked) (bytes : List ℕ) →
    Importing asking (imported_within most asking clock bytes) base 0 most base clock bytes
begun asking most base clock bytes = record { most = most; spare = omega arith; all_written = refl; same_clock = refl; same_left = refl; same_met = refl }

-- where an import ends: what there is is what the whole import makes
pub record Finished (whole : Imported) (base out : List ℕ) (clock : Clocked) (left : List ℕ) (met : Met) : Type 0 where
  pub all_written : out ≡ base ++ whole.written
  pub same_clock : clock ≡ whole.clock
  pub same_left : left ≡ whole.left
  pub same_met : met ≡ whole.met

module _ (asking : Asking) (whole : Imported) (base : List ℕ) (counter end : ℕ) (out : List ℕ) (clock : Clocked) (left after : List ℕ) (stands : Clocked) (met : Met)
    (so_far : Importing asking whole base counter end out clock left) (within : counter < end)
    (written : after ≡ out ++ (next_step asking clock left).written) (ticked : stands ≡ (next_step asking clock left).clock)
    (is : met ≡ (next_step asking clock left).met) where
  unfolded : (most : ℕ) → imported_within (suc most) asking clock left ≡ going_on (imported_within most asking) (next_step asking clock left) left (passed met)
  unfolding imported_within
  unfolded most = rw is refl

  -- a step that passes something
  pub one_more : (size : ℕ) → passed met ≡ Some size → Importing asking whole base (counter + 1) end after stands (drop size left)
  one_more size some = by_most so_far.most so_far.spare so_far.all_written so_far.same_clock so_far.same_left so_far.same_met
    where
      by_most : (most : ℕ) → counter + most ≡ end → out ++ (imported_within most asking clock left).written ≡ base ++ whole.written →
          (imported_within most asking clock left).clock ≡ whole.clock → (imported_within most asking clock left).left ≡ whole.left →
          (imported_within most asking clock left).met ≡ whole.met → Importing asking whole base (counter + 1) end after stands (drop size left)
      by_most zero spare w c l m = absurd (omega (arith, spare, within))
      by_most (suc most) spare w c l m =
          let step : Step = next_step asking clock left in
          let rest : Imported = imported_within most asking stands (drop size left) in
          let same : imported_within (suc most) asking clock left ≡ record { written = step.written ++ rest.written; clock = rest.clock; left = rest.left; met = rest.met } =
          unfolded most ∙ ap (going_on (imported_within most asking) step left) some ∙ rw ticked refl in
          record {
            most = most;
            spare = omega (arith, spare);
            all_written = ap (λ (front : List ℕ). front ++ rest.written) written ∙ append_assoc out step.written rest.written ∙ ap (λ (i : Imported). out ++ i.written) (sym same) ∙ w;
            same_clock = ap (λ (i : Imported). i.clock) (sym same) ∙ c;
            same_left = ap (λ (i : Imported). i.left) (sym same) ∙ l;
            same_met = ap (λ (i : Imported). i.met) (sym same) ∙ m;
          }

  -- one that passes nothing
  pub ended : passed met ≡ None → Finished whole base after stands left met
  ended none = by_most so_far.most so_far.spare so_far.all_written so_far.same_clock so_far.same_left so_far.same_met
    where
      by_most : (most : ℕ) → counter + most ≡ end → out ++ (imported_within most asking clock left).written ≡ base ++ whole.written →
          (imported_within most asking clock left).clock ≡ whole.clock → (imported_within most asking clock left).left ≡ whole.left →
          (imported_within most asking clock left).met ≡ whole.met → Finished whole base after stands left met
      by_most zero spare w c l m = absurd (omega (arith, spare, within))
      by_most (suc most) spare w c l m =
          let step : Step = next_step asking clock left in
          let same : imported_within (suc most) asking clock left ≡ record { written = step.written; clock = step.clock; left = left; met = step.met } =
          unfolded most ∙ ap (going_on (imported_within most asking) step left) none in
          record {
            all_written = written ∙ ap (λ (i : Imported). out ++ i.written) (sym same) ∙ w;
            same_clock = ticked ∙ ap (λ (i : Imported). i.clock) (sym same) ∙ c;
            same_left = ap (λ (i : Imported). i.left) (sym same) ∙ l;
            same_met = is ∙ ap (λ (i : Imported). i.met) (sym same) ∙ m;
          }

-- no step is left
none_left : (asking : Asking) (whole : Imported) (base out : List ℕ) (clock : Clocked) (left : List ℕ) →
    out ++ (imported_within zero asking clock left).written ≡ base ++ whole.written →
    (imported_within zero asking clock left).clock ≡ whole.clock → (imported_within zero asking clock left).left ≡ whole.left →
    (imported_within zero asking clock left).met ≡ whole.met → Finished whole base out clock left (Stands Over)
unfolding imported_within
none_left asking whole base out clock left w c l m = record { all_written = sym (append-nil out) ∙ w; same_clock = c; same_left = l; same_met = m }

pub over : (asking : Asking) (whole : Imported) (base : List ℕ) (counter end : ℕ) (out : List ℕ) (clock : Clocked) (left : List ℕ) →
    Importing asking whole base counter end out clock left → end ≤ counter → Finished whole base out clock left (Stands Over)
over asking whole base counter end out clock left so_far past = by_most so_far.most so_far.spare so_far.all_written so_far.same_clock so_far.same_left so_far.same_met
  where
    at_zero : out ++ (imported_within zero asking clock left).written ≡ base ++ whole.written →
        (imported_within zero asking clock left).clock ≡ whole.clock → (imported_within zero asking clock left).left ≡ whole.left →
        (imported_within zero asking clock left).met ≡ whole.met → Finished whole base out clock left (Stands Over)
    at_zero w c l m = none_left asking whole base out clock left w c l m

    by_most : (most : ℕ) → counter + most ≡ end → out ++ (imported_within most asking clock left).written ≡ base ++ whole.written →
        (imported_within most asking clock left).clock ≡ whole.clock → (imported_within most asking clock left).left ≡ whole.left →
        (imported_within most asking clock left).met ≡ whole.met → Finished whole base out clock left (Stands Over)
    by_most zero spare w c l m = at_zero w c l m
    by_most (suc most) spare w c l m = absurd (omega (arith, spare, past))
