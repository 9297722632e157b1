use Rattle.std.proofs.Common.{◌∙◌, ap, sym, ℕ, ◌==◌, List, length}
use Rattle.run_comparison.proofs.Same.{nothing_kept}
use Rattle.run_comparison.proofs.met.met_record.Goals as goal

pub returns-then-is_empty-2 : goal.returns-then-is_empty-2
returns-then-is_empty-2 c =
    nothing_kept c.args.keeps_all c.args.number _ _
    (ap (λ (packets : List ℕ). length packets == 0) (sym c.packets.ensures) ∙ sym c.is_empty.ensures ∙ c.if-is_empty.true)
    (ap (λ (packets : List ℕ). length packets == 0) (sym c.packets-then-is_empty.ensures) ∙ sym c.is_empty-then-is_empty.ensures ∙ c.if-is_empty-2.true)
