use Rattle.std.proofs.Common.{◌≡◌, ℕ, List, rules, subst, sym}
use Rattle.run_comparison.proofs.Same.{none_requested}
use Rattle.run_comparison.proofs.asked.sequences_of.Goals as goal

pub returns-then-is_empty : goal.returns-then-is_empty
returns-then-is_empty c = subst (λ (some : List ℕ). c.new.result.items ≡ some) (none_requested c.args.packets.now (sym c.if-is_empty.ensures)) (search rules)
