-- The worst of a list of statuses, one status at a time.
use Rattle.std.proofs.Common.{◌≡◌, subst, sym, inl, inr, ℕ, ◌+◌, ◌<◌, ◌≤◌, length, take, List, get_or}
use Rattle.std.proofs.Math.Nat.{le_trans}
use Rattle.std.proofs.lemmas.List.Elements.{All-more, All-weaker, Contains-get_or}
use Rattle.std.specs.Prelude.{◌⊎◌, All, Contains}
use Rattle.run_commands.specs.Worst.{IsWorse, badness}

-- none of the first statuses is worse, and it is one of them all, or 0
abbrev pub IsWorstOfFirst : ℕ → List ℕ → ℕ → Type 0
IsWorstOfFirst i statuses worst = (All (λ status. badness status ≤ badness worst) (take i statuses)) × ((worst ≡ 0) ⊎ Contains statuses worst)

-- the one that is kept is still one of them
keeps_one : (statuses : List ℕ) (i worst next : ℕ) → i < length statuses → (worst ≡ 0) ⊎ Contains statuses worst →
    (next ≡ worst) ⊎ (next ≡ get_or statuses i 0) → (next ≡ 0) ⊎ Contains statuses next
keeps_one statuses i worst next below so_far (inl same) = subst (λ x. (x ≡ 0) ⊎ Contains statuses x) (sym same) so_far
keeps_one statuses i worst next below so_far (inr other) = inr (subst (Contains statuses) (sym other) (Contains-get_or statuses i 0 below))

-- the worse of it and the next one is the worst with the next one
pub one_more : (statuses : List ℕ) (i worst next : ℕ) → i < length statuses → IsWorstOfFirst i statuses worst →
    IsWorse worst (get_or statuses i 0) next → IsWorstOfFirst (i + 1) statuses next
one_more statuses i worst next below so_far worse = (
  All-more (λ status. badness status ≤ badness next) statuses i 0 below
      (All-weaker (λ status. badness status ≤ badness worst) (λ status. badness status ≤ badness next)
      (λ status not_worse. le_trans not_worse worse.1) (take i statuses) so_far.0)
      worse.2,
  keeps_one statuses i worst next below so_far.1 worse.0,
)
