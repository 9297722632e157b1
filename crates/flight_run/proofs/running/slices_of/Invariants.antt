-- The texts so far are lent.
use Rattle.std.proofs.Common.{◌≡◌, ℕ, List, map, take, Bor}
use Rattle.flight_run.proofs.running.slices_of.Given as goal

abbrev pub invariant-loop-text : goal.invariant-loop-text
invariant-loop-text l = map (λ (slice : Bor (List ℕ)). slice.now) l.slices.items ≡ map (λ text. text.items) (take l.text-index l.texts)
