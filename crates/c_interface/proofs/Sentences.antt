-- A sentence in its room, and its words in their parts.
use Rattle.std.proofs.Common.{◌≡◌, ◌∙◌, ap, ℕ, ◌-◌, List, ◌++◌, length, drop, replicate, append_assoc}
use Rattle.std.proofs.lemmas.List.{drop_at, drop-replicate}

-- behind what was said the room is as it was
pub zeros_behind : (said : List ℕ) (n room : ℕ) → length said ≡ n → drop n (said ++ drop n (replicate room 0)) ≡ replicate (room - n) 0
zeros_behind said n room size = drop_at said (drop n (replicate room 0)) n size ∙ drop-replicate n room 0

-- words in three parts and in four, each after what was there before
pub in_three : (a b c first second third : List ℕ) → first ≡ a → second ≡ first ++ b → third ≡ second ++ c → third ≡ a ++ (b ++ c)
in_three a b c first second third one two three = three ∙ ap (λ xs. xs ++ c) (two ∙ ap (λ xs. xs ++ b) one) ∙ append_assoc a b c

pub in_four : (a b c d first second third fourth : List ℕ) → first ≡ a → second ≡ first ++ b → third ≡ second ++ c → fourth ≡ third ++ d →
    fourth ≡ a ++ (b ++ (c ++ d))
in_four a b c d first second third fourth one two three four =
    four ∙ ap (λ xs. xs ++ d) (in_three a b c first second third one two three) ∙ append_assoc a (b ++ c) d ∙ ap (λ xs. a ++ xs) (append_assoc b c d)
