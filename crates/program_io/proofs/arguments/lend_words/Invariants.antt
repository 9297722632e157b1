-- The words so far are lent.
use Rattle.std.proofs.Common.{◌≡◌, ℕ, List, map, take, string_bytes, Bor}
use Rattle.program_io.proofs.arguments.lend_words.Given as goal

abbrev pub invariant-loop-word : goal.invariant-loop-word
invariant-loop-word l = map (λ (word : Bor (List ℕ)). word.now) l.lent.items ≡ map string_bytes (take l.word-index l.words)
