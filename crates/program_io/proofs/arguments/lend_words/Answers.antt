use Rattle.std.proofs.Common.{rules, ◌≡◌, ◌++◌, ◌∷◌, []}
use Rattle.program_io.proofs.Mapped.{mapped_more}
use Rattle.program_io.proofs.arguments.lend_words.Goals as goal

pub loop-word-preserved : goal.loop-word-preserved
loop-word-preserved c =
    let pushed : c.push.new.self.items ≡ c.loop-word.lent.items ++ c.as_str.result ∷ [] = search rules in
    mapped_more _ _ _ _ c.as_str.result c.args.words.now c.loop-word.word-index c.word-item.result c.loop-word.invariant (search rules) pushed (search rules) (search rules)
