use Rattle.std.proofs.Common.{◌∙◌, ap, decimal, List, ℕ, ◌++◌}
use Rattle.c_interface.proofs.Sentences.{in_four}
use Rattle.c_interface.proofs.error_sentences.error_of_text.Goals as goal

pub returns : goal.returns
returns c =
    in_four c.args.before.now (decimal c.args.text) c.args.between.now c.args.error _ _ _ _ c.of-all.ensures c.add_number.ensures.text c.add.ensures.text
    (c.add-2.ensures.text ∙ ap (λ (words : List ℕ). c.add.new.self ++ words) c.as_bytes.ensures.bytes)
