use Rattle.std.proofs.Common.{◌∙◌, ap, [], ◌∷◌, ◌++◌}
use Rattle.json.specs.Print.{print}
use Rattle.json.specs.Token.{string}
use Rattle.packet_rows.proofs.Plain.{one_string}
use Rattle.packet_rows.proofs.objects.string_text.Goals as goal

pub returns : goal.returns
returns c =
    c.into_inner.ensures.items
    ∙ ap (λ before. before ++ print c.string.new.self.tokens) (c.string.ensures.room.0 ∙ c.new-writer.ensures.before ∙ c.new.ensures.items)
    ∙ ap print (c.in_ok-string.ensures.ok ∙ ap (λ tokens. tokens ++ string c.args.text.now ∷ []) c.new-writer.ensures.tokens)
    ∙ one_string c.args.text.now
