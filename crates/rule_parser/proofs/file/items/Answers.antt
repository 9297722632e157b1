use Rattle.std.proofs.Common.{sym, ◌∙◌, ap, subst, [], ◌∷◌}
use Rattle.std.proofs.lemmas.List.{map-append}
use Rattle.rule_lexer.specs.Token.{tokens_of}
use Rattle.rule_parser.specs.Syntax.{item_of, items_of}
use Rattle.rule_parser.specs.Left.{Left}
use Rattle.rule_parser.proofs.Files.{SoFar, none_yet, with_item, all_taken}
use Rattle.rule_parser.proofs.file.items.Goals as goal

pub loop-reader-init : goal.loop-reader-init
loop-reader-init c =
    subst (λ (left : Left). SoFar c.args.end (tokens_of c.args.tokens.now) left (items_of c.in_ok-items.items.items)) (sym c.new-reader.ensures)
    (subst (λ items. SoFar c.args.end (tokens_of c.args.tokens.now) (record { tokens = tokens_of c.args.tokens.now; end = c.args.end }) (items_of items))
    (sym c.in_ok-items.ensures.items) (none_yet c.args.end (tokens_of c.args.tokens.now)))

pub loop-reader-preserved : goal.loop-reader-preserved
loop-reader-preserved c =
    let end = c.args.end in
    let tokens = tokens_of c.args.tokens.now in
    let before = c.loop-reader.items.items in
    let read = c.in_ok-item.field-0 in
    subst (SoFar end tokens c.item.new.tokens) (sym (ap items_of c.in_ok-push.ensures.items ∙ map-append item_of before (read ∷ [])))
    (with_item end tokens c.loop-reader.reader c.item.new.tokens (items_of before) (item_of read) c.loop-reader.invariant c.in_ok-item.ensures)

pub returns : goal.returns
returns c =
    all_taken c.args.end (tokens_of c.args.tokens.now) c.loop-reader.reader (items_of c.loop-reader.items.items) c.loop-reader.invariant
    (sym c.is_at_end.ensures ∙ c.loop-reader-test.false)
