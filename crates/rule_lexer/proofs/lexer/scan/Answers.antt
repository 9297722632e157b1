use Rattle.std.proofs.Common.{List, [], Option, inr, subst, sym}
use Rattle.lc_model.proofs.Exits.{passed_on}
use Rattle.rule_lexer.specs.declared.token.Token.{Token}
use Rattle.rule_lexer.specs.Fault.{IsFaultUnlessMemory}
use Rattle.rule_lexer.specs.Step.{IsStep}
use Rattle.rule_lexer.proofs.Scans.{SoFar, none_yet, room, one_more, whole_text, fault_of_text}
use Rattle.rule_lexer.proofs.lexer.scan.Goals as goal

pub loop-tokens-init : goal.loop-tokens-init
loop-tokens-init c =
    let text = c.args.text.now in
    subst (λ (ts : List Token). SoFar text ts c.new-scanner.result.at c.new-scanner.result.rest.now) (sym c.in_ok-tokens.ensures.items)
    (subst (λ n. SoFar text [] n c.new-scanner.result.rest.now) (sym c.new-scanner.ensures.at)
    (subst (λ xs. SoFar text [] 0 xs) (sym c.new-scanner.ensures.rest) (none_yet text c.if-text-gt-LONGEST_TEXT.false)))

pub next_token-requires : goal.next_token-requires
next_token-requires c =
    room c.args.text.now c.loop-tokens.tokens.items c.loop-tokens.scanner.at c.loop-tokens.scanner.rest.now c.loop-tokens.invariant

pub returns-in_err-token-clause-refused : goal.returns-in_err-token-clause-refused
returns-in_err-token-clause-refused c =
    passed_on (IsFaultUnlessMemory c.args.text.now) c.from_residual-in_err-token.result c.in_err-token.field-0.0 c.from_residual-in_err-token.ensures.1
    (inr (fault_of_text c.args.text.now c.loop-tokens.tokens.items c.loop-tokens.scanner.at c.loop-tokens.scanner.rest.now
    c.in_err-token.field-0.0 c.loop-tokens.invariant c.in_err-token.ensures))

pub loop-tokens-preserved : goal.loop-tokens-preserved
loop-tokens-preserved c =
    let text = c.args.text.now in
    let at = c.loop-tokens.scanner.at in
    let rest = c.loop-tokens.scanner.rest.now in
    let end = c.next_token.new.self.at in
    let tail = c.next_token.new.self.rest.now in
    subst (λ (ts : List Token). SoFar text ts end tail) (sym c.in_ok-push.ensures.items)
    (one_more text c.loop-tokens.tokens.items at rest end tail c.in-Some.token c.loop-tokens.invariant
    (subst (λ (o : Option Token). IsStep at rest end tail o) c.in-Some.is c.in_ok-token.ensures))

pub returns-clause-splits : goal.returns-clause-splits
returns-clause-splits c =
    let at = c.loop-tokens.scanner.at in
    let rest = c.loop-tokens.scanner.rest.now in
    let end = c.next_token.new.self.at in
    let tail = c.next_token.new.self.rest.now in
    whole_text c.args.text.now c.loop-tokens.tokens.items at rest end tail c.loop-tokens.invariant
    (subst (λ (o : Option Token). IsStep at rest end tail o) c.in_default.is c.in_ok-token.ensures)
