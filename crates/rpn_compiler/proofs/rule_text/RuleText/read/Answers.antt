use Rattle.std.proofs.Common.{sym, subst}
use Rattle.lc_model.specs.Text.Token.{Splits}
use Rattle.lc_model.specs.Text.Reading.{IsUnreadable}
use Rattle.rule_lexer.specs.Token.{tokens_of}
use Rattle.rule_parser.specs.Syntax.{items_of}
use Rattle.lc_model.proofs.Exits.{passed_on}
use Rattle.rpn_compiler.specs.Fault.{Refuses}
use Rattle.rpn_compiler.specs.Naming.{NamesTheNumberIn}
use Rattle.rpn_compiler.proofs.Naming as naming
use Rattle.lc_model.proofs.Texts.OneRefusal.{at_most_one_answer}
use Rattle.rpn_compiler.proofs.Refused.{of_lexer, of_parser, of_checker, exit_accepts, exit_refuses}
use Rattle.rpn_compiler.proofs.rule_text.RuleText.read.Goals as goal

pub returns-in_err-tokens-clause-refused : goal.returns-in_err-tokens-clause-refused
returns-in_err-tokens-clause-refused c =
    passed_on (Refuses (IsUnreadable c.args.text.now)) _ _ c.from_residual.ensures.1
    (of_lexer c.args.text.now c.in_err-tokens.field-0.0 c.in_err-tokens.ensures.refused)

pub returns-in_err-file-clause-refused : goal.returns-in_err-file-clause-refused
returns-in_err-file-clause-refused c =
    let splits = subst (λ ts. Splits c.args.text.now (tokens_of ts)) (sym c.as_slice.ensures.value) c.in_ok-tokens.ensures.splits in
    passed_on (Refuses (IsUnreadable c.args.text.now)) _ _ c.from_residual-in_err-file.ensures.1
    (of_parser c.args.text.now (tokens_of c.as_slice.result.now) c.in_err-file.field-0.0 splits c.in_err-file.ensures.refused)

pub returns-in_err-rules-clause-refused : goal.returns-in_err-rules-clause-refused
returns-in_err-rules-clause-refused c =
    let splits = subst (λ ts. Splits c.args.text.now (tokens_of ts)) (sym c.as_slice.ensures.value) c.in_ok-tokens.ensures.splits in
    passed_on (Refuses (IsUnreadable c.args.text.now)) _ _ c.from_residual-in_err-rules.ensures.1
    (of_checker c.args.text.now (tokens_of c.as_slice.result.now) (items_of c.in_ok-file.file.items.items) c.in_err-rules.field-0.0 splits
    c.in_ok-file.ensures.derives c.in_err-rules.ensures.refused)

pub returns-in_err-tokens-clause-named : goal.returns-in_err-tokens-clause-named
returns-in_err-tokens-clause-named c =
    passed_on (NamesTheNumberIn c.args.text.now) _ _ c.from_residual.ensures.1 (naming.of_lexer c.args.text.now c.in_err-tokens.field-0.0)

pub returns-in_err-file-clause-named : goal.returns-in_err-file-clause-named
returns-in_err-file-clause-named c =
    passed_on (NamesTheNumberIn c.args.text.now) _ _ c.from_residual-in_err-file.ensures.1 (naming.of_parser c.args.text.now c.in_err-file.field-0.0)

pub returns-in_err-rules-clause-named : goal.returns-in_err-rules-clause-named
returns-in_err-rules-clause-named c =
    let splits = subst (λ ts. Splits c.args.text.now (tokens_of ts)) (sym c.as_slice.ensures.value) c.in_ok-tokens.ensures.splits in
    passed_on (NamesTheNumberIn c.args.text.now) _ _ c.from_residual-in_err-rules.ensures.1
    (naming.of_checker c.args.text.now (tokens_of c.as_slice.result.now) (items_of c.in_ok-file.file.items.items) splits
    c.in_ok-file.ensures.derives c.in_err-rules.field-0.0 c.in_err-rules.ensures.named)

pub returns-in_err-tokens-clause-refuses : goal.returns-in_err-tokens-clause-refuses
returns-in_err-tokens-clause-refuses c =
    exit_refuses (IsUnreadable c.args.text.now) c.from_residual.result _ c.from_residual.ensures.1
    (of_lexer c.args.text.now c.in_err-tokens.field-0.0 c.in_err-tokens.ensures.refused) (at_most_one_answer c.args.text.now).one_refusal

pub returns-in_err-file-clause-refuses : goal.returns-in_err-file-clause-refuses
returns-in_err-file-clause-refuses c =
    let splits = subst (λ ts. Splits c.args.text.now (tokens_of ts)) (sym c.as_slice.ensures.value) c.in_ok-tokens.ensures.splits in
    exit_refuses (IsUnreadable c.args.text.now) c.from_residual-in_err-file.result _ c.from_residual-in_err-file.ensures.1
    (of_parser c.args.text.now (tokens_of c.as_slice.result.now) c.in_err-file.field-0.0 splits c.in_err-file.ensures.refused)
    (at_most_one_answer c.args.text.now).one_refusal

pub returns-in_err-rules-clause-accepts : goal.returns-in_err-rules-clause-accepts
returns-in_err-rules-clause-accepts c rules reads =
    let splits = subst (λ ts. Splits c.args.text.now (tokens_of ts)) (sym c.as_slice.ensures.value) c.in_ok-tokens.ensures.splits in
    exit_accepts (IsUnreadable c.args.text.now) _ c.from_residual-in_err-rules.result _ c.from_residual-in_err-rules.ensures.1
    (of_checker c.args.text.now (tokens_of c.as_slice.result.now) (items_of c.in_ok-file.file.items.items) c.in_err-rules.field-0.0 splits
    c.in_ok-file.ensures.derives c.in_err-rules.ensures.refused)
    (λ refusal is. (at_most_one_answer c.args.text.now).not_both rules refusal reads is)

pub returns-in_err-rules-clause-refuses : goal.returns-in_err-rules-clause-refuses
returns-in_err-rules-clause-refuses c =
    let splits = subst (λ ts. Splits c.args.text.now (tokens_of ts)) (sym c.as_slice.ensures.value) c.in_ok-tokens.ensures.splits in
    exit_refuses (IsUnreadable c.args.text.now) c.from_residual-in_err-rules.result _ c.from_residual-in_err-rules.ensures.1
    (of_checker c.args.text.now (tokens_of c.as_slice.result.now) (items_of c.in_ok-file.file.items.items) c.in_err-rules.field-0.0 splits
    c.in_ok-file.ensures.derives c.in_err-rules.ensures.refused)
    (at_most_one_answer c.args.text.now).one_refusal

pub returns-clause-refuses : goal.returns-clause-refuses
returns-clause-refuses c refusal is =
    let splits = subst (λ ts. Splits c.args.text.now (tokens_of ts)) (sym c.as_slice.ensures.value) c.in_ok-tokens.ensures.splits in
    (at_most_one_answer c.args.text.now).not_both c.in_ok-rules.rules.rules refusal
    (tokens_of c.as_slice.result.now, items_of c.in_ok-file.file.items.items, splits, c.in_ok-file.ensures.derives, c.in_ok-rules.ensures.means) is

pub returns-clause-reads : goal.returns-clause-reads
returns-clause-reads c =
    let splits = subst (λ ts. Splits c.args.text.now (tokens_of ts)) (sym c.as_slice.ensures.value) c.in_ok-tokens.ensures.splits in record {
      splits = c.in_ok-tokens.ensures.splits;
      read = record {
        tokens = tokens_of c.as_slice.result.now;
        splits = splits;
        parses = c.in_ok-file.ensures.derives;
        means = c.in_ok-rules.ensures.means;
      };
    }
