use Rattle.std.proofs.Common.{◌≡◌, ℕ, inl, inr, List, Result, Ok, Err}
use Rattle.std.specs.Prelude.{IfErr, IfOk, MatchResult}
use Rattle.lc_model.specs.Text.Token as model
use Rattle.lc_model.specs.Text.Token.{Splits}
use Rattle.lc_model.specs.Laws.Reading.{AtMostOneSplit}
use Rattle.rule_lexer.specs.declared.error.LexError.{LexError}
use Rattle.rule_lexer.specs.declared.error.LexError.TheVariants.{Memory}
use Rattle.rule_lexer.specs.declared.token.Token.{Token}
use Rattle.rule_lexer.specs.Token.{tokens_of}
use Rattle.rule_lexer.specs.Fault.{IsFault, IsFaultUnlessMemory, IsUnlessMemory}
use Rattle.rule_lexer.specs.Laws.{AtMostOneFault}
use Rattle.lc_model.proofs.Texts.OneSplit.{one_split}
use Rattle.rule_lexer.proofs.Faults.{at_most_one_fault}
use Rattle.rule_lexer.proofs.lexer.lex.Goals as goal

-- an answer that is right is the only one
accepts : {V : Type 0} (items : V → List Token) (text : List ℕ) (r : Result V LexError) → AtMostOneSplit → AtMostOneFault text →
    IfOk r (λ v. Splits text (tokens_of (items v))) → IfErr r (IsFaultUnlessMemory text) →
    (tokens : List model.Token) → Splits text tokens → MatchResult r (λ v. tokens_of (items v) ≡ tokens) (λ error. error ≡ Memory)
accepts items text (Ok v) one none splits refused tokens others = one text (tokens_of (items v)) tokens splits others
accepts items text (Err error) one none splits (inl memory) tokens others = memory
accepts items text (Err error) one none splits (inr fault) tokens others = absurd (none.not_both tokens error others fault)

refuses : {V : Type 0} (items : V → List Token) (text : List ℕ) (r : Result V LexError) → AtMostOneFault text →
    IfOk r (λ v. Splits text (tokens_of (items v))) → IfErr r (IsFaultUnlessMemory text) →
    (fault : LexError) → IsFault text fault → MatchResult r (λ v. ⊥) (λ error. IsUnlessMemory fault error)
refuses items text (Ok v) one splits refused fault is = one.not_both (tokens_of (items v)) fault splits is
refuses items text (Err error) one splits (inl memory) fault is = inl memory
refuses items text (Err error) one splits (inr other) fault is = inr (one.one_fault error fault other is)

pub returns-clause-accepts : goal.returns-clause-accepts
returns-clause-accepts c =
    let text = c.args.text.now in
    accepts (λ v. v.items) text c.scan.result one_split (at_most_one_fault text) c.scan.ensures.splits c.scan.ensures.refused

pub returns-clause-refuses : goal.returns-clause-refuses
returns-clause-refuses c =
    let text = c.args.text.now in
    refuses (λ v. v.items) text c.scan.result (at_most_one_fault text) c.scan.ensures.splits c.scan.ensures.refused
