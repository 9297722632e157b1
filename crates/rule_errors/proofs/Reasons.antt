-- What is told by the reason of a bad token is told of the refusal, and what begins with it.
use Rattle.std.proofs.Common.{◌≡◌, ◌+◌, ◌==◌, ℕ, Bool, true, false, cond, List, [], ◌∷◌, ◌++◌, Option, Some, None, is_some, Result, Ok, Err, IfOk, Vec, Global, ◌∙◌, ap}
use Rattle.lc_model.specs.Tables.Compiling.{equation_too_long}
use Rattle.lc_model.specs.Text.Reading.{TextRefusal, ForRule}
use Rattle.lc_model.specs.Text.Token.{line_feed, magnitude, quote, is_text_byte}
use Rattle.std.specs.Prelude.{drop, slice_get}
use Rattle.std.specs.List.{prefix_len}
use Rattle.rule_lexer.specs.Reason.{digits_at, reason_of, string_reason}
use Rattle.rule_lexer.specs.declared.error.LexError.{LexError}
use Rattle.rule_lexer.specs.declared.error.LexError.TheVariants as error
use Rattle.rule_lexer.specs.declared.reason.LexReason.TheVariants.{NotANumber, NumberTooLarge, Unclosed, StringTooLong, ForbiddenByte}
use Rattle.rpn_compiler.specs.declared.error.CompileError.TheVariants.{Lex}
use Rattle.rpn_compiler.specs.Fault.{refusal_of}
use Rattle.rule_errors.specs.Places.{IsRule}
use Rattle.diagnostics.specs.Message.{IsAt}
use Rattle.rule_errors.specs.Telling.{Tells, TellsOf, TellsReason, place_by_reason, place_of}
use Rattle.diagnostics.specs.declared.message.Message.{Message}

of_number : (text : List ℕ) (at : ℕ) (test : Bool) (message : Message)
    → TellsReason text (cond test (NumberTooLarge at) (NotANumber at)) at message → IsAt 2 at message
of_number text at true message told = told
of_number text at false message told = told

by_tests : (text : List ℕ) (at inside : ℕ) (is_quote is_end : Bool) (message : Message)
    → TellsReason text (cond is_quote (StringTooLong at) (cond is_end (Unclosed at) (ForbiddenByte inside))) at message
    → IsAt 4 (place_by_reason text at (cond is_quote (StringTooLong at) (cond is_end (Unclosed at) (ForbiddenByte inside)))) message
by_tests text at inside true is_end message told = told
by_tests text at inside false true message told = told
by_tests text at inside false false message told = told

of_string : (text : List ℕ) (at inside : ℕ) (byte : Option ℕ) (message : Message)
    → TellsReason text (string_reason at inside byte) at message
    → IsAt 4 (place_by_reason text at (string_reason at inside byte)) message
of_string text at inside None message told = told
of_string text at inside (Some byte) message told =
    by_tests text at (at + 1 + inside) (byte == quote) (byte == line_feed) message told

tells_one : (text : List ℕ) (e : LexError) (message : Message)
    → TellsReason text (reason_of e text) (place_of e) message → TellsOf text (refusal_of (Lex e)) message
tells_one text (error.BadByte at) message told = told
tells_one text (error.BadNumber at) message told = of_number text at (is_some (magnitude (digits_at text at))) message told
tells_one text (error.NameTooLong at) message told = told
tells_one text (error.BadString at) message told =
    let rest : List ℕ = drop (at + 1) text in
    of_string text at (prefix_len is_text_byte rest) (slice_get rest (prefix_len is_text_byte rest)) message told
tells_one text error.TextTooLong message told = told
tells_one text error.Memory message told = tt

-- what is told of a bad token's reason is told of the refusal
pub tells : {E : Type 0} (text : List ℕ) (e : LexError) (result : Result Message E)
    → IfOk result (TellsReason text (reason_of e text) (place_of e)) → IfOk result (TellsOf text (refusal_of (Lex e)))
tells text e (Ok message) told = tells_one text e message told
tells text e (Err failed) told = told

-- a message that is told alone is told first
pub told_alone : {E : Type 0} (text : List ℕ) (refusal : Option TextRefusal) (message : Message) (result : Result (Vec Message Global) E)
    → TellsOf text refusal message → IfOk result (λ told. told.items ≡ message ∷ [])
    → IfOk result (λ told. (first : Message) × (more : List Message) × (told.items ≡ first ∷ more) × TellsOf text refusal first)
told_alone text refusal message (Ok told) tells items = (message, [], items, tells)
told_alone text refusal message (Err failed) tells items = items

-- and stays the first where others are told behind it
pub told_first : (text : List ℕ) (refusal : Option TextRefusal) (message : Message) (alone told : List Message)
    → TellsOf text refusal message → alone ≡ message ∷ [] → (more : List Message) × (told ≡ alone ++ more)
    → (first : Message) × (more : List Message) × (told ≡ first ∷ more) × TellsOf text refusal first
told_first text refusal message alone told tells one (more, items) = (message, more, items ∙ ap (λ list. list ++ more) one, tells)

-- a message at the name of a rule that is too long tells of that rule
pub of_rule : {E : Type 0} (text : List ℕ) (rule at : ℕ) (result : Result Message E) → IsRule text rule at → IfOk result (IsAt equation_too_long at)
    → IfOk result (Tells text (ForRule equation_too_long rule))
of_rule text rule at (Ok message) is told = (told.0, (at, told.1, is))
of_rule text rule at (Err failed) is told = told
