-- What is told first is told of the refusal.
use Rattle.std.proofs.Common.{◌≡◌, sym, ◌∙◌, ap, subst, inl, inr, List, ℕ, ◌∷◌, Vec, Global}
use Rattle.std.specs.Prelude.{Option, Some, Result, Ok, Err, IfOk}
use Rattle.lc_model.specs.Rule.{NamedRule}
use Rattle.lc_model.specs.Text.Reading.{TextRefusal, Reads, IsUnreadable}
use Rattle.lc_model.specs.Tables.Compiling.{IsRefused, unreadable, beyond_limits, limit_refusal}
use Rattle.lc_model.specs.Tables.InForce.{limits}
use Rattle.rpn_compiler.specs.declared.error.CompileError.{CompileError}
use Rattle.rpn_compiler.specs.declared.error.CompileError.TheVariants.{Memory}
use Rattle.rpn_compiler.specs.Fault.{Refuses, refusal_of}
use Rattle.diagnostics.specs.declared.message.Message.{Message}
use Rattle.rule_errors.specs.Telling.{BeginsWith, TellsOf}

-- of an error that is this refusal
pub begins : {E : Type 0} (text : List ℕ) (result : Result (Vec Message Global) E) (found : Option TextRefusal) (refusal : TextRefusal) → found ≡ Some refusal →
    IfOk result (λ told. (message : Message) × (more : List Message) × (told.items ≡ message ∷ more) × TellsOf text found message) →
    IfOk result (λ told. BeginsWith text refusal told.items)
begins text (Ok told) found refusal is (message, more, items, tells) =
    subst (BeginsWith text refusal) (sym items) (subst (λ one. TellsOf text one message) is tells)
begins text (Err failed) found refusal is says = says

-- of a text that was read
pub begins_read : {E : Type 0} (text bytes : List ℕ) (found : List NamedRule) (result : Result (Vec Message Global) E) → bytes ≡ text →
    ((refusal : TextRefusal) → IsUnreadable text refusal → ⊥) → ((rules : List NamedRule) → Reads text rules → found ≡ rules) →
    ((refusal : TextRefusal) → limit_refusal limits found ≡ Some refusal → IfOk result (λ told. BeginsWith bytes refusal told.items)) →
    (refusal : TextRefusal) → IsRefused limits text refusal → IfOk result (λ told. BeginsWith text refusal told.items)
begins_read text bytes found result same readable one says refusal (unreadable why) = absurd (readable refusal why)
begins_read text bytes found result same readable one says refusal (beyond_limits {rules = rules} reads beyond) =
    subst (λ all. IfOk result (λ told. BeginsWith all refusal told.items)) same
    (says refusal (ap (limit_refusal limits) (one rules reads) ∙ beyond))

-- of a text that wasn't, where the error isn't want of memory
pub begins_unread : {E : Type 0} (text : List ℕ) (result : Result (Vec Message Global) E) (error : CompileError) → (error ≡ Memory → ⊥) →
    ((rules : List NamedRule) → Reads text rules → error ≡ Memory) →
    ((refusal : TextRefusal) → IsUnreadable text refusal → Refuses (λ found. found ≡ refusal) error) →
    IfOk result (λ told. (message : Message) × (more : List Message) × (told.items ≡ message ∷ more) × TellsOf text (refusal_of error) message) →
    (refusal : TextRefusal) → IsRefused limits text refusal → IfOk result (λ told. BeginsWith text refusal told.items)
begins_unread text result error other none one says refusal (beyond_limits {rules = rules} reads beyond) = absurd (other (none rules reads))
begins_unread text result error other none one says refusal (unreadable why) = by_refusal (one refusal why)
  where
    by_refusal : Refuses (λ found. found ≡ refusal) error → IfOk result (λ told. BeginsWith text refusal told.items)
    by_refusal (inl memory) = absurd (other memory)
    by_refusal (inr (found, is, same)) = begins text result (refusal_of error) refusal (is ∙ ap Some same) says
