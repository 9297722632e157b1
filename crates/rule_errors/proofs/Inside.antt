-- Messages of which each edit is inside the text say what they said before.
use Rattle.std.proofs.Common.{◌≡◌, Bool, true, false, if◌then◌else◌, ℕ, List, [], ◌∷◌, ◌++◌, length, map, take, drop, refl, ◌∙◌, ap, subst, sym, arith, Option, Some, None}
use Rattle.std.proofs.lemmas.Grind.{common_steps}
use Rattle.std.proofs.lemmas.List.{length-map}
use Rattle.lc_model.specs.Text.Reading.{TextRefusal, ForText, AtPlace, Unparsed, ForRule}
use Rattle.diagnostics.specs.Message.{IsInside, edited, is_inside, within}
use Rattle.diagnostics.specs.declared.message.Edit.{Edit}
use Rattle.diagnostics.specs.declared.message.Message.{Message}
use Rattle.rule_errors.specs.Telling.{AreInside, BeginsWith, Tells}

by_test : (text : List ℕ) (edit : Option Edit) → is_inside (length text) edit ≡ true → IsInside text edit
by_test text None is = tt
by_test text (Some edit) is = grind (arith, is)

kept : (text : List ℕ) (message : Message) (test : Bool) → is_inside (length text) message.edit ≡ test
    → IsInside text (if test then message else edited None message).edit
kept text message true is = by_test text message.edit is
kept text message false is = tt

pub are_inside : (text : List ℕ) (messages : List Message) → AreInside text (map (within text) messages)
are_inside text [] = tt
are_inside text (message ∷ messages) = (kept text message (is_inside (length text) message.edit) refl, are_inside text messages)

of_edited : (text : List ℕ) (refusal : TextRefusal) (message : Message) (test : Bool) → Tells text refusal message
    → Tells text refusal (if test then message else edited None message)
of_edited text refusal message true told = told
of_edited text (ForText code) message false told = told
of_edited text (AtPlace fault) message false told = told
of_edited text (Unparsed fault) message false told = told
of_edited text (ForRule code rule) message false told = told

pub begins_within : (text : List ℕ) (refusal : TextRefusal) (messages : List Message) → BeginsWith text refusal messages
    → BeginsWith text refusal (map (within text) messages)
begins_within text refusal [] told = told
begins_within text refusal (message ∷ messages) told = of_edited text refusal message (is_inside (length text) message.edit) told

-- ---- what is written through a slice of all messages

written : (text : List ℕ) (len : ℕ) (told slice new : List Message) → slice ≡ told → length slice ≡ len → new ≡ map (within text) slice
    → take len (new ++ drop (length new) told) ≡ map (within text) told
written text len told slice new lent size changed =
    let now : new ≡ map (within text) told = changed ∙ ap (map (within text)) lent in
    let all : length new ≡ length told = ap length now ∙ length-map told (within text) in
    let whole : length new ≡ len = all ∙ sym (ap length lent) ∙ size in
    let none_left : drop (length new) told ≡ [] = grind (arith, common_steps) in
    subst (λ count. take count (new ++ drop (length new) told) ≡ new) whole (rw none_left (grind (arith, common_steps))) ∙ now

pub inside_written : (text : List ℕ) (len : ℕ) (told slice new : List Message) → slice ≡ told → length slice ≡ len
    → new ≡ map (within text) slice → AreInside text (take len (new ++ drop (length new) told))
inside_written text len told slice new lent size changed =
    subst (AreInside text) (sym (written text len told slice new lent size changed)) (are_inside text told)

pub begins_written : (text : List ℕ) (refusal : TextRefusal) (len : ℕ) (told slice new : List Message) → slice ≡ told
    → length slice ≡ len → new ≡ map (within text) slice → BeginsWith text refusal told
    → BeginsWith text refusal (take len (new ++ drop (length new) told))
begins_written text refusal len told slice new lent size changed begins =
    subst (BeginsWith text refusal) (sym (written text len told slice new lent size changed)) (begins_within text refusal told begins)

pub nothing_written : (text : List ℕ) (len : ℕ) (told slice new : List Message) → slice ≡ told → length slice ≡ len
    → new ≡ map (within text) slice → told ≡ [] → take len (new ++ drop (length new) told) ≡ []
nothing_written text len told slice new lent size changed none = written text len told slice new lent size changed ∙ ap (map (within text)) none
