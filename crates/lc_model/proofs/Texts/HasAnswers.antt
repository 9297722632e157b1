-- Each text has an answer, where tokens parse or have a fault of the parser.
use Rattle.std.proofs.Common.{◌≡◌, refl, ℕ, ◌≤◌, ◌⊎◌, inl, inr, Bool, true, false, nat_le, List, length, Some, arith}
use Rattle.lc_model.specs.Rule.{NamedRule}
use Rattle.lc_model.specs.Text.Token.{Token, Splits, HasBadToken, longest_text}
use Rattle.lc_model.specs.Text.Syntax.{Item}
use Rattle.lc_model.specs.Text.Meaning.{TextFault, Means, faults, first_fault}
use Rattle.lc_model.specs.Text.Reading.{Parses, ParseFault, HasParseFault, AtPlace, Unparsed, ForText, too_long, bad_token, no_parse, no_meaning}
use Rattle.lc_model.specs.Laws.Reading.{ParsesOrFails, HasAnswer}
use Rattle.lc_model.proofs.Texts.HasTokens.{has_tokens}
use Rattle.lc_model.proofs.Texts.HasMeaning.{has_meaning}

pub has_answer : ParsesOrFails → (text : List ℕ) → HasAnswer text
has_answer parse text = at_length (nat_le (length text) longest_text) refl
  where
    at_items : (tokens : List Token) → Splits text tokens → (items : List Item) → Parses tokens items →
        ((rules : List NamedRule) × Means items rules) ⊎ ((fault : TextFault) × (first_fault (faults items) ≡ Some fault)) → HasAnswer text
    at_items tokens splits items parses (inl m) = inl (m.0, (tokens, items, splits, parses, m.1))
    at_items tokens splits items parses (inr f) = inr (AtPlace f.0, no_meaning splits parses f.1)

    at_tokens : (tokens : List Token) → Splits text tokens →
        ((items : List Item) × Parses tokens items) ⊎ ((fault : ParseFault) × HasParseFault (length text) tokens fault) → HasAnswer text
    at_tokens tokens splits (inl p) = at_items tokens splits p.0 p.1 (has_meaning p.0)
    at_tokens tokens splits (inr f) = inr (Unparsed f.0, no_parse splits f.1)

    at_text : length text ≤ longest_text → ((tokens : List Token) × Splits text tokens) ⊎ ((code : ℕ) × (at : ℕ) × HasBadToken text code at) → HasAnswer text
    at_text short (inl s) = at_tokens s.0 s.1 (parse (length text) s.0)
    at_text short (inr b) = inr (AtPlace (record { code = b.0; at = b.1 }), bad_token short b.2)

    at_length : (b : Bool) → nat_le (length text) longest_text ≡ b → HasAnswer text
    at_length true e = let short : length text ≤ longest_text = grind (arith, e) in at_text short (has_tokens text short)
    at_length false e = inr (ForText 5, too_long (grind (arith, e)))
