-- A rule text has at most one reading.
use Rattle.std.proofs.Common.{◌≡◌, sym, ◌∙◌, ap, subst, Some}
use Rattle.lc_model.specs.Text.Grammar.{DerivesFile}
use Rattle.lc_model.specs.Text.Meaning.{rules_in}
use Rattle.lc_model.specs.Laws.Reading.{AtMostOneReading}
use Rattle.lc_model.proofs.Texts.OneSplit.{one_split}
use Rattle.lc_model.proofs.Texts.OneFile.{one_file}

pub one_reading : AtMostOneReading
one_reading text rules others (tokens, items, splits, parses, means) (tokens', items', splits', parses', means') = same
  where
    one_tokens : tokens ≡ tokens'
    one_tokens = one_split text tokens tokens' splits splits'

    one_items : items ≡ items'
    one_items = one_file (subst (λ ts. DerivesFile ts items) one_tokens parses.0) parses'.0

    found : Some rules ≡ Some others
    found = sym means.meant ∙ ap (λ is. rules_in is is) one_items ∙ means'.meant

    same : rules ≡ others
    same = cc found
