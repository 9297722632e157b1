-- What the parser answers, said of the tokens alone.
use Rattle.std.proofs.Common.{◌≡◌, ℕ, List, Result, Ok, Err}
use Rattle.std.specs.Prelude.{IfErr, IfOk, MatchResult}
use Rattle.lc_model.specs.Text.Token.{Token}
use Rattle.lc_model.specs.Text.Syntax.{Item}
use Rattle.lc_model.specs.Text.Reading.{Parses, ParseFault, HasParseFault}
use Rattle.rule_parser.specs.declared.error.ParseError.{ParseError}
use Rattle.rule_parser.specs.declared.error.ParseError.TheVariants.{Expected, TooNested, Memory}
use Rattle.lc_model.proofs.Texts.OneFile.{one_file}
use Rattle.lc_model.proofs.Texts.OneParse.{one_parse_fault, parses_has_no_fault}
use Rattle.rule_parser.specs.Fault.{Refuses}
use Rattle.rule_parser.specs.File.{TookAll, StopsAll}
use Rattle.rule_parser.specs.Laws.{AtMostOneParse}
use Rattle.rule_parser.proofs.FirstFault.{no_fault, is_fault}
use Rattle.rule_parser.proofs.Conditions.{refuses_too}

pub parsed : (end : ℕ) (tokens : List Token) (items : List Item) → TookAll end tokens items → Parses tokens items
parsed end tokens items k = (k.derives, (no_fault end tokens k.no_fault).1.1)

pub refused : (end : ℕ) (tokens : List Token) (error : ParseError) → Refuses (StopsAll end tokens) error → Refuses (HasParseFault end tokens) error
refused end tokens error r = refuses_too (StopsAll end tokens) (HasParseFault end tokens) (is_fault end tokens) error r

pub one_parse : (end : ℕ) (tokens : List Token) → AtMostOneParse end tokens
one_parse end tokens = record {
  one_list = λ items others parses parses'. one_file parses.0 parses'.0;
  one_fault = λ fault other has has'. one_parse_fault end tokens fault other has has';
  not_both = λ items fault parses has. parses_has_no_fault parses has;
}

-- an answer that is right is the only one
pub accepts : {V : Type 0} (items_of : V → List Item) (end : ℕ) (tokens : List Token) (r : Result V ParseError) →
    IfOk r (λ v. Parses tokens (items_of v)) → IfErr r (Refuses (HasParseFault end tokens)) →
    (items : List Item) → Parses tokens items → MatchResult r (λ v. items_of v ≡ items) (λ error. error ≡ Memory)
accepts items_of end tokens (Ok v) is other items parses = (one_parse end tokens).one_list (items_of v) items is parses
accepts items_of end tokens (Err error) is other items parses = go error other
  where
    go : (error : ParseError) → Refuses (HasParseFault end tokens) error → error ≡ Memory
    go Memory r = λ i. Memory
    go (Expected at what) r = absurd ((one_parse end tokens).not_both items _ parses r)
    go (TooNested at) r = absurd ((one_parse end tokens).not_both items _ parses r)

pub refuses : {V : Type 0} (items_of : V → List Item) (end : ℕ) (tokens : List Token) (r : Result V ParseError) →
    IfOk r (λ v. Parses tokens (items_of v)) → IfErr r (Refuses (HasParseFault end tokens)) →
    (fault : ParseFault) → HasParseFault end tokens fault → MatchResult r (λ v. ⊥) (Refuses (λ found. found ≡ fault))
refuses items_of end tokens (Ok v) is other fault has = (one_parse end tokens).not_both (items_of v) fault is has
refuses items_of end tokens (Err error) is other fault has =
    refuses_too (HasParseFault end tokens) (λ found. found ≡ fault) (λ found has'. (one_parse end tokens).one_fault found fault has' has) error other
