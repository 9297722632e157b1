-- Which number stands at a place, out of its range.
use Rattle.std.proofs.Common.{◌≡◌, refl, sym, ◌∙◌, ap, ℕ, zero, suc, ◌+◌, ◌<◌, Bool, true, false, true≢false, ◌==◌, ◌&&◌, ◌||◌, List, [], ◌∷◌, ◌++◌, Option, Some, None, length, take, get_or, arith}
use Rattle.std.specs.List.{list_any}
use Rattle.std.specs.Option.{option_map_or, is_some}
use Rattle.std.proofs.lemmas.List.{take_more, map-append}
use Rattle.std.proofs.lemmas.List.Folds.{list_any-append}
use Rattle.lc_model.specs.Text.Syntax.{Item, Number}
use Rattle.rule_parser.specs.declared.syntax.Item as program
use Rattle.rule_parser.specs.Syntax.{item_of, items_of}
use Rattle.field_checker.specs.declared.number.RuleNumber.{RuleNumber}
use Rattle.field_checker.specs.Number.{StandsOutside, is_out_of_range, number_in, stands_at}

pub no_number : (found : Option RuleNumber) → is_some found ≡ false → found ≡ None
no_number (Some number) none = absurd (true≢false none)
no_number None none = refl

-- one item more has none
pub none_more : (test : Item → Bool) (items : List program.Item) (i : ℕ) (item : program.Item) → i < length items → item ≡ get_or items i item →
    list_any test (items_of (take i items)) ≡ false → test (item_of item) ≡ false → list_any test (items_of (take (i + 1) items)) ≡ false
none_more test items i item inside is before here =
    let more : items_of (take (i + 1) items) ≡ items_of (take i items) ++ item_of item ∷ [] =
    ap items_of (take_more items i item inside) ∙ map-append item_of (take i items) (get_or items i item ∷ []) ∙ ap (λ last. items_of (take i items) ++ item_of last ∷ []) (sym is) in
    ap (list_any test) more ∙ list_any-append test (items_of (take i items)) (item_of item ∷ []) ∙ rw (before, here) refl

any_at : (test : Item → Bool) (items : List Item) (i : ℕ) (item : Item) → i < length items → get_or items i item ≡ item → test item ≡ true → list_any test items ≡ true
any_at test [] i item inside is holds = absurd (omega (arith, inside))
any_at test (first ∷ items) zero item inside is holds = let here : test first ≡ true = ap test is ∙ holds in rw here refl
any_at test (first ∷ items) (suc i) item inside is holds = go (test first) (any_at test items i item (omega (arith, inside)) is holds)
  where
    go : (b : Bool) → list_any test items ≡ true → (b || list_any test items) ≡ true
    go true later = refl
    go false later = later

stands : (number : RuleNumber) (at : ℕ) (found : Option Number) (written : Number) → found ≡ Some written → written.at ≡ at → is_out_of_range number written ≡ true →
    option_map_or (λ (n : Number). n.at == at && is_out_of_range number n) found false ≡ true
stands number at found written is place outside =
    let same : (written.at == at) ≡ true = grind (arith, place) in rw is (rw (same, outside) refl)

-- where no item has one, none stands there
pub none_stands : (items : List Item) (number : RuleNumber) (at : ℕ) → list_any (stands_at number at) items ≡ false → StandsOutside items number at → ⊥
none_stands items number at none it =
    let holds : stands_at number at it.item ≡ true = stands number at (number_in number it.item) it.written it.has it.place it.outside in
    true≢false (sym (any_at (stands_at number at) items it.among.0 it.item it.among.1 it.among.2 holds) ∙ none)
