-- What the items of texts declare, one text behind the other.
use Rattle.std.proofs.Common.{refl, subst, ℕ, ◌+◌, List, [], ◌∷◌, map}
use Rattle.lc_model.specs.Text.Syntax.{Item}
use Rattle.rpn_compiler.specs.declared.rule_text.RuleText.{RuleText}
use Rattle.rpn_compiler.specs.Read.{HasItems}
use Rattle.rpn_compiler.specs.TextParts.{AreTextsOf, IsTextOf, items_in}
use Rattle.scenarios.specs.Declarations.{AreDeclaredFrom, Declarations, with_items}

-- what the items of texts declare, the first of which has this number
abbrev pub all_declared : ℕ → List (List Item) → Declarations → Declarations
all_declared number [] d = d
all_declared number (items ∷ texts) d = all_declared (number + 1) texts (with_items number 0 items d)

has_items : (source : List ℕ) (text : RuleText) → IsTextOf source text → HasItems source (items_in text)
has_items source text is =
    let read = is.reads.read in
    subst (λ bytes. HasItems bytes (items_in text)) is.bytes (record { tokens = read.tokens; splits = read.splits; parses = read.parses })

-- that is what the texts declare from which they were read
pub are_declared : (number : ℕ) (sources : List (List ℕ)) (texts : List RuleText) (before : Declarations) → AreTextsOf sources texts →
    AreDeclaredFrom number sources before (all_declared number (map items_in texts) before)
are_declared number [] [] before are = refl
are_declared number [] (text ∷ texts) before are = absurd are
are_declared number (source ∷ sources) [] before are = absurd are
are_declared number (source ∷ sources) (text ∷ texts) before (is, are) =
    let between : Declarations = with_items number 0 (items_in text) before in
    (between, (items_in text, has_items source text is, refl), are_declared (number + 1) sources texts between are)
