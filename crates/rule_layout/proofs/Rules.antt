-- Texts with the same tokens and comments have the same rules.
use Rattle.std.proofs.Common.{◌≡◌, refl, sym, ◌∙◌, ap, subst, ℕ, zero, suc, ◌+◌, ◌≤◌, ◌<◌, Bool, true, false, cond, List, [], ◌∷◌, ◌++◌, length, map, length-append, arith}
use Rattle.std.specs.Prelude.{nat_le, if◌then◌else◌}
use Rattle.lc_model.specs.Rule.{NamedRule}
use Rattle.lc_model.specs.Text.Token as model
use Rattle.lc_model.specs.Text.Token.{Cuts, Splits, here, is_token, longest_text}
use Rattle.lc_model.specs.Text.Reading.{IsShallow, Reads}
use Rattle.lc_model.specs.Text.Grammar.{DerivesFile}
use Rattle.lc_model.specs.Text.Syntax.{Item}
use Rattle.lc_model.proofs.Texts.OneSplit.{one_split}
use Rattle.rule_layout.specs.Parts.{HasParts, HaveSameParts, Part, Comment, Token, none, blank, comment, token}
use Rattle.rule_layout.proofs.Moved.{Ascends, derives_file_to, item_to, means_to, shallow_to, token_to}

-- ---- tokens

-- the bytes of the tokens among some parts
abbrev words : List Part → List (List ℕ)
words [] = []
words (Token text ∷ parts) = text ∷ words parts
words (Comment text ∷ parts) = words parts

abbrev texts : List model.Token → List (List ℕ)
texts = map (λ (t : model.Token). t.text)

-- a text splits into the tokens among its parts
record HasTokens (at : ℕ) (text : List ℕ) (parts : List Part) : Type 0 where
  pub tokens : List model.Token
  pub cuts : Cuts at text tokens (at + length text) []
  pub same : texts tokens ≡ words parts

has_tokens : (at : ℕ) {text : List ℕ} {parts : List Part} → HasParts text parts → HasTokens at text parts
has_tokens at none = let end : at ≡ at + 0 = omega arith in record { tokens = []; cuts = subst (λ n. Cuts at [] [] n []) end here; same = refl }
has_tokens at (blank {c = c} {text = text} is has) =
    let others = has_tokens (at + 1) has in
    let end : at + 1 + length text ≡ at + length (c ∷ text) = omega arith in
    record { tokens = others.tokens; cuts = model.blank is (subst (λ n. Cuts (at + 1) text others.tokens n []) end others.cuts); same = others.same }
has_tokens at (comment {text = text} bytes is has) =
    let others = has_tokens (at + length bytes) has in
    let end : at + length bytes + length text ≡ at + length (bytes ++ text) = omega (arith, length-append bytes text) in
    record {
      tokens = others.tokens;
      cuts = model.comment bytes is (subst (λ n. Cuts (at + length bytes) text others.tokens n []) end others.cuts);
      same = others.same;
    }
has_tokens at (token {text = text} word good longest has) =
    let others = has_tokens (at + length word) has in
    let end : at + length word + length text ≡ at + length (word ++ text) = omega (arith, length-append word text) in
    record {
      tokens = record { at = at; text = word } ∷ others.tokens;
      cuts = model.token word good longest (subst (λ n. Cuts (at + length word) text others.tokens n []) end others.cuts);
      same = ap (λ (ws : List (List ℕ)). word ∷ ws) others.same;
    }

-- ---- places

-- each token stands behind the one before it, and none before this place
abbrev AreInOrder : ℕ → List model.Token → Type 0
AreInOrder at [] = Unit {0}
AreInOrder at (t ∷ ts) = (at ≤ t.at) × AreInOrder (suc t.at) ts

later : (at from : ℕ) (ts : List model.Token) → at ≤ from → AreInOrder from ts → AreInOrder at ts
later at from [] e order = tt
later at from (t ∷ ts) e order = let first : from ≤ t.at = order.0 in (omega (arith, e, first), order.1)

some_token : (w : List ℕ) → is_token w ≡ true → 0 < length w
some_token [] good = absurd (cc good)
some_token (c ∷ w) good = omega arith

in_order : {at end : ℕ} {text rest : List ℕ} {ts : List model.Token} → Cuts at text ts end rest → AreInOrder at ts
in_order here = tt
in_order {at = at} {ts = ts} (model.blank is cuts) = later at (at + 1) ts (omega arith) (in_order cuts)
in_order {at = at} {ts = ts} (model.comment bytes is cuts) = later at (at + length bytes) ts (omega arith) (in_order cuts)
in_order {at = at} (model.token {tokens = ts} word good longest cuts) =
    let some : 0 < length word = some_token word good in
    (omega arith, later (suc at) (at + length word) ts (omega (arith, some)) (in_order cuts))

-- the place among the others of the last token that stands at a place or before it; this one, where there is none
abbrev place : ℕ → List model.Token → List model.Token → ℕ → ℕ
place least [] us n = least
place least (t ∷ ts) [] n = least
place least (t ∷ ts) (u ∷ us) n = if nat_le t.at n then place u.at ts us n else least

at_least : (least : ℕ) (ts us : List model.Token) (n : ℕ) → AreInOrder least us → least ≤ place least ts us n
at_least least [] us n order = omega arith
at_least least (t ∷ ts) [] n order = omega arith
at_least least (t ∷ ts) (u ∷ us) n order =
    go (nat_le t.at n) (at_least u.at ts us n (later u.at (suc u.at) us (omega arith) order.1))
  where
    go : (b : Bool) → u.at ≤ place u.at ts us n → least ≤ cond b (place u.at ts us n) least
    go true others = let first : least ≤ u.at = order.0 in omega (arith, first, others)
    go false others = omega arith

ascends : (least : ℕ) (ts us : List model.Token) → AreInOrder least us → Ascends (place least ts us)
ascends least [] us order m n e = omega arith
ascends least (t ∷ ts) [] order m n e = omega arith
ascends least (t ∷ ts) (u ∷ us) order m n e =
    go (nat_le t.at m) (nat_le t.at n) refl refl (ascends u.at ts us behind m n e) (at_least u.at ts us n behind)
  where
    behind : AreInOrder u.at us
    behind = later u.at (suc u.at) us (omega arith) order.1

    go : (p q : Bool) → nat_le t.at m ≡ p → nat_le t.at n ≡ q → place u.at ts us m ≤ place u.at ts us n → u.at ≤ place u.at ts us n →
        cond p (place u.at ts us m) least ≤ cond q (place u.at ts us n) least
    go true true a b others bound = others
    go true false a b others bound = absurd (grind (arith, a, b, e))
    go false true a b others bound = let first : least ≤ u.at = order.0 in omega (arith, first, bound)
    go false false a b others bound = omega arith

-- before the first token nothing has come
before_first : (least : ℕ) (ts us : List model.Token) (n : ℕ) → AreInOrder (suc n) ts → place least ts us n ≡ least
before_first least [] us n order = refl
before_first least (t ∷ ts) [] n order = refl
before_first least (t ∷ ts) (u ∷ us) n order =
    let first : suc n ≤ t.at = order.0 in
    let test : nat_le t.at n ≡ false = grind (arith, first) in
    rw test refl

-- behind a token the places are those of the tokens behind it
behind_first : (least : ℕ) (t u : model.Token) (ts us rest : List model.Token) → AreInOrder (suc t.at) rest →
    map (token_to (place least (t ∷ ts) (u ∷ us))) rest ≡ map (token_to (place u.at ts us)) rest
behind_first least t u ts us [] order = refl
behind_first least t u ts us (x ∷ rest) order =
    λ i. record { at = same i; text = x.text } ∷ behind_first least t u ts us rest (later (suc t.at) (suc x.at) rest (let first : suc t.at ≤ x.at = order.0 in omega (arith, first)) order.1) i
  where
    same : place least (t ∷ ts) (u ∷ us) x.at ≡ place u.at ts us x.at
    same =
        let first : suc t.at ≤ x.at = order.0 in
        let test : nat_le t.at x.at ≡ true = grind (arith, first) in
        ap (λ (b : Bool). cond b (place u.at ts us x.at) least) test

moved : (least : ℕ) (ts us : List model.Token) (at : ℕ) → AreInOrder at ts → texts ts ≡ texts us → map (token_to (place least ts us)) ts ≡ us
moved least [] [] at order same = refl
moved least [] (u ∷ us) at order same = absurd (cc same)
moved least (t ∷ ts) [] at order same = absurd (cc same)
moved least (t ∷ ts) (u ∷ us) at order same =
    λ i. record { at = there i; text = word i } ∷ (behind_first least t u ts us ts order.1 ∙ moved u.at ts us (suc t.at) order.1 (cc same)) i
  where
    word : t.text ≡ u.text
    word = cc same

    there : place least (t ∷ ts) (u ∷ us) t.at ≡ u.at
    there =
        let test : nat_le t.at t.at ≡ true = grind arith in
        ap (λ (b : Bool). cond b (place u.at ts us t.at) least) test ∙ before_first u.at ts us t.at order.1

-- ---- the law

split_of : {text : List ℕ} {parts : List Part} → HasParts text parts → length text ≤ longest_text →
    (tokens : List model.Token) × Splits text tokens × (texts tokens ≡ words parts)
split_of {text = text} has short =
    let found = has_tokens 0 has in
    let end : 0 + length text ≡ length text = omega arith in
    (found.tokens, (short, subst (λ n. Cuts 0 text found.tokens n []) end found.cuts), found.same)

pub keeps_rules : (text other : List ℕ) (rules : List NamedRule) → HaveSameParts text other → length other ≤ longest_text →
    Reads text rules → Reads other rules
keeps_rules text other rules (parts, has, others) short (ts, items, splits, parses, means) = (
  us,
  map (item_to f) items,
  found.1,
  (
    subst (λ (xs : List model.Token). DerivesFile xs (map (item_to f) items)) there (derives_file_to f parses.0),
    subst IsShallow there (shallow_to f ts parses.1),
  ),
  means_to f (ascends 0 ts us (in_order found.1.1)) items rules means,
)
  where
    found : (tokens : List model.Token) × Splits other tokens × (texts tokens ≡ words parts)
    found = split_of others short

    us : List model.Token
    us = found.0

    first : (tokens : List model.Token) × Splits text tokens × (texts tokens ≡ words parts)
    first = split_of has splits.0

    same : texts ts ≡ texts us
    same = ap texts (one_split text ts first.0 splits first.1) ∙ first.2 ∙ sym found.2

    f : ℕ → ℕ
    f = place 0 ts us

    there : map (token_to f) ts ≡ us
    there = moved 0 ts us 0 (in_order splits.1) same
