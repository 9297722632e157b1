-- Two kinds without values are one exactly where the tokens of the one are of the other's class.
use Rattle.std.proofs.Common.{◌≡◌, refl, sym, ◌∙◌, ap, ℕ, zero, suc, Bool, true, false, not, IsTrue, List, [], ◌∷◌, Some}
use Rattle.std.specs.Prelude.{slice_get}
use Rattle.std.specs.List.{list_all}
use Rattle.lc_model.specs.declared.field.FieldType.TheVariants.{U8, I8, U16Be, U16Le, I16Be, I16Le, U32Be, U32Le, I32Be, I32Le}
use Rattle.lc_model.specs.declared.field.CmpOp.TheVariants.{Less, LessOrEqual, NotEqual, Equal, GreaterOrEqual, Greater}
use Rattle.lc_model.specs.declared.mode.ApMode.TheVariants.{Active, Passive, Disabled, PermOff}
use Rattle.lc_model.specs.declared.rule.EventKind.TheVariants.{Debug, Information, Error, Critical}
use Rattle.lc_model.proofs.Facts.{and_first, and_second}
use Rattle.rule_lexer.specs.declared.token.TokenKind.{TokenKind}
use Rattle.rule_lexer.specs.declared.token.TokenKind.TheVariants.{Packet, Field, Rule, Mid, Length, At, Mask, Stale, Fails, Sequence, Event, Report, When, Or, Xor, And, Not, FieldKind, State, Level, Name, Number, Text, Equals, Semicolon, Open, Close, Compare}
use Rattle.rule_lexer.specs.contracts.token.TokenKindPartialEq.TheImpl as impl
use Rattle.rule_lexer.specs.Fitting.{IsOfGrammar, kind_fits}
use Rattle.rule_parser.specs.Front.{class_of, is_plain}

-- whether two kinds are equal, as the program tests it
abbrev pub is_same : TokenKind → TokenKind → Bool
is_same kind other = (impl.ghosts).eq kind other

abbrev plain_kinds : List TokenKind
plain_kinds = Packet ∷ Field ∷ Rule ∷ Mid ∷ Length ∷ At ∷ Mask ∷ Stale ∷ Fails ∷ Sequence ∷ Event ∷ Report ∷ When ∷ Or ∷ Xor ∷ And ∷ Not ∷ Name ∷ Text ∷ Equals ∷ Semicolon ∷ Open ∷ Close ∷ []

-- its place among them
abbrev place : TokenKind → ℕ
place Packet = 0
place Field = 1
place Rule = 2
place Mid = 3
place Length = 4
place At = 5
place Mask = 6
place Stale = 7
place Fails = 8
place Sequence = 9
place Event = 10
place Report = 11
place When = 12
place Or = 13
place Xor = 14
place And = 15
place Not = 16
place Name = 17
place Text = 18
place Equals = 19
place Semicolon = 20
place Open = 21
place Close = 22
place kind = 0

at_place : (test : TokenKind → Bool) (kinds : List TokenKind) (n : ℕ) (kind : TokenKind) → list_all test kinds ≡ true →
    slice_get kinds n ≡ Some kind → test kind ≡ true
at_place test [] n kind all is = absurd (cc is)
at_place test (k ∷ ks) zero kind all is = let same : k ≡ kind = cc is in ap test (sym same) ∙ and_first (test k) _ all
at_place test (k ∷ ks) (suc n) kind all is = at_place test ks n kind (and_second (test k) _ all) is

plain_passes : (test : TokenKind → Bool) → list_all test plain_kinds ≡ true → (kind : TokenKind) → IsTrue (is_plain kind) → test kind ≡ true
plain_passes test all (FieldKind kind) plain = absurd (cc plain)
plain_passes test all (State mode) plain = absurd (cc plain)
plain_passes test all (Level kind) plain = absurd (cc plain)
plain_passes test all (Number value) plain = absurd (cc plain)
plain_passes test all (Compare op) plain = absurd (cc plain)
plain_passes test all kind plain = at_place test plain_kinds (place kind) kind all refl

abbrev agree : Bool → Bool → Bool
agree true b = b
agree false b = not b

same_of : (b c : Bool) → agree b c ≡ true → b ≡ c
same_of true c e = sym e
same_of false true e = absurd (cc e)
same_of false false e = refl

abbrev decides : TokenKind → TokenKind → Bool
decides kind wanted = agree (is_same kind wanted) (kind_fits (class_of wanted) kind)

-- by computing each
row : (kind : TokenKind) → list_all (decides kind) plain_kinds ≡ true
row (FieldKind U8) = refl
row (FieldKind I8) = refl
row (FieldKind U16Be) = refl
row (FieldKind U16Le) = refl
row (FieldKind I16Be) = refl
row (FieldKind I16Le) = refl
row (FieldKind U32Be) = refl
row (FieldKind U32Le) = refl
row (FieldKind I32Be) = refl
row (FieldKind I32Le) = refl
row (State Active) = refl
row (State Passive) = refl
row (State Disabled) = refl
row (State PermOff) = refl
row (Level Debug) = refl
row (Level Information) = refl
row (Level Error) = refl
row (Level Critical) = refl
row (Compare Less) = refl
row (Compare LessOrEqual) = refl
row (Compare NotEqual) = refl
row (Compare Equal) = refl
row (Compare GreaterOrEqual) = refl
row (Compare Greater) = refl
row (Number value) = refl
row kind = refl

pub same_decides : (kind wanted : TokenKind) → IsTrue (is_plain wanted) → is_same kind wanted ≡ kind_fits (class_of wanted) kind
same_decides kind wanted plain = same_of _ _ (plain_passes (decides kind) (row kind) wanted plain)

-- the letters and signs of kinds are of the grammar
pub of_grammar : (kind : TokenKind) → IsOfGrammar (class_of kind)
of_grammar Name = tt
of_grammar Text = tt
of_grammar Equals = tt
of_grammar Semicolon = tt
of_grammar Open = tt
of_grammar Close = tt
of_grammar (FieldKind kind) = tt
of_grammar (State mode) = tt
of_grammar (Level kind) = tt
of_grammar (Number value) = tt
of_grammar (Compare op) = tt
of_grammar kind = refl
