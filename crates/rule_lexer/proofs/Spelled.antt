-- Kinds whose tokens have one text each.
use Rattle.std.proofs.Common.{◌≡◌, refl, sym, ◌∙◌, ap, ℕ, Bool, true, false, not, ◌&&◌, List, [], Option, Some, None, is_some, unwrap_or, slice_get, bytes_eq, codes, zero, suc, ◌∷◌}
use Rattle.std.specs.Option.{option_map_or}
use Rattle.std.specs.List.{list_all}
use Rattle.lc_model.specs.declared.field.FieldType.{FieldType}
use Rattle.lc_model.specs.declared.field.CmpOp.{CmpOp}
use Rattle.lc_model.specs.declared.mode.ApMode.{ApMode}
use Rattle.lc_model.specs.declared.rule.EventKind.{EventKind}
use Rattle.lc_model.specs.declared.field.FieldType.TheVariants.{U8, I8, U16Be, U16Le, I16Be, I16Le, U32Be, U32Le, I32Be, I32Le}
use Rattle.lc_model.specs.declared.field.CmpOp.TheVariants.{Less, LessOrEqual, NotEqual, Equal, GreaterOrEqual, Greater}
use Rattle.lc_model.specs.declared.mode.ApMode.TheVariants.{Active, Passive, Disabled, PermOff}
use Rattle.lc_model.specs.declared.rule.EventKind.TheVariants.{Debug, Information, Error, Critical}
use Rattle.lc_model.specs.Text.Token.{is_word, is_sign}
use Rattle.lc_model.specs.Text.Class as class
use Rattle.lc_model.specs.Text.Class.{Class, fits}
use Rattle.rule_lexer.specs.declared.token.TokenKind.{TokenKind}
use Rattle.rule_lexer.specs.declared.token.TokenKind.TheVariants.{FieldKind, State, Level, Name, Number, Text, Compare}
use Rattle.rule_lexer.specs.Token.{IsKind}
use Rattle.rule_lexer.specs.Fitting.{kind_fits, spelling}
use Rattle.lc_model.proofs.Facts.{and_second, and_first}
use Rattle.rule_lexer.proofs.Tables.{text_of_value}

-- ---- kinds with one text

abbrev pub text_of : TokenKind → List ℕ
text_of kind = unwrap_or (spelling kind) []

abbrev equal : Bool → Bool → Bool
equal true b = b
equal false b = not b

equal_is : (a b : Bool) → equal a b ≡ true → a ≡ b
equal_is true b e = sym e
equal_is false true e = absurd (cc e)
equal_is false false e = refl

-- the classes that are no word and no sign
abbrev plain_classes : List Class
plain_classes = class.Item ∷ class.Name ∷ class.Number ∷ class.Text ∷ class.FieldKind ∷ class.State ∷ class.Level ∷ class.Operand ∷ class.Compare ∷ []

abbrev fits_as : TokenKind → Class → Bool
fits_as kind class = equal (fits class (text_of kind)) (kind_fits class kind)

-- the text is of those that the kind is of
alike : (kind : TokenKind) → is_some (spelling kind) ≡ true → list_all (fits_as kind) plain_classes ≡ true
alike Name spelled = absurd (cc spelled)
alike (Number value) spelled = absurd (cc spelled)
alike Text spelled = absurd (cc spelled)
alike (State PermOff) spelled = absurd (cc spelled)
alike (FieldKind U8) spelled = refl
alike (Level Debug) spelled = refl
alike (Compare Less) spelled = refl
alike kind spelled = refl

-- ---- the tables of words and signs with values

abbrev pub field_types : List (List ℕ × FieldType)
field_types = (codes "u8", U8) ∷ (codes "i8", I8) ∷ (codes "u16be", U16Be) ∷ (codes "u16le", U16Le) ∷ (codes "i16be", I16Be)
    ∷ (codes "i16le", I16Le) ∷ (codes "u32be", U32Be) ∷ (codes "u32le", U32Le) ∷ (codes "i32be", I32Be) ∷ (codes "i32le", I32Le) ∷ []

abbrev pub states : List (List ℕ × ApMode)
states = (codes "active", Active) ∷ (codes "passive", Passive) ∷ (codes "disabled", Disabled) ∷ []

abbrev pub event_kinds : List (List ℕ × EventKind)
event_kinds = (codes "debug", Debug) ∷ (codes "info", Information) ∷ (codes "error", Error) ∷ (codes "critical", Critical) ∷ []

abbrev pub comparisons : List (List ℕ × CmpOp)
comparisons = (codes "<", Less) ∷ (codes "<=", LessOrEqual) ∷ (codes "!=", NotEqual) ∷ (codes "==", Equal)
    ∷ (codes ">=", GreaterOrEqual) ∷ (codes ">", Greater) ∷ []

-- a token of a kind with one text has that text
pub same_text : (kind : TokenKind) (text : List ℕ) → is_some (spelling kind) ≡ true → IsKind kind text → text ≡ text_of kind
same_text Name text spelled is = absurd (cc spelled)
same_text (Number value) text spelled is = absurd (cc spelled)
same_text Text text spelled is = absurd (cc spelled)
same_text (FieldKind kind) text spelled is = text_of_value (λ kind. text_of (FieldKind kind)) field_types refl text kind is
same_text (State mode) text spelled is = text_of_value (λ mode. text_of (State mode)) states refl text mode is
same_text (Level kind) text spelled is = text_of_value (λ kind. text_of (Level kind)) event_kinds refl text kind is
same_text (Compare op) text spelled is = text_of_value (λ op. text_of (Compare op)) comparisons refl text op is
same_text kind text spelled is = is

-- the class at this place of the list
at_place : (test : Class → Bool) (classes : List Class) → list_all test classes ≡ true → (k : ℕ) (wanted : Class) → slice_get classes k ≡ Some wanted →
    test wanted ≡ true
at_place test [] all k wanted here = absurd (cc here)
at_place test (x ∷ xs) all zero wanted here = let same : x ≡ wanted = cc here in ap test (sym same) ∙ and_first (test x) _ all
at_place test (x ∷ xs) all (suc k) wanted here = at_place test xs (and_second (test x) _ all) k wanted here

pub spelled_fits : (kind : TokenKind) (text : List ℕ) → is_some (spelling kind) ≡ true → text ≡ text_of kind → (wanted : Class) →
    fits wanted text ≡ kind_fits wanted kind
spelled_fits kind text spelled same wanted = ap (fits wanted) same ∙ go wanted
  where
    plain : (k : ℕ) (wanted : Class) → slice_get plain_classes k ≡ Some wanted → fits wanted (text_of kind) ≡ kind_fits wanted kind
    plain k wanted here = equal_is (fits wanted (text_of kind)) (kind_fits wanted kind) (at_place (fits_as kind) plain_classes (alike kind spelled) k wanted here)

    one_text : (test : List ℕ → Bool) (o : Option (List ℕ)) → is_some o ≡ true → test (unwrap_or o []) ≡ option_map_or test o false
    one_text test None none = absurd (cc none)
    one_text test (Some text) some = refl

    go : (wanted : Class) → fits wanted (text_of kind) ≡ kind_fits wanted kind
    go class.Item = plain 0 class.Item refl
    go class.Name = plain 1 class.Name refl
    go class.Number = plain 2 class.Number refl
    go class.Text = plain 3 class.Text refl
    go class.FieldKind = plain 4 class.FieldKind refl
    go class.State = plain 5 class.State refl
    go class.Level = plain 6 class.Level refl
    go class.Operand = plain 7 class.Operand refl
    go class.Compare = plain 8 class.Compare refl
    go (class.Word letters) = one_text (λ text. is_word text && bytes_eq letters text) (spelling kind) spelled
    go (class.Sign letters) = one_text (λ text. is_sign text && bytes_eq letters text) (spelling kind) spelled
