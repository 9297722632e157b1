-- The refusal of a text is that of the first part of the compiler that has one.
use Rattle.std.proofs.Common.{◌≡◌, refl, sym, ◌∙◌, ap, subst, ℕ, inl, inr, List, length}
use Rattle.std.specs.Prelude.{Some, Result, Ok, Err, IfErr, IfOk, MatchResult}
use Rattle.std.specs.Result.{IsErrAnd}
use Rattle.std.proofs.lemmas.Bool.{lt-ltb}
use Rattle.lc_model.specs.Rule.{NamedRule}
use Rattle.lc_model.specs.Codes.{table_entries}
use Rattle.lc_model.specs.Text.Token.{Token, Splits}
use Rattle.lc_model.specs.Text.Syntax.{Item}
use Rattle.lc_model.specs.Text.Meaning.{faults, first_fault}
use Rattle.lc_model.specs.Text.Reading as model
use Rattle.lc_model.specs.Text.Reading.{Parses, HasParseFault, TextRefusal, ForText, AtPlace, Unparsed, IsUnreadable, Reads}
use Rattle.lc_model.specs.Tables.Equation.{terms_of}
use Rattle.lc_model.specs.Tables.Compiling.{limit_refusal}
use Rattle.lc_model.specs.Tables.InForce.{limits}
use Rattle.rule_lexer.specs.declared.error.LexError.{LexError}
use Rattle.rule_lexer.specs.declared.error.LexError.TheVariants as lexer
use Rattle.rule_lexer.specs.Fault as lex
use Rattle.rule_parser.specs.declared.error.ParseError.{ParseError}
use Rattle.rule_parser.specs.declared.error.ParseError.TheVariants as parser
use Rattle.rule_parser.specs.Fault as parse
use Rattle.rule_parser.specs.What.{class_of_what}
use Rattle.field_checker.specs.declared.error.CheckError.{CheckError}
use Rattle.field_checker.specs.declared.error.CheckError.TheVariants as checker
use Rattle.field_checker.specs.Fault as check
use Rattle.watch_sharing.specs.declared.error.ShareError.{ShareError}
use Rattle.watch_sharing.specs.Fault.{IsTooManyUnlessMemory}
use Rattle.rpn_compiler.specs.declared.error.CompileError.{CompileError}
use Rattle.rpn_compiler.specs.declared.error.CompileError.TheVariants.{Memory}
use Rattle.rpn_compiler.specs.declared.rule_text.RuleText.{RuleText}
use Rattle.rpn_compiler.specs.TextParts.{IsRuleText, bytes_in, items_in}
use Rattle.rpn_compiler.specs.Fault.{Refuses, refusal_of, error_of_lexer, error_of_parser, error_of_checker, error_of_sharing}

-- a refusal is another one, too
pub also : (P Q : TextRefusal → Type 0) → ((r : TextRefusal) → P r → Q r) → (error : CompileError) → Refuses P error → Refuses Q error
also P Q so error (inl memory) = inl memory
also P Q so error (inr known) = inr (known.0, known.1, so known.0 known.2)

pub also_of : {T : Type 0} (P Q : TextRefusal → Type 0) → ((r : TextRefusal) → P r → Q r) → (r : Result T CompileError) → IfErr r (Refuses P) → IfErr r (Refuses Q)
also_of P Q so (Ok x) is = is
also_of P Q so (Err e) is = also P Q so e is

-- ---- the parts

module _ (text : List ℕ) where
  of_fault : (error : LexError) → lex.IsFault text error → Refuses (IsUnreadable text) (error_of_lexer error)
  of_fault (lexer.BadByte at) is = inr (AtPlace (record { code = 1; at = at }), refl, model.bad_token is.0 is.1)
  of_fault (lexer.BadNumber at) is = inr (AtPlace (record { code = 2; at = at }), refl, model.bad_token is.0 is.1)
  of_fault (lexer.NameTooLong at) is = inr (AtPlace (record { code = 3; at = at }), refl, model.bad_token is.0 is.1)
  of_fault (lexer.BadString at) is = inr (AtPlace (record { code = 4; at = at }), refl, model.bad_token is.0 is.1)
  of_fault lexer.TextTooLong is = inr (ForText 5, refl, model.too_long is)
  of_fault lexer.Memory is = absurd is

  pub of_lexer : (error : LexError) → lex.IsFaultUnlessMemory text error → Refuses (IsUnreadable text) (error_of_lexer error)
  of_lexer error (inl memory) = inl (ap error_of_lexer memory)
  of_lexer error (inr fault) = of_fault error fault

  pub of_parser : (tokens : List Token) (error : ParseError) → Splits text tokens →
      parse.Refuses (λ fault. HasParseFault (length text) tokens fault) error → Refuses (IsUnreadable text) (error_of_parser error)
  of_parser tokens (parser.Expected at what) splits is = inr (Unparsed (model.Expected at (class_of_what what)), refl, model.no_parse splits is)
  of_parser tokens (parser.TooNested at) splits is = inr (Unparsed (model.TooNested at), refl, model.no_parse splits is)
  of_parser tokens parser.Memory splits is = inl refl

  pub of_checker : (tokens : List Token) (items : List Item) (error : CheckError) → Splits text tokens → Parses tokens items →
      check.IsFaultUnlessMemory (first_fault (faults items)) error → Refuses (IsUnreadable text) (error_of_checker error)
  of_checker tokens items error splits parses (inl memory) = inl (ap error_of_checker memory)
  of_checker tokens items (checker.DuplicateName at) splits parses (inr first) =
      inr (AtPlace (record { code = 21; at = at }), refl, model.no_meaning splits parses (sym first))
  of_checker tokens items (checker.UnknownName at) splits parses (inr first) =
      inr (AtPlace (record { code = 22; at = at }), refl, model.no_meaning splits parses (sym first))
  of_checker tokens items (checker.MidRange at) splits parses (inr first) =
      inr (AtPlace (record { code = 23; at = at }), refl, model.no_meaning splits parses (sym first))
  of_checker tokens items (checker.ReservedMid at) splits parses (inr first) =
      inr (AtPlace (record { code = 24; at = at }), refl, model.no_meaning splits parses (sym first))
  of_checker tokens items (checker.FieldOutside at) splits parses (inr first) =
      inr (AtPlace (record { code = 25; at = at }), refl, model.no_meaning splits parses (sym first))
  of_checker tokens items (checker.MaskRange at) splits parses (inr first) =
      inr (AtPlace (record { code = 26; at = at }), refl, model.no_meaning splits parses (sym first))
  of_checker tokens items (checker.ConstRange at) splits parses (inr first) =
      inr (AtPlace (record { code = 27; at = at }), refl, model.no_meaning splits parses (sym first))
  of_checker tokens items (checker.NumberRange at) splits parses (inr first) =
      inr (AtPlace (record { code = 28; at = at }), refl, model.no_meaning splits parses (sym first))
  of_checker tokens items (checker.LengthRange at) splits parses (inr first) =
      inr (AtPlace (record { code = 29; at = at }), refl, model.no_meaning splits parses (sym first))
  of_checker tokens items checker.Memory splits parses (inr none) = inl refl

-- ---- limits

pub of_sharing : (rules : List NamedRule) (error : ShareError) → IsTooManyUnlessMemory (terms_of rules) error →
    Refuses (λ refusal. limit_refusal limits rules ≡ Some refusal) (error_of_sharing error)
of_sharing rules error (inl memory) = inl (ap error_of_sharing memory)
of_sharing rules error (inr many) =
    inr (ForText 31, ap (λ e. refusal_of (error_of_sharing e)) many.0, rw (lt-ltb table_entries (length (terms_of rules)) many.1) refl)

-- ---- both directions

-- an error that is a refusal of this kind is want of memory, where there is none of this kind
pub only_memory : (P : TextRefusal → Type 0) (error : CompileError) → Refuses P error → ((refusal : TextRefusal) → P refusal → ⊥) → error ≡ Memory
only_memory P error (inl memory) none = memory
only_memory P error (inr known) none = absurd (none known.0 known.2)

-- .. and it is the one of this kind, where there is one
pub the_refusal : (P : TextRefusal → Type 0) (error : CompileError) → Refuses P error →
    ((refusal other : TextRefusal) → P refusal → P other → refusal ≡ other) →
    (refusal : TextRefusal) → P refusal → Refuses (λ found. found ≡ refusal) error
the_refusal P error (inl memory) one refusal is = inl memory
the_refusal P error (inr known) one refusal is = inr (known.0, known.1, one known.0 refusal known.2 is)

-- both, of an answer
pub accepts : {T : Type 0} (P : TextRefusal → Type 0) (Q : T → Type 0) (r : Result T CompileError) → IfOk r Q → IfErr r (Refuses P) →
    ((refusal : TextRefusal) → P refusal → ⊥) → MatchResult r Q (λ error. error ≡ Memory)
accepts P Q (Ok x) ok refused none = ok
accepts P Q (Err error) ok refused none = only_memory P error refused none

pub refuses : {T : Type 0} (P : TextRefusal → Type 0) (r : Result T CompileError) → IfOk r (λ _. ⊥) → IfErr r (Refuses P) →
    ((refusal other : TextRefusal) → P refusal → P other → refusal ≡ other) →
    (refusal : TextRefusal) → P refusal → MatchResult r (λ _. ⊥) (Refuses (λ found. found ≡ refusal))
refuses P (Ok x) not refused one refusal is = not
refuses P (Err error) not refused one refusal is = the_refusal P error refused one refusal is

-- .. and of an answer that hands on an error
pub exit_accepts : {T : Type 0} (P : TextRefusal → Type 0) (Q : T → Type 0) (r : Result T CompileError) (error : CompileError) →
    IsErrAnd r (λ e. e ≡ error) → Refuses P error → ((refusal : TextRefusal) → P refusal → ⊥) → MatchResult r Q (λ e. e ≡ Memory)
exit_accepts P Q (Ok x) error is refused none = absurd is
exit_accepts P Q (Err e) error is refused none = is ∙ only_memory P error refused none

pub exit_refuses : {T : Type 0} (P : TextRefusal → Type 0) (r : Result T CompileError) (error : CompileError) →
    IsErrAnd r (λ e. e ≡ error) → Refuses P error → ((refusal other : TextRefusal) → P refusal → P other → refusal ≡ other) →
    (refusal : TextRefusal) → P refusal → MatchResult r (λ _. ⊥) (Refuses (λ found. found ≡ refusal))
exit_refuses P (Ok x) error is refused one refusal has = absurd is
exit_refuses P (Err e) error is refused one refusal has =
    subst (Refuses (λ found. found ≡ refusal)) (sym is) (the_refusal P error refused one refusal has)

-- what follows of an answer that is there
pub ok_also : {T : Type 0} (P Q : T → Type 0) (r : Result T CompileError) → ((x : T) → P x → Q x) → IfOk r P → IfOk r Q
ok_also P Q (Ok x) so is = so x is
ok_also P Q (Err error) so is = is

pub ok_both : {T : Type 0} (P Q R : T → Type 0) (r : Result T CompileError) → ((x : T) → P x → Q x → R x) → IfOk r P → IfOk r Q → IfOk r R
ok_both P Q R (Ok x) so one other = so x one other
ok_both P Q R (Err error) so one other = one

-- ---- texts that were read

-- such a text reads
pub text_reads : (text : RuleText) (bytes : List ℕ) → bytes_in text ≡ bytes → IsRuleText text → Reads bytes text.rules.rules
text_reads text bytes same is =
    subst (λ all. Reads all text.rules.rules) same (is.read.tokens, items_in text, is.read.splits, is.read.parses, is.read.means)
