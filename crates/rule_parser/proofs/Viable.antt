-- Tokens begin a text exactly where they run; what continues them is what fits on the stack that they leave.
use Rattle.std.proofs.Common.{◌≡◌, refl, sym, ◌∙◌, ap, subst, inl, ℕ, Bool, true, false, cond, ◌&&◌, ◌||◌, IsFalse, List, [], ◌∷◌, ◌++◌, Some, None, codes, bytes_eq}
use Rattle.std.specs.Prelude.{not}
use Rattle.std.specs.List.{list_any, list_all}
use Rattle.std.proofs.lemmas.Slice.Eq.{bytes_eq-Decides}
use Rattle.lc_model.specs.declared.field.CmpOp.TheVariants.{Less}
use Rattle.lc_model.specs.Text.Token.{Token}
use Rattle.lc_model.specs.Text.Class as class
use Rattle.lc_model.specs.Text.Class.{Class, Name, Number, Operand, Compare, Word, Sign, word, sign, fits, Fits, next, done}
use Rattle.lc_model.specs.Text.Grammar as grammar
use Rattle.lc_model.specs.Text.Grammar.{DerivesFile, number_of}
use Rattle.lc_model.specs.Text.Reading.{IsViable, Wants, optional_words, is_optional}
use Rattle.lc_model.proofs.Texts.OneClass.{none_of}
use Rattle.lc_model.proofs.Facts.{and_first, and_second, and_true}
use Rattle.lc_model.proofs.Texts.OneFile.{word_text}
use Rattle.rule_parser.specs.Stack.{Symbol, one, option, operand, after, ones, packet_left, field_left, rule_left, joins, step, wanted}
use Rattle.rule_parser.proofs.Levels.{Operands, no_tail, operand_then}
use Rattle.rule_parser.proofs.Runs.{Runs, Runs-append, Runs-split, one_run, runs_file, sign_text}
use Rattle.rule_parser.proofs.Completions.{Completes, prepend, finished}

-- ---- the stacks that are met

-- a text of the class
abbrev sample : Class → List ℕ
sample class.Item = codes "packet"
sample class.Name = codes "a"
sample class.Number = codes "1"
sample class.Text = 34 ∷ 34 ∷ []
sample class.FieldKind = codes "u8"
sample class.State = codes "active"
sample class.Level = codes "debug"
sample class.Operand = codes "a"
sample class.Compare = codes "<"
sample (Word letters) = letters
sample (Sign letters) = letters

-- some token is of the class, and none that begins what may be left out
abbrev sound : Class → Bool
sound class = fits class (sample class) && not (list_any (fits class) optional_words)

abbrev pub good : List Symbol → Bool
good [] = true
good (one class ∷ s) = sound class && good s
good (option letters following ∷ s) = list_any (bytes_eq letters) optional_words && (list_all sound following && good s)
good (operand close ∷ s) = sound close && good s
good (after close ∷ s) = sound close && good s

is_not : (x : Bool) → not x ≡ true → x ≡ false
is_not false e = refl
is_not true e = absurd (cc e)

good_ones : (classes : List Class) (s : List Symbol) → list_all sound classes ≡ true → good s ≡ true → good (ones classes ++ s) ≡ true
good_ones [] s e f = f
good_ones (class ∷ classes) s e f = and_true (sound class) _ (and_first (sound class) _ e) (good_ones classes s (and_second (sound class) _ e) f)

good_of : (u m : List Symbol) → Some u ≡ Some m → good u ≡ true → good m ≡ true
good_of u m e g = let same : u ≡ m = cc e in ap good (sym same) ∙ g

pub kept : (s m : List Symbol) (t : Token) → good s ≡ true → step s t ≡ Some m → good m ≡ true
kept [] m t g e = go (fits (word "packet") t.text) (fits (word "field") t.text) (fits (word "rule") t.text) e
  where
    go : (p f r : Bool) → cond p (Some packet_left) (cond f (Some field_left) (cond r (Some rule_left) None)) ≡ Some m → good m ≡ true
    go true f r e = good_of packet_left m e refl
    go false true r e = good_of field_left m e refl
    go false false true e = good_of rule_left m e refl
    go false false false e = absurd (cc e)
kept (one class ∷ s) m t g e = go (fits class t.text) e
  where
    go : (b : Bool) → cond b (Some s) None ≡ Some m → good m ≡ true
    go true e = good_of s m e (and_second (sound class) _ g)
    go false e = absurd (cc e)
kept (option letters following ∷ s) m t g e = go (fits (Word letters) t.text) e (λ e. kept s m t (and_second (list_all sound following) _ rest) e)
  where
    rest : (list_all sound following && good s) ≡ true
    rest = and_second (list_any (bytes_eq letters) optional_words) _ g

    go : (b : Bool) → cond b (Some (ones following ++ s)) (step s t) ≡ Some m → (step s t ≡ Some m → good m ≡ true) → good m ≡ true
    go true e others = good_of (ones following ++ s) m e (good_ones following s (and_first (list_all sound following) _ rest) (and_second (list_all sound following) _ rest))
    go false e others = others e
kept (operand close ∷ s) m t g e = go (fits Name t.text) (fits (word "not") t.text) (fits (sign "(") t.text) e
  where
    go : (p f r : Bool) → cond p (Some (one Compare ∷ one Number ∷ after close ∷ s))
        (cond f (Some (operand close ∷ s)) (cond r (Some (operand (sign ")") ∷ after close ∷ s)) None)) ≡ Some m → good m ≡ true
    go true f r e = good_of (one Compare ∷ one Number ∷ after close ∷ s) m e g
    go false true r e = good_of (operand close ∷ s) m e g
    go false false true e = good_of (operand (sign ")") ∷ after close ∷ s) m e g
    go false false false e = absurd (cc e)
kept (after close ∷ s) m t g e = go (joins t) (fits close t.text) e
  where
    go : (j f : Bool) → cond j (Some (operand close ∷ s)) (cond f (Some s) None) ≡ Some m → good m ≡ true
    go true f e = good_of (operand close ∷ s) m e g
    go false true e = good_of s m e (and_second (sound close) _ g)
    go false false e = absurd (cc e)

-- ---- viable fronts

abbrev token : List ℕ → Token
token text = record { at = 0; text = text }

one_operand : Operands (token (codes "a") ∷ token (codes "<") ∷ token (codes "1") ∷ [])
one_operand =
    operand_then (token (codes "a") ∷ token (codes "<") ∷ token (codes "1") ∷ []) []
    (_, grammar.nots_compare {op = Less} (next refl (next refl (next refl done))) refl) no_tail

-- some tokens complete a stack
completion : (s : List Symbol) → good s ≡ true → (ts : List Token) × Completes s ts
completion [] g = ([], finished [] refl)
completion (one class ∷ s) g =
    let rest = completion s (and_second (sound class) _ g) in
    (token (sample class) ∷ rest.0, (token (sample class), rest.0, refl, and_first _ _ (and_first (sound class) _ g), rest.1))
completion (option letters following ∷ s) g =
    let rest = completion s (and_second (list_all sound following) _ (and_second (list_any (bytes_eq letters) optional_words) _ g)) in
    (rest.0, ([], rest.0, refl, inl refl, rest.1))
completion (operand close ∷ s) g =
    let rest = completion s (and_second (sound close) _ g) in (
      token (codes "a") ∷ token (codes "<") ∷ token (codes "1") ∷ token (sample close) ∷ rest.0,
      (
        token (codes "a") ∷ token (codes "<") ∷ token (codes "1") ∷ [],
        rest.0,
        token (sample close),
        refl,
        one_operand,
        and_first _ _ (and_first (sound close) _ g),
        rest.1,
      ),
    )
completion (after close ∷ s) g =
    let rest = completion s (and_second (sound close) _ g) in
    (token (sample close) ∷ rest.0, ([], rest.0, token (sample close), refl, no_tail, and_first _ _ (and_first (sound close) _ g), rest.1))

pub prepend_all : (ts : List Token) (s u : List Symbol) (more : List Token) → Runs s ts u → Completes u more → Completes s (ts ++ more)
prepend_all [] s u more r c = subst (λ s. Completes s more) (sym r) c
prepend_all (t ∷ ts) s u more r c = prepend s t r.0 (ts ++ more) r.1 (prepend_all ts r.0 u more r.2 c)

-- what runs is viable
pub viable : (front : List Token) (s : List Symbol) → Runs [] front s → good s ≡ true → IsViable front
viable front s r g =
    let more = completion s g in
    let file = prepend_all front [] s more.0 r more.1 in
    (more.0, file.0, file.1)

-- a token that continues a viable front fits
pub continues : (front : List Token) (s : List Symbol) (t : Token) → Runs [] front s → IsViable (front ++ t ∷ []) →
    (m : List Symbol) × (step s t ≡ Some m)
continues front s t r v =
    let whole = Runs-split (front ++ t ∷ []) v.0 [] [] (runs_file v.2) in
    let parts = Runs-split front (t ∷ []) [] whole.0 whole.1 in
    let same = one_run front [] parts.0 s parts.1 r in
    (parts.2.0, subst (λ s. step s t ≡ Some parts.2.0) same parts.2.1)

-- and one that fits continues it
pub with_token : (front : List Token) (s m : List Symbol) (t : Token) → Runs [] front s → step s t ≡ Some m → Runs [] (front ++ t ∷ []) m
with_token front s m t r e = Runs-append front (t ∷ []) [] s m r (m, e, refl)

-- ---- what is wanted

abbrev IsStep : List Symbol → Token → Type 0
IsStep s t = (m : List Symbol) × (step s t ≡ Some m)

-- a word that may be left out
optional_word : (letters : List ℕ) (t : Token) → list_any (bytes_eq letters) optional_words ≡ true → Fits (Word letters) t → is_optional t ≡ true
optional_word letters t is fit = ap (λ text. list_any (bytes_eq text) optional_words) (sym (word_text letters t fit)) ∙ is

firm : (class : Class) (t : Token) → sound class ≡ true → Fits class t → is_optional t ≡ false
firm class t is fit = none_of (fits class) optional_words (is_not _ (and_second (fits class (sample class)) _ is)) t.text fit

item_steps : (t : Token) → Fits class.Item t → IsStep [] t
item_steps t fit = go (bytes_eq t.text (codes "packet")) (bytes_eq t.text (codes "field")) (bytes_eq t.text (codes "rule")) refl refl refl fit
  where
    is : (letters : List ℕ) → bytes_eq t.text letters ≡ true → letters ≡ t.text
    is letters e = sym ((bytes_eq-Decides t.text letters).0 e)

    go : (p f r : Bool) → bytes_eq t.text (codes "packet") ≡ p → bytes_eq t.text (codes "field") ≡ f → bytes_eq t.text (codes "rule") ≡ r →
        (p || (f || (r || false))) ≡ true → IsStep [] t
    go true f r a b d e = (packet_left, rw (sym (is (codes "packet") a)) refl)
    go false true r a b d e = (field_left, rw (sym (is (codes "field") b)) refl)
    go false false true a b d e = (rule_left, rw (sym (is (codes "rule") d)) refl)
    go false false false a b d e = absurd (cc e)

step_item : (t : Token) → IsStep [] t → Fits class.Item t
step_item t (m, e) = go (fits (word "packet") t.text) (fits (word "field") t.text) (fits (word "rule") t.text) refl refl refl e
  where
    go : (p f r : Bool) → fits (word "packet") t.text ≡ p → fits (word "field") t.text ≡ f → fits (word "rule") t.text ≡ r →
        cond p (Some packet_left) (cond f (Some field_left) (cond r (Some rule_left) None)) ≡ Some m → Fits class.Item t
    go true f r a b d e = rw (sym (word_text (codes "packet") t a)) refl
    go false true r a b d e = rw (sym (word_text (codes "field") t b)) refl
    go false false true a b d e = rw (sym (word_text (codes "rule") t d)) refl
    go false false false a b d e = absurd (cc e)

module _ (close : Class) (s : List Symbol) (t : Token) where
  operand_steps : Fits Operand t → IsStep (operand close ∷ s) t
  operand_steps fit = go (bytes_eq t.text (codes "not")) (bytes_eq t.text (codes "(")) (fits Name t.text) refl refl refl fit
    where
      is : (letters : List ℕ) → bytes_eq t.text letters ≡ true → letters ≡ t.text
      is letters e = sym ((bytes_eq-Decides t.text letters).0 e)

      go : (p f r : Bool) → bytes_eq t.text (codes "not") ≡ p → bytes_eq t.text (codes "(") ≡ f → fits Name t.text ≡ r →
          ((p || (f || false)) || r) ≡ true → IsStep (operand close ∷ s) t
      go true f r a b d e = (operand close ∷ s, rw (sym (is (codes "not") a)) refl)
      go false true r a b d e = (operand (sign ")") ∷ after close ∷ s, rw (sym (is (codes "(") b)) refl)
      go false false true a b d e = (one Compare ∷ one Number ∷ after close ∷ s, rw d refl)
      go false false false a b d e = absurd (cc e)

  step_operand : IsStep (operand close ∷ s) t → Fits Operand t
  step_operand (m, e) = go (fits Name t.text) (fits (word "not") t.text) (fits (sign "(") t.text) refl refl refl e
    where
      or_true : (b : Bool) → (b || true) ≡ true
      or_true true = refl
      or_true false = refl

      go : (p f r : Bool) → fits Name t.text ≡ p → fits (word "not") t.text ≡ f → fits (sign "(") t.text ≡ r →
          cond p (Some (one Compare ∷ one Number ∷ after close ∷ s))
          (cond f (Some (operand close ∷ s)) (cond r (Some (operand (sign ")") ∷ after close ∷ s)) None)) ≡ Some m → Fits Operand t
      go true f r a b d e =
          ap (λ n. list_any (bytes_eq t.text) (codes "not" ∷ codes "(" ∷ []) || n) a ∙ or_true (list_any (bytes_eq t.text) (codes "not" ∷ codes "(" ∷ []))
      go false true r a b d e = rw (sym (word_text (codes "not") t b)) refl
      go false false true a b d e = rw (sym (sign_text (codes "(") t d)) refl
      go false false false a b d e = absurd (cc e)

joins_optional : (t : Token) → joins t ≡ true → is_optional t ≡ true
joins_optional t e = go (fits (word "and") t.text) (fits (word "xor") t.text) (fits (word "or") t.text) refl refl refl e
  where
    go : (a x o : Bool) → fits (word "and") t.text ≡ a → fits (word "xor") t.text ≡ x → fits (word "or") t.text ≡ o → (a || (x || o)) ≡ true →
        is_optional t ≡ true
    go true x o p q r e = optional_word (codes "and") t refl p
    go false true o p q r e = optional_word (codes "xor") t refl q
    go false false true p q r e = optional_word (codes "or") t refl r
    go false false false p q r e = absurd (cc e)

-- what is wanted fits, and is nothing that may be left out
wanted_steps : (s : List Symbol) (t : Token) → good s ≡ true → Fits (wanted s) t → IsStep s t × (is_optional t ≡ false)
wanted_steps [] t g fit = (item_steps t fit, firm class.Item t refl fit)
wanted_steps (one class ∷ s) t g fit = ((s, rw fit refl), firm class t (and_first (sound class) _ g) fit)
wanted_steps (option letters following ∷ s) t g fit =
    go (wanted_steps s t (and_second (list_all sound following) _ (and_second (list_any (bytes_eq letters) optional_words) _ g)) fit)
  where
    past : (b : Bool) (m : List Symbol) → step s t ≡ Some m → (n : List Symbol) × (cond b (Some (ones following ++ s)) (step s t) ≡ Some n)
    past true m e = (ones following ++ s, refl)
    past false m e = (m, e)

    go : IsStep s t × (is_optional t ≡ false) → IsStep (option letters following ∷ s) t × (is_optional t ≡ false)
    go (is, plain) = (past (fits (Word letters) t.text) is.0 is.1, plain)
wanted_steps (operand close ∷ s) t g fit = (operand_steps close s t fit, firm Operand t refl fit)
wanted_steps (after close ∷ s) t g fit = (past (joins t), firm close t (and_first (sound close) _ g) fit)
  where
    past : (b : Bool) → (n : List Symbol) × (cond b (Some (operand close ∷ s)) (cond (fits close t.text) (Some s) None) ≡ Some n)
    past true = (operand close ∷ s, refl)
    past false = (s, ap (λ b. cond b (Some s) None) fit)

-- what fits is wanted, or may be left out
steps_wanted : (s : List Symbol) (t : Token) → good s ≡ true → IsStep s t → is_optional t ≡ false → Fits (wanted s) t
steps_wanted [] t g is plain = step_item t is
steps_wanted (one class ∷ s) t g (m, e) plain = go (fits class t.text) e
  where
    go : (b : Bool) → cond b (Some s) None ≡ Some m → b ≡ true
    go true e = refl
    go false e = absurd (cc e)
steps_wanted (option letters following ∷ s) t g (m, e) plain =
    go (fits (Word letters) t.text) refl e (λ is. steps_wanted s t (and_second (list_all sound following) _ rest) is plain)
  where
    rest : (list_all sound following && good s) ≡ true
    rest = and_second (list_any (bytes_eq letters) optional_words) _ g

    go : (b : Bool) → fits (Word letters) t.text ≡ b → cond b (Some (ones following ++ s)) (step s t) ≡ Some m → (IsStep s t → Fits (wanted s) t) → Fits (wanted s) t
    go true is e others = absurd (cc (optional_word letters t (and_first (list_any (bytes_eq letters) optional_words) _ g) is, plain))
    go false is e others = others (m, e)
steps_wanted (operand close ∷ s) t g is plain = step_operand close s t is
steps_wanted (after close ∷ s) t g (m, e) plain = go (joins t) (fits close t.text) refl e
  where
    go : (j f : Bool) → joins t ≡ j → cond j (Some (operand close ∷ s)) (cond f (Some s) None) ≡ Some m → f ≡ true
    go true f a e = absurd (cc (joins_optional t a, plain))
    go false true a e = refl
    go false false a e = absurd (cc e)

pub wants : (front : List Token) (s : List Symbol) → Runs [] front s → good s ≡ true → Wants front (wanted s)
wants front s r g t = (there, back)
  where
    there : Fits (wanted s) t → IsViable (front ++ t ∷ []) × IsFalse (is_optional t)
    there fit =
        let is = wanted_steps s t g fit in
        (viable (front ++ t ∷ []) is.0.0 (with_token front s is.0.0 t r is.0.1) (kept s is.0.0 t g is.0.1), is.1)

    back : IsViable (front ++ t ∷ []) × IsFalse (is_optional t) → Fits (wanted s) t
    back (v, plain) = steps_wanted s t g (continues front s t r v) plain
