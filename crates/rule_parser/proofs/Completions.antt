-- What completes a stack, and that a token in front of it completes the stack before.
use Rattle.std.proofs.Common.{◌≡◌, refl, sym, ◌∙◌, ap, subst, ◌⊎◌, inl, inr, ℕ, Bool, true, false, cond, ◌||◌, List, [], ◌∷◌, ◌++◌, Option, Some, None, is_some, codes, append_assoc}
use Rattle.lc_model.specs.Text.Token.{Token}
use Rattle.lc_model.specs.Text.Syntax as syntax
use Rattle.lc_model.specs.Text.Syntax.{Item}
use Rattle.lc_model.specs.Text.Class.{Class, Name, Number, State, Level, Text, FieldKind, Compare, Word, word, sign, fits, Fits, Phrase, done, next, comparison, field_type, state, event_kind}
use Rattle.lc_model.specs.Text.Grammar as grammar
use Rattle.lc_model.specs.Text.Grammar.{DerivesOption, DerivesReport, DerivesItem, DerivesFile, number_of}
use Rattle.rule_parser.specs.Stack.{Symbol, one, option, operand, after, ones, packet_left, field_left, rule_left, joins, step, is_finished}
use Rattle.rule_parser.proofs.Levels.{Operands, Tail, no_tail, whole, operand_then, not_then, and_then, xor_then, or_then, parentheses_then}

-- ---- what completes a stack

-- nothing, or the word and what follows it
abbrev OptionIs : List ℕ → List Class → List Token → Type 0
OptionIs letters following ts = (ts ≡ []) ⊎ Phrase (Word letters ∷ following) ts

abbrev pub Completes : List Symbol → List Token → Type 0
Completes [] ts = (items : List Item) × DerivesFile ts items
Completes (one class ∷ s) ts = (t : Token) × (back : List Token) × (ts ≡ t ∷ back) × Fits class t × Completes s back
Completes (option letters following ∷ s) ts =
    (front back : List Token) × (ts ≡ front ++ back) × OptionIs letters following front × Completes s back
Completes (operand close ∷ s) ts =
    (front back : List Token) × (t : Token) × (ts ≡ front ++ t ∷ back) × Operands front × Fits close t × Completes s back
Completes (after close ∷ s) ts =
    (front back : List Token) × (t : Token) × (ts ≡ front ++ t ∷ back) × Tail front × Fits close t × Completes s back

-- tokens of these classes, and then what completes the rest
take_ones : (classes : List Class) (s : List Symbol) (ts : List Token) → Completes (ones classes ++ s) ts →
    (front back : List Token) × (ts ≡ front ++ back) × Phrase classes front × Completes s back
take_ones [] s ts c = ([], ts, refl, done, c)
take_ones (class ∷ classes) s ts c =
    let rest = take_ones classes s c.1 c.4 in
    (c.0 ∷ rest.0, rest.1, c.2 ∙ ap (λ ts. c.0 ∷ ts) rest.2, next c.3 rest.3, rest.4)

-- ---- items

some_of : {A : Type 0} (o : Option A) → is_some o ≡ true → (x : A) × (o ≡ Some x)
some_of None e = absurd (cc e)
some_of (Some x) e = (x, refl)

-- tokens that are an item
abbrev IsItem : List Token → Type 0
IsItem ts = (item : Item) × DerivesItem ts item

packet_whole : (t : Token) (front : List Token) → Fits (word "packet") t →
    Phrase (Name ∷ sign "=" ∷ word "mid" ∷ Number ∷ word "length" ∷ Number ∷ sign ";" ∷ []) front → IsItem (t ∷ front)
packet_whole t front is (next {t = n} f1 (next f2 (next f3 (next {t = m} f4 (next f5 (next {t = l} f6 (next f7 done))))))) = (
  syntax.Packet (record { name = n; mid = number_of m; length = number_of l }),
  DerivesItem.packet (next is (next f1 (next f2 (next f3 (next f4 (next f5 (next f6 (next f7 done)))))))),
)

number_option : (letters : List ℕ) (ts : List Token) → OptionIs letters (Number ∷ []) ts → (o : Option syntax.Number) × DerivesOption (Word letters) ts o
number_option letters ts (inl none) = (None, subst (λ ts. DerivesOption (Word letters) ts None) (sym none) DerivesOption.absent)
number_option letters ts (inr (next f1 (next {t = n} f2 done))) = (Some (number_of n), DerivesOption.present (next f1 (next f2 done)))

report_option : (ts : List Token) → OptionIs (codes "report") (Number ∷ Number ∷ Number ∷ []) ts → (o : Option syntax.ReportItem) × DerivesReport ts o
report_option ts (inl none) = (None, subst (λ ts. DerivesReport ts None) (sym none) DerivesReport.absent)
report_option ts (inr (next f1 (next {t = a} f2 (next {t = b} f3 (next {t = c} f4 done))))) = (
  Some (record { passive = number_of a; pass_to_fail = number_of b; fail_to_pass = number_of c }),
  DerivesReport.present (next f1 (next f2 (next f3 (next f4 done)))),
)

field_whole : (t e : Token) (front masks stales : List Token) → Fits (word "field") t →
    Phrase (Name ∷ sign "=" ∷ Name ∷ FieldKind ∷ word "at" ∷ Number ∷ []) front →
    OptionIs (codes "mask") (Number ∷ []) masks → OptionIs (codes "stale") (Number ∷ []) stales → Fits (sign ";") e →
    IsItem ((t ∷ front) ++ (masks ++ stales ++ e ∷ []))
field_whole t e front masks stales is (next {t = n} f1 (next f2 (next {t = p} f3 (next {t = k} f4 (next f5 (next {t = o} f6 done)))))) dm ds ends =
    let kind = some_of (field_type k.text) f4 in
    let mask = number_option (codes "mask") masks dm in
    let stale = number_option (codes "stale") stales ds in (
      syntax.Field (record { name = n; packet = p; kind = kind.0; offset = number_of o; mask = mask.0; stale = stale.0 }),
      DerivesItem.field e (next is (next f1 (next f2 (next f3 (next f4 (next f5 (next f6 done))))))) kind.1 mask.1 stale.1 ends,
    )

rule_whole : (t w e : Token) (front reports conditions : List Token) → Fits (word "rule") t →
    Phrase (Name ∷ State ∷ word "fails" ∷ Number ∷ word "sequence" ∷ Number ∷ word "event" ∷ Level ∷ Number ∷ Text ∷ []) front →
    OptionIs (codes "report") (Number ∷ Number ∷ Number ∷ []) reports → Fits (word "when") w → Operands conditions → Fits (sign ";") e →
    IsItem ((t ∷ front) ++ (reports ++ w ∷ conditions ++ e ∷ []))
rule_whole t w e front reports conditions is
    (next {t = n} f1 (next {t = s} f2 (next f3 (next {t = f} f4 (next f5 (next {t = q} f6 (next f7 (next {t = l} f8 (next {t = i} f9 (next {t = x} f10 done))))))))))
    dr is_when operands ends =
    let mode = some_of (state s.text) f2 in
    let kind = some_of (event_kind l.text) f8 in
    let report = report_option reports dr in
    let condition = whole conditions operands in (
      _,
      DerivesItem.rule w e (next is (next f1 (next f2 (next f3 (next f4 (next f5 (next f6 (next f7 (next f8 (next f9 (next f10 done))))))))))) mode.1 kind.1
          report.1 is_when condition.1 ends,
    )

-- an item in front of a file
item_first : (ts back : List Token) → IsItem ts → Completes [] back → Completes [] (ts ++ back)
item_first ts back item file = (item.0 ∷ file.0, DerivesFile.next item.1 file.1)

packet_first : (t : Token) (ts : List Token) → Fits (word "packet") t → Completes packet_left ts → Completes [] (t ∷ ts)
packet_first t ts is c =
    let parts = take_ones (Name ∷ sign "=" ∷ word "mid" ∷ Number ∷ word "length" ∷ Number ∷ sign ";" ∷ []) [] ts c in
    subst (Completes []) (sym (ap (λ ts. t ∷ ts) parts.2))
    (item_first (t ∷ parts.0) parts.1 (packet_whole t parts.0 is parts.3) parts.4)

field_first : (t : Token) (ts : List Token) → Fits (word "field") t → Completes field_left ts → Completes [] (t ∷ ts)
field_first t ts is c =
    let parts = take_ones (Name ∷ sign "=" ∷ Name ∷ FieldKind ∷ word "at" ∷ Number ∷ [])
    (option (codes "mask") (Number ∷ []) ∷ option (codes "stale") (Number ∷ []) ∷ one (sign ";") ∷ []) ts c in
    let mask = parts.4 in
    let stale = mask.4 in
    let end = stale.4 in
    subst (Completes [])
    (sym (ap (λ ts. t ∷ ts) (parts.2 ∙ ap (λ ts. parts.0 ++ ts) (mask.2 ∙ ap (λ ts. mask.0 ++ ts) (stale.2 ∙ ap (λ ts. stale.0 ++ ts) end.2))
    ∙ regroup parts.0 mask.0 stale.0 end.1 end.0)))
    (item_first ((t ∷ parts.0) ++ (mask.0 ++ stale.0 ++ end.0 ∷ [])) end.1
    (field_whole t end.0 parts.0 mask.0 stale.0 is parts.3 mask.3 stale.3 end.3) end.4)
  where
    regroup : (xs ys zs back : List Token) (e : Token) → xs ++ (ys ++ (zs ++ e ∷ back)) ≡ (xs ++ (ys ++ zs ++ e ∷ [])) ++ back
    regroup xs ys zs back e = simp append_assoc

rule_first : (t : Token) (ts : List Token) → Fits (word "rule") t → Completes rule_left ts → Completes [] (t ∷ ts)
rule_first t ts is c =
    let parts = take_ones (Name ∷ State ∷ word "fails" ∷ Number ∷ word "sequence" ∷ Number ∷ word "event" ∷ Level ∷ Number ∷ Text ∷ [])
    (option (codes "report") (Number ∷ Number ∷ Number ∷ []) ∷ one (word "when") ∷ operand (sign ";") ∷ []) ts c in
    let report = parts.4 in
    let when = report.4 in
    let condition = when.4 in
    subst (Completes [])
    (sym (ap (λ ts. t ∷ ts) (parts.2 ∙ ap (λ ts. parts.0 ++ ts) (report.2 ∙ ap (λ ts. report.0 ++ ts) (when.2 ∙ ap (λ ts. when.0 ∷ ts) condition.3))
    ∙ regroup parts.0 report.0 condition.0 condition.1 when.0 condition.2)))
    (item_first ((t ∷ parts.0) ++ (report.0 ++ when.0 ∷ condition.0 ++ condition.2 ∷ [])) condition.1
    (rule_whole t when.0 condition.2 parts.0 report.0 condition.0 is parts.3 report.3 when.3 condition.4 condition.5) condition.6)
  where
    regroup : (xs ys zs back : List Token) (w e : Token) → xs ++ (ys ++ (w ∷ (zs ++ e ∷ back))) ≡ (xs ++ (ys ++ w ∷ zs ++ e ∷ [])) ++ back
    regroup xs ys zs back w e = simp append_assoc

-- ---- a token in front

either : {P : Type 0} (a b : Bool) → (a || b) ≡ true → (a ≡ true → P) → (b ≡ true → P) → P
either true b e f g = f refl
either false b e f g = g e

join_then : (t : Token) (ts : List Token) → joins t ≡ true → Operands ts → Tail (t ∷ ts)
join_then t ts is operands =
    either (fits (word "and") t.text) _ is (λ fit. and_then t ts fit operands)
    (λ others. either (fits (word "xor") t.text) _ others (λ fit. xor_then t ts fit operands) (λ fit. or_then t ts fit operands))

compare_then : (n : Token) (c : Class) (s : List Symbol) (ts : List Token) → Fits Name n → Completes (one Compare ∷ one Number ∷ after c ∷ s) ts →
    Completes (operand c ∷ s) (n ∷ ts)
compare_then n c s ts is (o, us, e, f, (k, vs, e', f', (front, back, t, e'', tail, close, rest))) =
    let op = some_of (comparison o.text) f in (
      n ∷ o ∷ k ∷ front,
      back,
      t,
      ap (λ ts. n ∷ ts) (e ∙ ap (λ ts. o ∷ ts) (e' ∙ ap (λ ts. k ∷ ts) e'')),
      operand_then (n ∷ o ∷ k ∷ []) front (syntax.Compare n op.0 (number_of k), grammar.nots_compare (next is (next f (next f' done))) op.1) tail,
      close,
      rest,
    )

not_first : (t : Token) (c : Class) (s : List Symbol) (ts : List Token) → Fits (word "not") t → Completes (operand c ∷ s) ts → Completes (operand c ∷ s) (t ∷ ts)
not_first t c s ts is (front, back, u, e, operands, close, rest) =
    (t ∷ front, back, u, ap (λ ts. t ∷ ts) e, not_then t front is operands, close, rest)

open_first : (t : Token) (c : Class) (s : List Symbol) (ts : List Token) → Fits (sign "(") t → Completes (operand (sign ")") ∷ after c ∷ s) ts →
    Completes (operand c ∷ s) (t ∷ ts)
open_first t c s ts is (front, back, u, e, operands, close, (front', back', u', e', tail, close', rest)) = (
  t ∷ front ++ u ∷ front',
  back',
  u',
  ap (λ ts. t ∷ ts) (e ∙ ap (λ ts. front ++ u ∷ ts) e') ∙ sym (append_assoc (t ∷ front) (u ∷ front') (u' ∷ back')),
  parentheses_then t u front front' is operands close tail,
  close',
  rest,
)

join_first : (t : Token) (c : Class) (s : List Symbol) (ts : List Token) → joins t ≡ true → Completes (operand c ∷ s) ts → Completes (after c ∷ s) (t ∷ ts)
join_first t c s ts is (front, back, u, e, operands, close, rest) =
    (t ∷ front, back, u, ap (λ ts. t ∷ ts) e, join_then t front is operands, close, rest)

to : {s m : List Symbol} (ts : List Token) → Some s ≡ Some m → Completes m ts → Completes s ts
to ts e c = subst (λ s. Completes s ts) (sym (cc e)) c

pub prepend : (s : List Symbol) (t : Token) (m : List Symbol) (ts : List Token) → step s t ≡ Some m → Completes m ts → Completes s (t ∷ ts)
prepend [] t m ts e c = go (fits (word "packet") t.text) (fits (word "field") t.text) (fits (word "rule") t.text) refl refl refl e
  where
    go : (p f r : Bool) → fits (word "packet") t.text ≡ p → fits (word "field") t.text ≡ f → fits (word "rule") t.text ≡ r →
        cond p (Some packet_left) (cond f (Some field_left) (cond r (Some rule_left) None)) ≡ Some m → Completes [] (t ∷ ts)
    go true f r a b d e = packet_first t ts a (to ts e c)
    go false true r a b d e = field_first t ts b (to ts e c)
    go false false true a b d e = rule_first t ts d (to ts e c)
    go false false false a b d e = absurd (cc e)
prepend (one class ∷ s) t m ts e c = go (fits class t.text) refl e
  where
    go : (b : Bool) → fits class t.text ≡ b → cond b (Some s) None ≡ Some m → Completes (one class ∷ s) (t ∷ ts)
    go true is e = (t, ts, refl, is, to ts e c)
    go false is e = absurd (cc e)
prepend (option letters following ∷ s) t m ts e c = go (fits (Word letters) t.text) refl e (λ e. prepend s t m ts e c)
  where
    go : (b : Bool) → fits (Word letters) t.text ≡ b → cond b (Some (ones following ++ s)) (step s t) ≡ Some m → (step s t ≡ Some m → Completes s (t ∷ ts)) →
        Completes (option letters following ∷ s) (t ∷ ts)
    go true is e others =
        let parts = take_ones following s ts (to ts e c) in
        (t ∷ parts.0, parts.1, ap (λ ts. t ∷ ts) parts.2, inr (next is parts.3), parts.4)
    go false is e others = ([], t ∷ ts, refl, inl refl, others e)
prepend (operand close ∷ s) t m ts e c = go (fits Name t.text) (fits (word "not") t.text) (fits (sign "(") t.text) refl refl refl e
  where
    go : (p f r : Bool) → fits Name t.text ≡ p → fits (word "not") t.text ≡ f → fits (sign "(") t.text ≡ r →
        cond p (Some (one Compare ∷ one Number ∷ after close ∷ s))
        (cond f (Some (operand close ∷ s)) (cond r (Some (operand (sign ")") ∷ after close ∷ s)) None)) ≡ Some m →
        Completes (operand close ∷ s) (t ∷ ts)
    go true f r a b d e = compare_then t close s ts a (to ts e c)
    go false true r a b d e = not_first t close s ts b (to ts e c)
    go false false true a b d e = open_first t close s ts d (to ts e c)
    go false false false a b d e = absurd (cc e)
prepend (after close ∷ s) t m ts e c = go (joins t) (fits close t.text) refl refl e
  where
    go : (j f : Bool) → joins t ≡ j → fits close t.text ≡ f → cond j (Some (operand close ∷ s)) (cond f (Some s) None) ≡ Some m →
        Completes (after close ∷ s) (t ∷ ts)
    go true f a b e = join_first t close s ts a (to ts e c)
    go false true a b e = ([], ts, t, refl, no_tail, b, to ts e c)
    go false false a b e = absurd (cc e)

-- ---- what may be left out is left out

pub finished : (s : List Symbol) → is_finished s ≡ true → Completes s []
finished [] e = ([], DerivesFile.done)
finished (one class ∷ s) e = absurd (cc e)
finished (option letters following ∷ s) e = ([], [], refl, inl refl, finished s e)
finished (operand close ∷ s) e = absurd (cc e)
finished (after close ∷ s) e = absurd (cc e)
