-- Tokens that begin a text can be continued by one that begins nothing that may be left out.
use Rattle.std.proofs.Common.{◌≡◌, refl, sym, ◌∙◌, ap, subst, ◌⊎◌, inl, inr, Bool, true, false, IsFalse, List, [], ◌∷◌, ◌++◌, Option, Some, codes, append-nil, append_assoc}
use Rattle.std.specs.List.{list_any}
use Rattle.lc_model.specs.declared.field.FieldType.{FieldType}
use Rattle.lc_model.specs.declared.field.CmpOp.TheVariants.{Less}
use Rattle.lc_model.specs.Condition.{And, Or, Xor}
use Rattle.lc_model.specs.Text.Token.{Token}
use Rattle.lc_model.specs.Text.Syntax as syntax
use Rattle.lc_model.specs.Text.Syntax.{Expression, Item, ReportItem}
use Rattle.lc_model.specs.Text.Class.{Class, Number, word, sign, fits, Fits, Phrase, done, next, field_type}
use Rattle.lc_model.specs.Text.Grammar as grammar
use Rattle.lc_model.specs.Text.Grammar.{Part, Derives, DerivesOption, DerivesReport, DerivesItem, DerivesFile, field_phrase}
use Rattle.lc_model.specs.Text.Reading.{IsViable, optional_words, is_optional}
use Rattle.lc_model.proofs.Texts.Tokens.{piece, phrase}
use Rattle.lc_model.proofs.Texts.OneClass.{none_of}
use Rattle.lc_model.proofs.Facts.{or_first, or_second, or_neither}

-- ---- what may not be left out

abbrev is_firm : Class → Bool
is_firm class = list_any (fits class) optional_words

abbrev holds_optional : List Token → Bool
holds_optional = list_any is_optional

pub firm : (class : Class) → is_firm class ≡ false → (t : Token) → Fits class t → is_optional t ≡ false
firm class none t fit = none_of (fits class) optional_words none t.text fit

firm_phrase : {classes : List Class} {ts : List Token} → list_any is_firm classes ≡ false → Phrase classes ts → holds_optional ts ≡ false
firm_phrase none done = refl
firm_phrase none (next {class = class} {t = t} {classes = classes} {ts = ts} fit others) =
    or_neither (is_optional t) (holds_optional ts) (firm class (or_first (is_firm class) _ none) t fit)
    (firm_phrase (or_second (is_firm class) _ none) others)

firm_at : (front : List Token) (t : Token) (back : List Token) → holds_optional (front ++ t ∷ back) ≡ false → is_optional t ≡ false
firm_at [] t back none = or_first (is_optional t) _ none
firm_at (x ∷ front) t back none = firm_at front t back (or_second (is_optional x) _ none)

-- an optional token is not among firm ones
not_there : (ts front : List Token) (t : Token) (back : List Token) → holds_optional ts ≡ false → ts ≡ front ++ t ∷ back →
    is_optional t ≡ true → ⊥
not_there ts front t back none e optional =
    cc (optional, firm_at front t back (ap holds_optional (sym e) ∙ none))

-- where in two lists a token stands
where_is : (xs ys front : List Token) (t : Token) (back : List Token) → xs ++ ys ≡ front ++ t ∷ back →
    ((more : List Token) × (xs ≡ front ++ t ∷ more)) ⊎ ((more : List Token) × (front ≡ xs ++ more) × (ys ≡ more ++ t ∷ back))
where_is [] ys front t back e = inr (front, refl, e)
where_is (x ∷ xs) ys [] t back e = inl (xs, cc e)
where_is (x ∷ xs) ys (f ∷ front) t back e = go (where_is xs ys front t back (cc e))
  where
    same : x ≡ f
    same = cc e

    go : ((more : List Token) × (xs ≡ front ++ t ∷ more)) ⊎ ((more : List Token) × (front ≡ xs ++ more) × (ys ≡ more ++ t ∷ back)) →
        ((more : List Token) × (x ∷ xs ≡ f ∷ front ++ t ∷ more)) ⊎ ((more : List Token) × (f ∷ front ≡ x ∷ xs ++ more) × (ys ≡ more ++ t ∷ back))
    go (inl i) = inl (i.0, cc (same, i.1))
    go (inr i) = inr (i.0, cc (same, i.1), i.2)

-- ---- conditions

-- the tokens are the whole part, or they are continued by one that may not be left out
abbrev Stops : Part → List Token → Type 0
Stops part front = (e : Expression) × Derives part front e

abbrev Goes : Part → List Token → Type 0
Goes part front = (u : Token) × (more : List Token) × (e : Expression) × Derives part (front ++ u ∷ more) e × (is_optional u ≡ false)

abbrev Freed : Part → List Token → Type 0
Freed part front = Stops part front ⊎ Goes part front

either : {A B C D : Type 0} → (A → C) → (B → D) → A ⊎ B → C ⊎ D
either f g (inl a) = inl (f a)
either f g (inr b) = inr (g b)

-- an operand alone
freed_one : (p q : Part) → ((ts : List Token) (e : Expression) → Derives q ts e → Derives p ts e) → (front : List Token) → Freed q front → Freed p front
freed_one p q wrap front (inl s) = inl (s.0, wrap front s.0 s.1)
freed_one p q wrap front (inr g) = inr (g.0, g.1, g.2, wrap (front ++ g.0 ∷ g.1) g.2 g.3, g.4)

-- two operands
freed_join : (p q : Part) (ts us : List Token) (t0 : Token) (a : Expression) (join : Expression → Expression) → Derives p ts a →
    ((vs : List Token) (b : Expression) → Derives q vs b → Derives p (ts ++ t0 ∷ vs) (join b)) →
    (front : List Token) (t : Token) (back : List Token) → ts ++ t0 ∷ us ≡ front ++ t ∷ back →
    ((more : List Token) → ts ≡ front ++ t ∷ more → Freed p front) →
    ((more : List Token) → us ≡ more ++ t ∷ back → Freed q more) → Freed p front
freed_join p q ts us t0 a join d wrap front t back e left right = go (where_is ts (t0 ∷ us) front t back e)
  where
    go : ((more : List Token) × (ts ≡ front ++ t ∷ more)) ⊎ ((more : List Token) × (front ≡ ts ++ more) × (t0 ∷ us ≡ more ++ t ∷ back)) → Freed p front
    go (inl i) = left i.0 i.1
    go (inr ([], is, others)) = inl (a, subst (λ xs. Derives p xs a) (sym (is ∙ append-nil ts)) d)
    go (inr (x ∷ more, is, others)) =
        let same : t0 ≡ x = cc others in
        let rest : us ≡ more ++ t ∷ back = cc others in
        let whole : ts ++ t0 ∷ more ≡ front = ap (λ (y : Token). ts ++ y ∷ more) same ∙ sym is in
        let operand : Freed q more = right more rest in
        subst (Freed p) whole (step operand)
      where
        step : Freed q more → Freed p (ts ++ t0 ∷ more)
        step (inl s) = inl (join s.0, wrap more s.0 s.1)
        step (inr g) = inr (
          g.0,
          g.1,
          join g.2,
          subst (λ xs. Derives p xs (join g.2)) (sym (append_assoc ts (t0 ∷ more) (g.0 ∷ g.1))) (wrap (more ++ g.0 ∷ g.1) g.2 g.3),
          g.4,
        )

-- one token is none but itself
single_firm : (u : Token) (more : List Token) (t : Token) (back : List Token) → is_optional u ≡ false → u ∷ [] ≡ more ++ t ∷ back →
    is_optional t ≡ true → ⊥
single_firm u more t back none e optional = not_there (u ∷ []) more t back (or_neither (is_optional u) false none refl) e optional

freed : {part : Part} {ts : List Token} {e : Expression} → Derives part ts e →
    (front : List Token) (t : Token) (back : List Token) → ts ≡ front ++ t ∷ back → is_optional t ≡ true → Freed part front
freed (grammar.cond_one d) front t back at optional = freed_one grammar.cond grammar.xors (λ ts e d. grammar.cond_one d) front (freed d front t back at optional)
freed (grammar.xors_one d) front t back at optional = freed_one grammar.xors grammar.ands (λ ts e d. grammar.xors_one d) front (freed d front t back at optional)
freed (grammar.ands_one d) front t back at optional = freed_one grammar.ands grammar.nots (λ ts e d. grammar.ands_one d) front (freed d front t back at optional)
freed (grammar.cond_or {ts = ts} {us = us} {a = a} o d fit f) front t back at optional =
    freed_join grammar.cond grammar.xors ts us o a (syntax.Join Or a) d (λ vs b g. grammar.cond_or o d fit g) front t back at
    (λ more e. freed d front t more e optional) (λ more e. freed f more t back e optional)
freed (grammar.xors_xor {ts = ts} {us = us} {a = a} o d fit f) front t back at optional =
    freed_join grammar.xors grammar.ands ts us o a (syntax.Join Xor a) d (λ vs b g. grammar.xors_xor o d fit g) front t back at
    (λ more e. freed d front t more e optional) (λ more e. freed f more t back e optional)
freed (grammar.ands_and {ts = ts} {us = us} {a = a} o d fit f) front t back at optional =
    freed_join grammar.ands grammar.nots ts us o a (syntax.Join And a) d (λ vs b g. grammar.ands_and o d fit g) front t back at
    (λ more e. freed d front t more e optional) (λ more e. freed f more t back e optional)
freed (grammar.nots_not {ts = ts} {t = n} fit d) [] t back at optional =
    let same : n ≡ t = cc at in
    absurd (cc (optional, ap is_optional same, firm (word "not") refl n fit))
freed (grammar.nots_not {ts = ts} {t = n} fit d) (x ∷ front) t back at optional =
    let same : n ≡ x = cc at in
    let is_not : Fits (word "not") x = subst (λ y. Fits (word "not") y) same fit in
    either (λ (s : Stops grammar.nots front). (syntax.Not s.0, grammar.nots_not is_not s.1))
    (λ (g : Goes grammar.nots front). (g.0, g.1, syntax.Not g.2, grammar.nots_not is_not g.3, g.4))
    (freed d front t back (cc at) optional)
freed (grammar.nots_parentheses {ts = ts} o u fit d fit') [] t back at optional =
    let same : o ≡ t = cc at in
    absurd (cc (optional, ap is_optional same, firm (sign "(") refl o fit))
freed (grammar.nots_parentheses {ts = ts} {e = e} o u fit d fit') (x ∷ front) t back at optional =
    inside (where_is ts (u ∷ []) front t back (cc at)) (λ more e. freed d front t more e optional)
  where
    same : o ≡ x
    same = cc at

    opens : Fits (sign "(") x
    opens = subst (λ y. Fits (sign "(") y) same fit

    step : Freed grammar.cond front → Freed grammar.nots (x ∷ front)
    step (inl s) = inr (piece 0 (codes ")"), [], s.0, grammar.nots_parentheses x (piece 0 (codes ")")) opens s.1 refl, refl)
    step (inr g) = inr (
      g.0,
      g.1 ++ piece 0 (codes ")") ∷ [],
      g.2,
      subst (λ xs. Derives grammar.nots (x ∷ xs) g.2) (append_assoc front (g.0 ∷ g.1) (piece 0 (codes ")") ∷ [])) (grammar.nots_parentheses x (piece 0 (codes ")")) opens g.3 refl),
      g.4,
    )

    inside : ((more : List Token) × (ts ≡ front ++ t ∷ more)) ⊎ ((more : List Token) × (front ≡ ts ++ more) × (u ∷ [] ≡ more ++ t ∷ back)) →
        ((more : List Token) → ts ≡ front ++ t ∷ more → Freed grammar.cond front) → Freed grammar.nots (x ∷ front)
    inside (inl i) within = step (within i.0 i.1)
    inside (inr i) within = absurd (single_firm u i.0 t back (firm (sign ")") refl u fit') i.2 optional)
freed (grammar.nots_compare {n = n} {o = o} {k = k} {op = op} parts is) front t back at optional =
    absurd (not_there (n ∷ o ∷ k ∷ []) front t back (firm_phrase refl parts) at optional)

-- ---- items

-- an item begins so, and goes on with a token that may not be left out
abbrev GoesItem : List Token → Type 0
GoesItem front = (u : Token) × (more : List Token) × (item : Item) × DerivesItem (front ++ u ∷ more) item × (is_optional u ≡ false)

-- an optional token behind the whole option, or at its beginning
in_option : {w : Class} {ms : List Token} {m : Option syntax.Number} → DerivesOption w ms m →
    (xs more : List Token) (t : Token) (back : List Token) → ms ++ xs ≡ more ++ t ∷ back → is_optional t ≡ true →
    (more ≡ []) ⊎ ((others : List Token) × (more ≡ ms ++ others) × (xs ≡ others ++ t ∷ back))
in_option DerivesOption.absent xs more t back e optional = inr (more, refl, e)
in_option (DerivesOption.present parts) xs [] t back e optional = inl refl
in_option (DerivesOption.present {w = w} {n = n} (next fit (next number done))) xs (x ∷ []) t back e optional =
    let same : n ≡ t = cc e in
    absurd (cc (optional, ap is_optional same, firm Number refl n number))
in_option (DerivesOption.present {w = w} {n = n} parts) xs (x ∷ y ∷ more) t back e optional =
    let first : w ≡ x = cc e in
    let second : n ≡ y = cc e in
    inr (more, cc (first, second), cc e)

in_report : {ms : List Token} {m : Option ReportItem} → DerivesReport ms m →
    (xs more : List Token) (t : Token) (back : List Token) → ms ++ xs ≡ more ++ t ∷ back → is_optional t ≡ true →
    (more ≡ []) ⊎ ((others : List Token) × (more ≡ ms ++ others) × (xs ≡ others ++ t ∷ back))
in_report DerivesReport.absent xs more t back e optional = inr (more, refl, e)
in_report (DerivesReport.present parts) xs [] t back e optional = inl refl
in_report (DerivesReport.present {a = a} (next fit (next i (next j (next k done))))) xs (x ∷ []) t back e optional =
    let same : a ≡ t = cc e in
    absurd (cc (optional, ap is_optional same, firm Number refl a i))
in_report (DerivesReport.present {b = b} (next fit (next i (next j (next k done))))) xs (x ∷ y ∷ []) t back e optional =
    let same : b ≡ t = cc e in
    absurd (cc (optional, ap is_optional same, firm Number refl b j))
in_report (DerivesReport.present {c = c} (next fit (next i (next j (next k done))))) xs (x ∷ y ∷ z ∷ []) t back e optional =
    let same : c ≡ t = cc e in
    absurd (cc (optional, ap is_optional same, firm Number refl c k))
in_report (DerivesReport.present {w = w} {a = a} {b = b} {c = c} parts) xs (x ∷ y ∷ z ∷ v ∷ more) t back e optional =
    let first : w ≡ x = cc e in
    let second : a ≡ y = cc e in
    let third : b ≡ z = cc e in
    let fourth : c ≡ v = cc e in
    inr (more, cc (first, second, third, fourth), cc e)

-- a field's item, with other options
field_goes : {a name b packet k c o : Token} {kind : FieldType} {masks stales : List Token} {mask stale : Option syntax.Number} →
    Phrase field_phrase (a ∷ name ∷ b ∷ packet ∷ k ∷ c ∷ o ∷ []) → field_type k.text ≡ Some kind →
    DerivesOption (word "mask") masks mask → DerivesOption (word "stale") stales stale →
    (front : List Token) → front ≡ a ∷ name ∷ b ∷ packet ∷ k ∷ c ∷ o ∷ masks ++ stales → GoesItem front
field_goes {kind = kind} parts is m s front e =
    subst GoesItem (sym e) (piece 0 (codes ";"), [], _, DerivesItem.field (piece 0 (codes ";")) parts is m s refl, refl)

goes_item : {ts : List Token} {item : Item} → DerivesItem ts item → (u : Token) (more front : List Token) → ts ≡ front ++ u ∷ more →
    is_optional u ≡ false → GoesItem front
goes_item {item = item} d u more front e none = (u, more, item, subst (λ xs. DerivesItem xs item) e d, none)

-- the shortest condition
small : Derives grammar.cond (piece 0 (codes "a") ∷ piece 0 (codes "<") ∷ piece 0 (codes "1") ∷ [])
    (syntax.Compare (piece 0 (codes "a")) Less (grammar.number_of (piece 0 (codes "1"))))
small = grammar.cond_one (grammar.xors_one (grammar.ands_one (grammar.nots_compare (phrase refl) refl)))

freed_item : {ts : List Token} {item : Item} → DerivesItem ts item →
    (front : List Token) (t : Token) (back : List Token) → ts ≡ front ++ t ∷ back → is_optional t ≡ true → GoesItem front
freed_item (DerivesItem.packet {a = a} {name = n} {b = b} {c = c} {m = m} {d = d} {l = l} {e = e} parts) front t back at optional =
    absurd (not_there (a ∷ n ∷ b ∷ c ∷ m ∷ d ∷ l ∷ e ∷ []) front t back (firm_phrase refl parts) at optional)
freed_item (DerivesItem.field {a = a} {name = n} {b = b} {packet = p} {k = k} {c = c} {o = o} {masks = ms} {stales = ss} e parts is_kind dm ds is_end) front t back at optional =
    go (where_is head (ms ++ (ss ++ e ∷ [])) front t back (ap (λ xs. head ++ xs) (sym (append_assoc ms ss (e ∷ []))) ∙ at))
  where
    head : List Token
    head = a ∷ n ∷ b ∷ p ∷ k ∷ c ∷ o ∷ []

    stale_at : (more others : List Token) → front ≡ head ++ more → more ≡ ms ++ others →
        (others ≡ []) ⊎ ((rest : List Token) × (others ≡ ss ++ rest) × (e ∷ [] ≡ rest ++ t ∷ back)) → GoesItem front
    stale_at more others is masks (inl none) =
        field_goes parts is_kind dm DerivesOption.absent front (is ∙ ap (λ xs. head ++ xs) (masks ∙ ap (λ xs. ms ++ xs) none))
    stale_at more others is masks (inr i) = absurd (single_firm e i.0 t back (firm (sign ";") refl e is_end) i.2 optional)

    mask_at : (more : List Token) → front ≡ head ++ more →
        (more ≡ []) ⊎ ((others : List Token) × (more ≡ ms ++ others) × (ss ++ e ∷ [] ≡ others ++ t ∷ back)) → GoesItem front
    mask_at more is (inl none) = field_goes parts is_kind DerivesOption.absent DerivesOption.absent front (is ∙ ap (λ xs. head ++ xs) none)
    mask_at more is (inr i) = stale_at more i.0 is i.1 (in_option ds (e ∷ []) i.0 t back i.2 optional)

    go : ((more : List Token) × (head ≡ front ++ t ∷ more)) ⊎ ((more : List Token) × (front ≡ head ++ more) × (ms ++ (ss ++ e ∷ []) ≡ more ++ t ∷ back)) →
        GoesItem front
    go (inl i) = absurd (not_there head front t i.0 (firm_phrase refl parts) i.1 optional)
    go (inr i) = mask_at i.0 i.1 (in_option dm (ss ++ e ∷ []) i.0 t back i.2 optional)
freed_item (DerivesItem.rule {a = a} {name = n} {s = s} {b = b} {f = f} {c = c} {q = q} {d = d} {l = l} {i = j} {t = x} {reports = rs} {conditions = cs} w e parts is_mode is_kind dr is_when dc is_end) front t back at optional =
    go (where_is head (rs ++ (w ∷ (cs ++ e ∷ []))) front t back (ap (λ xs. head ++ xs) (sym regroup) ∙ at))
  where
    head : List Token
    head = a ∷ n ∷ s ∷ b ∷ f ∷ c ∷ q ∷ d ∷ l ∷ j ∷ x ∷ []

    regroup : rs ++ w ∷ cs ++ e ∷ [] ≡ rs ++ (w ∷ (cs ++ e ∷ []))
    regroup = append_assoc rs (w ∷ cs) (e ∷ [])

    condition_at : (y : Token) (others : List Token) → front ≡ head ++ (rs ++ y ∷ others) → w ≡ y → Freed grammar.cond others → GoesItem front
    condition_at y others is same (inl i) =
        goes_item (DerivesItem.rule w (piece 0 (codes ";")) parts is_mode is_kind dr is_when i.1 refl) (piece 0 (codes ";")) [] front
        (ap (λ xs. xs ++ piece 0 (codes ";") ∷ []) (ap (λ (z : Token). head ++ (rs ++ z ∷ others)) same ∙ sym is)) refl
    condition_at y others is same (inr g) =
        goes_item (DerivesItem.rule w (piece 0 (codes ";")) parts is_mode is_kind dr is_when g.3 refl) g.0 (g.1 ++ piece 0 (codes ";") ∷ []) front
        (ap (λ xs. head ++ xs) again
        ∙ ap (λ xs. xs ++ (g.0 ∷ (g.1 ++ piece 0 (codes ";") ∷ []))) (ap (λ (z : Token). head ++ (rs ++ z ∷ others)) same ∙ sym is)) g.4
      where
        again : rs ++ w ∷ (others ++ g.0 ∷ g.1) ++ piece 0 (codes ";") ∷ [] ≡ (rs ++ w ∷ others) ++ (g.0 ∷ (g.1 ++ piece 0 (codes ";") ∷ []))
        again = simp append_assoc

    word_at : (more others : List Token) → front ≡ head ++ more → more ≡ rs ++ others → w ∷ (cs ++ e ∷ []) ≡ others ++ t ∷ back → GoesItem front
    word_at more [] is reports rest =
        let same : w ≡ t = cc rest in
        absurd (cc (optional, ap is_optional same, firm (word "when") refl w is_when))
    word_at more (y ∷ others) is reports rest = step (where_is cs (e ∷ []) others t back (cc rest))
      where
        same : w ≡ y
        same = cc rest

        step : ((k : List Token) × (cs ≡ others ++ t ∷ k)) ⊎ ((k : List Token) × (others ≡ cs ++ k) × (e ∷ [] ≡ k ++ t ∷ back)) → GoesItem front
        step (inl i) = condition_at y others (is ∙ ap (λ xs. head ++ xs) reports) same (freed dc others t i.0 i.1 optional)
        step (inr i) = absurd (single_firm e i.0 t back (firm (sign ";") refl e is_end) i.2 optional)

    report_at : (more : List Token) → front ≡ head ++ more →
        (more ≡ []) ⊎ ((others : List Token) × (more ≡ rs ++ others) × (w ∷ (cs ++ e ∷ []) ≡ others ++ t ∷ back)) → GoesItem front
    report_at more is (inl none) =
        goes_item (DerivesItem.rule (piece 0 (codes "when")) (piece 0 (codes ";")) parts is_mode is_kind DerivesReport.absent refl small refl)
        (piece 0 (codes "when")) (piece 0 (codes "a") ∷ piece 0 (codes "<") ∷ piece 0 (codes "1") ∷ piece 0 (codes ";") ∷ []) front
        (ap (λ xs. xs ++ piece 0 (codes "when") ∷ piece 0 (codes "a") ∷ piece 0 (codes "<") ∷ piece 0 (codes "1") ∷ piece 0 (codes ";") ∷ [])
        (ap (λ xs. head ++ xs) (sym none) ∙ sym is)) refl
    report_at more is (inr i) = word_at more i.0 is i.1 i.2

    go : ((more : List Token) × (head ≡ front ++ t ∷ more)) ⊎ ((more : List Token) × (front ≡ head ++ more) × (rs ++ (w ∷ (cs ++ e ∷ [])) ≡ more ++ t ∷ back)) →
        GoesItem front
    go (inl i) = absurd (not_there head front t i.0 (firm_phrase refl parts) i.1 optional)
    go (inr i) = report_at i.0 i.1 (in_report dr (w ∷ (cs ++ e ∷ [])) i.0 t back i.2 optional)

-- ---- files

-- a token that continues these and may not be left out
abbrev pub GoesOn : List Token → Type 0
GoesOn front = (t : Token) × IsViable (front ++ t ∷ []) × IsFalse (is_optional t)

-- a file begins so, and goes on so
abbrev GoesFile : List Token → Type 0
GoesFile front = (u : Token) × (more : List Token) × (items : List Item) × DerivesFile (front ++ u ∷ more) items × IsFalse (is_optional u)

on : (front : List Token) → GoesFile front → GoesOn front
on front g = (g.0, (g.1, g.2, subst (λ ts. DerivesFile ts g.2) (sym (append_assoc front (g.0 ∷ []) g.1)) g.3), g.4)

freed_file : {ts : List Token} {items : List Item} → DerivesFile ts items →
    (front : List Token) (t : Token) (back : List Token) → ts ≡ front ++ t ∷ back → is_optional t ≡ true → GoesFile front
freed_file DerivesFile.done [] t back at optional = absurd (cc at)
freed_file DerivesFile.done (x ∷ front) t back at optional = absurd (cc at)
freed_file (DerivesFile.next {ts = ts} {us = us} {item = item} {items = items} d others) front t back at optional =
    go (where_is ts us front t back at) (λ more e. freed_file others more t back e optional)
  where
    go : ((more : List Token) × (ts ≡ front ++ t ∷ more)) ⊎ ((more : List Token) × (front ≡ ts ++ more) × (us ≡ more ++ t ∷ back)) →
        ((more : List Token) → us ≡ more ++ t ∷ back → GoesFile more) → GoesFile front
    go (inl i) later =
        let g : GoesItem front = freed_item d front t i.0 i.1 optional in (
          g.0,
          g.1,
          g.2 ∷ [],
          subst (λ xs. DerivesFile xs (g.2 ∷ [])) (append-nil (front ++ g.0 ∷ g.1)) (DerivesFile.next g.3 DerivesFile.done),
          g.4,
        )
    go (inr i) later =
        let g : GoesFile i.0 = later i.0 i.2 in
        let whole : ts ++ (i.0 ++ g.0 ∷ g.1) ≡ front ++ g.0 ∷ g.1 =
        sym (append_assoc ts i.0 (g.0 ∷ g.1)) ∙ ap (λ xs. xs ++ g.0 ∷ g.1) (sym i.1) in
        (g.0, g.1, item ∷ g.2, subst (λ xs. DerivesFile xs (item ∷ g.2)) whole (DerivesFile.next d g.3), g.4)

-- a whole file may be followed by a packet
a_packet : List Token
a_packet = piece 0 (codes "packet") ∷ piece 0 (codes "a") ∷ piece 0 (codes "=") ∷ piece 0 (codes "mid") ∷ piece 0 (codes "1")
    ∷ piece 0 (codes "length") ∷ piece 0 (codes "1") ∷ piece 0 (codes ";") ∷ []

then_packet : {ts : List Token} {items : List Item} → DerivesFile ts items → (is : List Item) × DerivesFile (ts ++ a_packet) is
unfolding a_packet
then_packet DerivesFile.done = (_ ∷ [], DerivesFile.next (DerivesItem.packet (phrase refl)) DerivesFile.done)
then_packet (DerivesFile.next {ts = ts} {us = us} {item = item} d others) =
    let f = then_packet others in
    (item ∷ f.0, subst (λ xs. DerivesFile xs (item ∷ f.0)) (sym (append_assoc ts us a_packet)) (DerivesFile.next d f.1))

pub goes_on : (front : List Token) → IsViable front → GoesOn front
unfolding a_packet
goes_on front ([], items, d) =
    let f = then_packet (subst (λ xs. DerivesFile xs items) (append-nil front) d) in
    on front (piece 0 (codes "packet"), _, f.0, f.1, refl)
goes_on front (t ∷ back, items, d) = go (is_optional t) refl
  where
    go : (b : Bool) → is_optional t ≡ b → GoesOn front
    go false is = on front (t, back, items, d, is)
    go true is = on front (freed_file d front t back refl is)
