-- Tokens have at most one fault of the parser, and none where they parse.
use Rattle.std.proofs.Common.{◌≡◌, refl, sym, ◌∙◌, ap, subst, ℕ, ◌⊎◌, inl, inr, Bool, true, false, List, [], ◌∷◌, ◌++◌, append-nil, append_assoc}
use Rattle.lc_model.specs.Text.Token.{Token}
use Rattle.lc_model.specs.Text.Syntax.{Item}
use Rattle.lc_model.specs.Text.Class.{Class, fits}
use Rattle.lc_model.specs.Text.Grammar.{DerivesFile}
use Rattle.lc_model.specs.Text.Reading.{IsShallow, Parses, IsViable, Wants, ParseFault, Expected, TooNested, HasParseFault, unexpected, ends_early, nested}
use Rattle.lc_model.specs.Laws.Reading.{OneParseFault}
use Rattle.lc_model.proofs.Texts.OneClass.{one_class}
use Rattle.lc_model.proofs.Texts.Continued.{GoesOn, goes_on}

-- what holds of a list holds of its fronts
shallow_front : (xs ys : List Token) → IsShallow (xs ++ ys) → IsShallow xs
shallow_front xs ys shallow front inside back w e is_when closed = shallow front inside (back ++ ys) w whole is_when closed
  where
    whole : xs ++ ys ≡ front ++ w ∷ inside ++ (back ++ ys)
    whole = ap (λ ts. ts ++ ys) e ∙ simp append_assoc

viable_front : (xs ys : List Token) → IsViable (xs ++ ys) → IsViable xs
viable_front xs ys v = (ys ++ v.0, v.1, subst (λ ts. DerivesFile ts v.1) (append_assoc xs ys v.0) v.2)

-- a front with a token at its end is viable, too
viable_with : (front : List Token) (t : Token) (back : List Token) → IsViable (front ++ t ∷ back) → IsViable (front ++ t ∷ [])
viable_with front t back v = viable_front (front ++ t ∷ []) back (subst IsViable (sym (append_assoc front (t ∷ []) back)) v)

shallow_with : (front : List Token) (t : Token) (back : List Token) → IsShallow (front ++ t ∷ back) → IsShallow (front ++ t ∷ [])
shallow_with front t back s = shallow_front (front ++ t ∷ []) back (subst IsShallow (sym (append_assoc front (t ∷ []) back)) s)

-- one place in a list is before another, or is it, or is behind it
abbrev Places : (f g : List Token) (t u : Token) → Type 0
Places f g t u = ((more : List Token) × (g ≡ f ++ t ∷ more)) ⊎ (((f ≡ g) × (t ≡ u)) ⊎ ((more : List Token) × (f ≡ g ++ u ∷ more)))

places : (f : List Token) (t : Token) (b g : List Token) (u : Token) (c : List Token) → f ++ t ∷ b ≡ g ++ u ∷ c → Places f g t u
places [] t b [] u c e = inr (inl (refl, cc e))
places [] t b (y ∷ g) u c e = let same : y ≡ t = sym (cc e) in inl (g, ap (λ (x : Token). x ∷ g) same)
places (x ∷ f) t b [] u c e = let same : x ≡ u = cc e in inr (inr (f, ap (λ (x : Token). x ∷ f) same))
places (x ∷ f) t b (y ∷ g) u c e = go (places f t b g u c (cc e))
  where
    same : x ≡ y
    same = cc e

    go : Places f g t u → Places (x ∷ f) (y ∷ g) t u
    go (inl i) = inl (i.0, cc (same, i.1))
    go (inr (inl i)) = inr (inl (cc (same, i.0), i.1))
    go (inr (inr i)) = inr (inr (i.0, cc (same, i.1)))

-- ---- what is wanted

alike : (a b : Bool) → (a ≡ true → b ≡ true) → (b ≡ true → a ≡ true) → a ≡ b
alike true b f g = sym (f refl)
alike false true f g = g refl
alike false false f g = refl

one_wanted : (front : List Token) (what other : Class) → IsViable front → Wants front what → Wants front other → what ≡ other
one_wanted front what other viable wants wants' = one_class what other same goes.0.text ((wants goes.0).1 (goes.1, goes.2))
  where
    goes : GoesOn front
    goes = goes_on front viable

    same : (text : List ℕ) → fits what text ≡ fits other text
    same text =
        let t : Token = record { at = 0; text = text } in
        alike (fits what text) (fits other text) (λ fit. (wants' t).1 ((wants t).0 fit)) (λ fit. (wants t).1 ((wants' t).0 fit))

-- ---- two faults

-- a token that continues no reading stands before no front that is continued
before_viable : (f g : List Token) (t : Token) → ¬ IsViable (f ++ t ∷ []) → IsViable g → (more : List Token) → g ≡ f ++ t ∷ more → ⊥
before_viable f g t stops viable more e = stops (viable_with f t more (subst IsViable e viable))

before_shallow : (f g : List Token) (t : Token) → ¬ IsShallow (f ++ t ∷ []) → IsShallow g → (more : List Token) → g ≡ f ++ t ∷ more → ⊥
before_shallow f g t deep shallow more e = deep (shallow_with f t more (subst IsShallow e shallow))

two_faults : {end : ℕ} {ts us : List Token} {fault other : ParseFault} → HasParseFault end ts fault → HasParseFault end us other → ts ≡ us → fault ≡ other
two_faults (unexpected f b t what viable stops shallow wants) (unexpected g c u what' viable' stops' shallow' wants') e = go (places f t b g u c e)
  where
    go : Places f g t u → Expected t.at what ≡ Expected u.at what'
    go (inl i) = absurd (before_viable f g t stops viable' i.0 i.1)
    go (inr (inr i)) = absurd (before_viable g f u stops' viable i.0 i.1)
    go (inr (inl i)) =
        let same : what ≡ what' = one_wanted f what what' viable wants (subst (λ ts. Wants ts what') (sym i.0) wants') in
        λ j. Expected (i.1 j).at (same j)
two_faults (unexpected f b t what viable stops shallow wants) (ends_early what' viable' none shallow' wants') e =
    absurd (before_viable f _ t stops viable' b (sym e))
two_faults (ends_early what' viable' none shallow' wants') (unexpected f b t what viable stops shallow wants) e =
    absurd (before_viable f _ t stops viable' b e)
two_faults {end = end} (ends_early {tokens = ts} what viable none shallow wants) (ends_early what' viable' none' shallow' wants') e =
    ap (Expected end) (one_wanted ts what what' viable wants (subst (λ ts. Wants ts what') (sym e) wants'))
two_faults (unexpected f b t what viable stops shallow wants) (nested g c u viable' shallow' deep) e = go (places f t b g u c e)
  where
    go : Places f g t u → Expected t.at what ≡ TooNested u.at
    go (inl i) = absurd (before_viable f (g ++ u ∷ []) t stops viable' (i.0 ++ u ∷ []) (ap (λ ts. ts ++ u ∷ []) i.1 ∙ append_assoc f (t ∷ i.0) (u ∷ [])))
    go (inr (inr i)) = absurd (before_shallow g f u deep shallow i.0 i.1)
    go (inr (inl i)) = absurd (stops (subst (λ ts. IsViable ts) (λ j. sym i.0 j ++ sym i.1 j ∷ []) viable'))
two_faults (nested g c u viable' shallow' deep) (unexpected f b t what viable stops shallow wants) e = go (places f t b g u c (sym e))
  where
    go : Places f g t u → TooNested u.at ≡ Expected t.at what
    go (inl i) = absurd (before_viable f (g ++ u ∷ []) t stops viable' (i.0 ++ u ∷ []) (ap (λ ts. ts ++ u ∷ []) i.1 ∙ append_assoc f (t ∷ i.0) (u ∷ [])))
    go (inr (inr i)) = absurd (before_shallow g f u deep shallow i.0 i.1)
    go (inr (inl i)) = absurd (stops (subst (λ ts. IsViable ts) (λ j. sym i.0 j ++ sym i.1 j ∷ []) viable'))
two_faults (ends_early what viable none shallow wants) (nested g c u viable' shallow' deep) e = absurd (before_shallow g _ u deep shallow c e)
two_faults (nested g c u viable' shallow' deep) (ends_early what viable none shallow wants) e = absurd (before_shallow g _ u deep shallow c (sym e))
two_faults (nested f b t viable shallow deep) (nested g c u viable' shallow' deep') e = go (places f t b g u c e)
  where
    go : Places f g t u → TooNested t.at ≡ TooNested u.at
    go (inl i) = absurd (before_shallow f g t deep shallow' i.0 i.1)
    go (inr (inr i)) = absurd (before_shallow g f u deep' shallow i.0 i.1)
    go (inr (inl i)) = ap (λ (x : Token). TooNested x.at) i.1

pub one_parse_fault : OneParseFault
one_parse_fault end tokens fault other h h' = two_faults h h' refl

-- tokens that parse have no fault
parses_or_fails : {end : ℕ} {ts us : List Token} {items : List Item} {fault : ParseFault} → Parses ts items → HasParseFault end us fault → ts ≡ us → ⊥
parses_or_fails {ts = ts} {items = items} parses (unexpected f b t what viable stops shallow wants) e =
    stops (viable_with f t b ([], items, subst (λ xs. DerivesFile xs items) (e ∙ sym (append-nil (f ++ t ∷ b))) parses.0))
parses_or_fails {items = items} parses (ends_early what viable none shallow wants) e = none items (subst (λ xs. DerivesFile xs items) e parses.0)
parses_or_fails parses (nested f b t viable shallow deep) e = deep (shallow_with f t b (subst IsShallow e parses.1))

pub parses_has_no_fault : {end : ℕ} {tokens : List Token} {items : List Item} {fault : ParseFault} →
    Parses tokens items → HasParseFault end tokens fault → ⊥
parses_has_no_fault parses fault = parses_or_fails parses fault refl
