-- A way to compare two runs, rule by rule, and what samples and commands keep of it.
use Rattle.std.proofs.Common.{◌≡◌, ℕ, zero, suc, ◌+◌, ◌≤◌, false, List, [], ◌∷◌, ◌++◌, refl, ap, sym, subst, arith}
use Rattle.std.specs.Prelude.{⊤}
use Rattle.lc_model.specs.declared.mode.LcMode.{LcMode}
use Rattle.lc_model.specs.declared.mode.LcMode.TheVariants as mode
use Rattle.lc_model.specs.declared.command.SampleRequest.{SampleRequest}
use Rattle.lc_model.specs.Events.Request.{Request, Event, Sequence, Housekeeping}
use Rattle.lc_model.specs.LimitChecker.Watch.{History}
use Rattle.lc_model.specs.LimitChecker.Steps.{is_disabled}
use Rattle.lc_model.proofs.Host.SameCore.{numbers_in}
use Rattle.rule_changes.proofs.RunsSeats.{Seat, Change, seat_sampled, seats_sampled, changed, all_changed, one_changed}

-- How an old run and a new one are compared. A debt is the number of requests that the new run may make later without the old one:
-- 1 for a rule that is still active while the old one is passive. Where both runs request the same it counts for nothing.
pub record Comparison : Type 1 where
  -- the modes in which rules are sampled
  pub Allows : LcMode → Type 0
  pub active : Allows mode.Active
  -- the old run requests the first sequences while the new one requests the second, with this debt before and this one after
  pub Pays : ℕ → ℕ → List ℕ → List ℕ → Type 0
  pub nothing : (d e : ℕ) → e ≤ d → Pays d e [] []
  pub beside : (d e d' e' : ℕ) (xs ys xs' ys' : List ℕ) → Pays d e xs ys → Pays d' e' xs' ys' → Pays (d + d') (e + e') (xs ++ xs') (ys ++ ys')
  pub after : (d e f : ℕ) (xs ys xs' ys' : List ℕ) → Pays d e xs ys → Pays e f xs' ys' → Pays d f (xs ++ xs') (ys ++ ys')
  -- an old rule and a new one of the same number, with their debt; a rule whose number only the old text has, or only the new one
  pub Two : ℕ → Seat → Seat → Type 0
  pub OldOnly : Seat → Type 0
  pub NewOnly : Seat → Type 0
  pub two_sampled : (request : SampleRequest) (mode : LcMode) (h : History) (n d : ℕ) (x y : Seat) → Allows mode → is_disabled mode ≡ false → Two d x y →
      (e : ℕ) × Two e (x.0, (seat_sampled request mode h n x).0) (y.0, (seat_sampled request mode h n y).0)
      × Pays d e (numbers_in (seat_sampled request mode h n x).1) (numbers_in (seat_sampled request mode h n y).1)
  pub old_only_sampled : (request : SampleRequest) (mode : LcMode) (h : History) (n : ℕ) (x : Seat) → OldOnly x →
      OldOnly (x.0, (seat_sampled request mode h n x).0) × Pays 0 0 (numbers_in (seat_sampled request mode h n x).1) []
  pub new_only_sampled : (request : SampleRequest) (mode : LcMode) (h : History) (n : ℕ) (y : Seat) → NewOnly y →
      NewOnly (y.0, (seat_sampled request mode h n y).0) × Pays 0 0 [] (numbers_in (seat_sampled request mode h n y).1)
  pub two_changed : (change : Change) (d : ℕ) (x y : Seat) → Two d x y →
      (e : ℕ) × (e ≤ d) × Two e (x.0, changed change x.1) (y.0, changed change y.1)
  pub old_only_changed : (change : Change) (x : Seat) → OldOnly x → OldOnly (x.0, changed change x.1)
  pub new_only_changed : (change : Change) (y : Seat) → NewOnly y → NewOnly (y.0, changed change y.1)

-- the same from record to record
abbrev pub PaysOver : Comparison → ℕ → List (List Request) → List (List Request) → Type 0
PaysOver c d [] [] = ⊤
PaysOver c d (old ∷ olds) (new ∷ news) = (e : ℕ) × c.Pays d e (numbers_in old) (numbers_in new) × PaysOver c e olds news
PaysOver c d olds news = ⊥

pub numbers-append : (xs ys : List Request) → numbers_in (xs ++ ys) ≡ numbers_in xs ++ numbers_in ys
numbers-append [] ys = refl
numbers-append (Event sender id kind text ∷ xs) ys = numbers-append xs ys
numbers-append (Sequence number ∷ xs) ys = ap (λ ns. number ∷ ns) (numbers-append xs ys)
numbers-append (Housekeeping mode points ∷ xs) ys = numbers-append xs ys

module _ (c : Comparison) where
  -- rules by number, with the debt of all
  abbrev pub Seats : ℕ → List Seat → List Seat → Type 0
  Seats d [] [] = d ≡ 0
  Seats d (x ∷ xs) [] = c.OldOnly x × Seats d xs []
  Seats d [] (y ∷ ys) = c.NewOnly y × Seats d [] ys
  Seats d (x ∷ xs) (y ∷ ys) = (e f : ℕ) × (d ≡ e + f) × c.Two e x y × Seats f xs ys

  pub pays_numbers : (d e : ℕ) (xs xs' ys ys' : List ℕ) → xs' ≡ xs → ys' ≡ ys → c.Pays d e xs ys → c.Pays d e xs' ys'
  pays_numbers d e xs xs' ys ys' same same' h = subst (λ ns. c.Pays d e xs' ns) (sym same') (subst (λ ns. c.Pays d e ns ys) (sym same) h)

  pays_more : (d e : ℕ) (xs ys xs' ys' : List ℕ) → c.Pays 0 0 xs ys → c.Pays d e xs' ys' → c.Pays d e (xs ++ xs') (ys ++ ys')
  pays_more d e xs ys xs' ys' h h' =
      let at_d : 0 + d ≡ d = omega arith in
      let at_e : 0 + e ≡ e = omega arith in
      subst (λ n. c.Pays n e (xs ++ xs') (ys ++ ys')) at_d (subst (λ n. c.Pays (0 + d) n (xs ++ xs') (ys ++ ys')) at_e (c.beside 0 0 d e xs ys xs' ys' h h'))

  -- the rules afterwards, with the debt and what was requested
  abbrev pub SampleOutcome : ℕ → List Seat × List Request → List Seat × List Request → Type 0
  SampleOutcome d s t = (e : ℕ) × Seats e s.0 t.0 × c.Pays d e (numbers_in s.1) (numbers_in t.1)

  module _ (request : SampleRequest) (mode : LcMode) (h : History) (allowed : c.Allows mode) (enabled : is_disabled mode ≡ false) where
    pub sampled_beside : (n d : ℕ) (xs ys : List Seat) → Seats d xs ys → SampleOutcome d (seats_sampled request mode h n xs) (seats_sampled request mode h n ys)
    sampled_beside n d [] [] s = (0, refl, subst (λ k. c.Pays k 0 [] []) (sym s) (c.nothing 0 0 (omega arith)))
    sampled_beside n d (x ∷ xs) [] s =
        let here : List Request = (seat_sampled request mode h n x).1 in
        let others : List Request = (seats_sampled request mode h (n + 1) xs).1 in
        let first = c.old_only_sampled request mode h n x s.0 in
        let rest = sampled_beside (n + 1) d xs [] s.1 in (
          rest.0,
          (first.0, rest.1),
          pays_numbers d rest.0 (numbers_in here ++ numbers_in others) (numbers_in (here ++ others)) [] [] (numbers-append here others) refl
              (pays_more d rest.0 (numbers_in here) [] (numbers_in others) [] first.1 rest.2),
        )
    sampled_beside n d [] (y ∷ ys) s =
        let here : List Request = (seat_sampled request mode h n y).1 in
        let others : List Request = (seats_sampled request mode h (n + 1) ys).1 in
        let first = c.new_only_sampled request mode h n y s.0 in
        let rest = sampled_beside (n + 1) d [] ys s.1 in (
          rest.0,
          (first.0, rest.1),
          pays_numbers d rest.0 [] [] (numbers_in here ++ numbers_in others) (numbers_in (here ++ others)) refl (numbers-append here others)
              (pays_more d rest.0 [] (numbers_in here) [] (numbers_in others) first.1 rest.2),
        )
    sampled_beside n d (x ∷ xs) (y ∷ ys) (e, f, sum, two, others) =
        let here : List Request = (seat_sampled request mode h n x).1 in
        let there : List Request = (seat_sampled request mode h n y).1 in
        let here' : List Request = (seats_sampled request mode h (n + 1) xs).1 in
        let there' : List Request = (seats_sampled request mode h (n + 1) ys).1 in
        let first = c.two_sampled request mode h n e x y allowed enabled two in
        let rest = sampled_beside (n + 1) f xs ys others in (
          first.0 + rest.0,
          (first.0, rest.0, refl, first.1, rest.1),
          subst (λ k. c.Pays k (first.0 + rest.0) (numbers_in (here ++ here')) (numbers_in (there ++ there'))) (sym sum)
              (pays_numbers (e + f) (first.0 + rest.0) (numbers_in here ++ numbers_in here') (numbers_in (here ++ here')) (numbers_in there ++ numbers_in there') (numbers_in (there ++ there'))
              (numbers-append here here') (numbers-append there there')
              (c.beside e first.0 f rest.0 (numbers_in here) (numbers_in there) (numbers_in here') (numbers_in there') first.2 rest.2)),
        )

  -- the rules afterwards, with no more debt
  abbrev pub WithLessDebt : ℕ → List Seat → List Seat → Type 0
  WithLessDebt d xs ys = (e : ℕ) × (e ≤ d) × Seats e xs ys

  pub all_beside : (change : Change) (d : ℕ) (xs ys : List Seat) → Seats d xs ys → WithLessDebt d (all_changed change xs) (all_changed change ys)
  all_beside change d [] [] s = (d, omega arith, s)
  all_beside change d (x ∷ xs) [] s = let rest = all_beside change d xs [] s.1 in (rest.0, rest.1, (c.old_only_changed change x s.0, rest.2))
  all_beside change d [] (y ∷ ys) s = let rest = all_beside change d [] ys s.1 in (rest.0, rest.1, (c.new_only_changed change y s.0, rest.2))
  all_beside change d (x ∷ xs) (y ∷ ys) (e, f, sum, two, others) =
      let first = c.two_changed change e x y two in
      let rest = all_beside change f xs ys others in
      (first.0 + rest.0, omega (arith, sum, first.1, rest.1), (first.0, rest.0, refl, first.2, rest.2))

  pub one_beside : (change : Change) (index d : ℕ) (xs ys : List Seat) → Seats d xs ys → WithLessDebt d (one_changed change index xs) (one_changed change index ys)
  one_beside change index d [] [] s = (d, omega arith, s)
  one_beside change zero d (x ∷ xs) [] s = (d, omega arith, (c.old_only_changed change x s.0, s.1))
  one_beside change (suc index) d (x ∷ xs) [] s = let rest = one_beside change index d xs [] s.1 in (rest.0, rest.1, (s.0, rest.2))
  one_beside change zero d [] (y ∷ ys) s = (d, omega arith, (c.new_only_changed change y s.0, s.1))
  one_beside change (suc index) d [] (y ∷ ys) s = let rest = one_beside change index d [] ys s.1 in (rest.0, rest.1, (s.0, rest.2))
  one_beside change zero d (x ∷ xs) (y ∷ ys) (e, f, sum, two, others) =
      let first = c.two_changed change e x y two in
      (first.0 + f, omega (arith, sum, first.1), (first.0, f, refl, first.2, others))
  one_beside change (suc index) d (x ∷ xs) (y ∷ ys) (e, f, sum, two, others) =
      let rest = one_beside change index f xs ys others in
      (e + rest.0, omega (arith, sum, rest.1), (e, rest.0, refl, two, rest.2))
