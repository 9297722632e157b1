-- Two Limit Checkers, one over old tables and one over new ones: what they have in common, the start, and commands.
use Rattle.std.proofs.Common.{◌≡◌, ℕ, ◌≤◌, Bool, true, false, ◌==◌, List, [], ◌∷◌, refl, ap, sym, ◌∙◌, subst, arith, Option, Some, None, Result, Ok, Err, if◌then◌else◌, IsTrue}
use Rattle.lc_model.specs.declared.kind.Kind.{Kind}
use Rattle.lc_model.specs.declared.kind.Kind.TheVariants.{Wdt, Adt}
use Rattle.lc_model.specs.declared.mode.LcMode.{LcMode}
use Rattle.lc_model.specs.declared.mode.LcMode.TheVariants as mode
use Rattle.lc_model.specs.declared.mode.ApMode.{ApMode}
use Rattle.lc_model.specs.Name.{Name}
use Rattle.lc_model.specs.Packet.{function_code}
use Rattle.lc_model.specs.Refusal.{Refusal, ◌>>=◌, found}
use Rattle.lc_model.specs.Tables.Slot.{Slot, no_images, in_use}
use Rattle.lc_model.specs.Tables.Interpretation.{FileMeaning, Pair, Interpretation}
use Rattle.lc_model.specs.Events.Request.{Request, lc_command_done}
use Rattle.lc_model.specs.Command.{LcCommand, NoOperation, SetMode, SetState, TurnPermanentlyOff, all_points, mode_numbered, state_numbered, lc_command_in}
use Rattle.lc_model.specs.LimitChecker.Watch.{History}
use Rattle.lc_model.specs.LimitChecker.Past.{Past}
use Rattle.lc_model.specs.LimitChecker.Steps.{Point, LcStep, by_lists, default_image, default_pair, one_set, settable, turned_permanently_off, all_set, states_set, lc_obeyed, lc_commanded, unless_refused, started_with, lc_start}
use Rattle.lc_model.specs.Host.World.{Lc}
use Rattle.lc_model.specs.Laws.Correspondence.{BothOrNone, SoundAlike, Agrees}
use Rattle.lc_model.proofs.Host.SameCore.{numbers_in}
use Rattle.rule_changes.proofs.RunsSeats.{Seat, rules_of, points_of, fresh_seats, fresh_points_of, Change, To, Off, all_changed, one_changed, unless, all_rules, one_rules, as_all_set, as_settable, as_turned_off, as_unsettable}
use Rattle.rule_changes.proofs.RunsComparison.{Comparison, Seats, all_beside, one_beside, pays_numbers}
use Rattle.rule_changes.proofs.RunsSlots as slots
use Rattle.rule_changes.proofs.RunsOneChecker.{shape, rules_in, used_rules, lc_of, set, set_points, set_silent}

module _ {A B : Type 0} (alike : A → B → Type 0) (images : Interpretation A) (others : Interpretation B) (c : Comparison) (agree : Agrees alike (shape images) (shape others)) where
  abbrev pub Slots : Kind → Slot A → Slot B → Type 0
  Slots kind = slots.Slots alike (shape images) (shape others) agree kind

  abbrev pub Pairs : Pair A → Pair B → Type 0
  Pairs = slots.Pairs alike (shape images) (shape others) agree

  -- what two Limit Checkers have in common, with the debt of their rules
  pub record Station (d : ℕ) : Type 0 where
    pub mode : LcMode
    pub allowed : c.Allows mode
    pub watch : History
    pub wdt : Slot A
    pub adt : Slot A
    pub seats : List Seat
    pub their_wdt : Slot B
    pub their_adt : Slot B
    pub their_seats : List Seat
    pub wdts : Slots Wdt wdt their_wdt
    pub adts : Slots Adt adt their_adt
    pub rules : rules_of seats ≡ rules_in images wdt.active adt.active
    pub their_rules : rules_of their_seats ≡ rules_in others their_wdt.active their_adt.active
    pub beside : Seats c d seats their_seats

  abbrev pub old_of : (d : ℕ) → Station d → Lc A
  old_of d s = record { mode = s.mode; wdt = s.wdt; adt = s.adt; watch = s.watch; points = points_of s.seats }

  abbrev pub new_of : (d : ℕ) → Station d → Lc B
  new_of d s = record { mode = s.mode; wdt = s.their_wdt; adt = s.their_adt; watch = s.watch; points = points_of s.their_seats }

  abbrev pub Lcs : ℕ → Lc A → Lc B → Type 0
  Lcs d a b = (s : Station d) × (old_of d s ≡ a) × (new_of d s ≡ b)

  pub settled : (d : ℕ) (a : Lc A) (b : Lc B) (P : Lc A → Lc B → Type 0) → ((s : Station d) → P (old_of d s) (new_of d s)) → Lcs d a b → P a b
  settled d a b P at h = subst (P a) h.2 (subst (λ x. P x (new_of d h.0)) h.1 (at h.0))

  abbrev pub LcSteps : ℕ → LcStep A History Past → LcStep B History Past → Type 0
  LcSteps d s t = (e : ℕ) × Lcs e s.0 t.0 × c.Pays d e (numbers_in s.1) (numbers_in t.1)

  pub at_rest : (d : ℕ) → c.Pays d d [] []
  at_rest d = c.nothing d d (omega arith)

  -- `kin`: the rules of two pairs are compared, as they are at the start
  module _ (kin : (p : Pair A) (q : Pair B) → SoundAlike alike (shape images) (shape others) p q → IsTrue (images.matches p) →
      Seats c 0 (fresh_seats (images.rules p)) (fresh_seats (others.rules q))) where
    -- ---- the start

    abbrev without_tables : Station 0
    without_tables = record {
      mode = mode.Active;
      allowed = c.active;
      watch = [];
      wdt = no_images;
      adt = no_images;
      seats = [];
      their_wdt = no_images;
      their_adt = no_images;
      their_seats = [];
      wdts = record { active = tt; waiting = tt };
      adts = record { active = tt; waiting = tt };
      rules = refl;
      their_rules = refl;
      beside = refl;
    }

    abbrev with_tables : (p : Pair A) (q : Pair B) → Pairs p q → Station 0
    with_tables p q h = record {
      mode = mode.Active;
      allowed = c.active;
      watch = [];
      wdt = in_use p.wdt;
      adt = in_use p.adt;
      seats = fresh_seats (images.rules p);
      their_wdt = in_use q.wdt;
      their_adt = in_use q.adt;
      their_seats = fresh_seats (others.rules q);
      wdts = record { active = (h.0.wdt, h.0.wdt_sound); waiting = tt };
      adts = record { active = (h.0.adt, h.0.adt_sound); waiting = tt };
      rules = used_rules images p h.1;
      their_rules = used_rules others q (sym (agree.matches p q h.0) ∙ h.1);
      beside = kin p q h.0 h.1;
    }

    pub start_beside : (d : ℕ) (fs : List (Name × FileMeaning A)) (gs : List (Name × FileMeaning B)) → slots.Files alike (shape images) (shape others) agree fs gs →
        LcSteps d (lc_start by_lists images fs) (lc_start by_lists others gs)
    start_beside d fs gs h =
        by_pair (default_pair images fs) (default_pair others gs)
        (slots.paired_alike alike (shape images) (shape others) agree (default_image images Wdt fs) (default_image images Adt fs) (default_image others Wdt gs) (default_image others Adt gs)
        (slots.default_alike alike (shape images) (shape others) agree Wdt fs gs h) (slots.default_alike alike (shape images) (shape others) agree Adt fs gs h))
      where
        by_pair : (o : Option (Pair A)) (p : Option (Pair B)) → BothOrNone Pairs o p → LcSteps d (started_with by_lists images o) (started_with by_lists others p)
        by_pair None None h = (0, (without_tables, refl, refl), c.nothing d 0 (omega arith))
        by_pair None (Some q) h = absurd h
        by_pair (Some p) None h = absurd h
        by_pair (Some p) (Some q) h = (
          0,
          (
            with_tables p q h,
            ap (lc_of images mode.Active (in_use p.wdt) (in_use p.adt) []) (sym (fresh_points_of (images.rules p))),
            ap (lc_of others mode.Active (in_use q.wdt) (in_use q.adt) []) (sym (fresh_points_of (others.rules q))),
          ),
          c.nothing d 0 (omega arith),
        )

  -- ---- commands

  module _ (d : ℕ) (s : Station d) where
    abbrev pub a : Lc A
    a = old_of d s

    abbrev pub b : Lc B
    b = new_of d s

    pub unchanged : Lcs d a b
    unchanged = (s, refl, refl)

    pub idle : (xs ys : List Request) → numbers_in xs ≡ [] → numbers_in ys ≡ [] → c.Pays d d (numbers_in xs) (numbers_in ys)
    idle xs ys e e' = pays_numbers c d d [] (numbers_in xs) [] (numbers_in ys) e e' (at_rest d)

    -- rules with other points
    abbrev pub with_seats : (e : ℕ) (xs ys : List Seat) → rules_of xs ≡ rules_of s.seats → rules_of ys ≡ rules_of s.their_seats → Seats c e xs ys → Station e
    with_seats e xs ys same same' beside = record {
      mode = s.mode;
      allowed = s.allowed;
      watch = s.watch;
      wdt = s.wdt;
      adt = s.adt;
      seats = xs;
      their_wdt = s.their_wdt;
      their_adt = s.their_adt;
      their_seats = ys;
      wdts = s.wdts;
      adts = s.adts;
      rules = same ∙ s.rules;
      their_rules = same' ∙ s.their_rules;
      beside = beside;
    }

    set_beside : (code : ℕ) (e : ℕ) (xs ys : List Seat) → rules_of xs ≡ rules_of s.seats → rules_of ys ≡ rules_of s.their_seats → e ≤ d → Seats c e xs ys →
        (r q : Result (List (Point Past)) Refusal) → unless (points_of s.seats) r ≡ points_of xs → unless (points_of s.their_seats) q ≡ points_of ys →
        LcSteps d (set images a r code) (set others b q code)
    set_beside code e xs ys same same' less beside r q is is' = (
      e,
      (
        with_seats e xs ys same same' beside,
        ap (λ points. record a { points = points }) (sym is) ∙ sym (set_points images a r code),
        ap (λ points. record b { points = points }) (sym is') ∙ sym (set_points others b q code),
      ),
      pays_numbers c d e [] (numbers_in (set images a r code).1) [] (numbers_in (set others b q code).1) (set_silent images a r code) (set_silent others b q code) (c.nothing d e less),
    )

    changed_all : (code : ℕ) (new : ApMode) → LcSteps d (set images a (Ok (all_set new a.points)) code) (set others b (Ok (all_set new b.points)) code)
    changed_all code new =
        let kept = all_beside c (To new) d s.seats s.their_seats s.beside in
        set_beside code kept.0 (all_changed (To new) s.seats) (all_changed (To new) s.their_seats) (all_rules (To new) s.seats) (all_rules (To new) s.their_seats) kept.1 kept.2
        (Ok (all_set new a.points)) (Ok (all_set new b.points)) (as_all_set new s.seats) (as_all_set new s.their_seats)

    changed_one : (code : ℕ) (change : Change) (index : ℕ) (r q : Result (List (Point Past)) Refusal) →
        unless (points_of s.seats) r ≡ points_of (one_changed change index s.seats) → unless (points_of s.their_seats) q ≡ points_of (one_changed change index s.their_seats) →
        LcSteps d (set images a r code) (set others b q code)
    changed_one code change index r q is is' =
        let kept = one_beside c change index d s.seats s.their_seats s.beside in
        set_beside code kept.0 (one_changed change index s.seats) (one_changed change index s.their_seats) (one_rules change index s.seats) (one_rules change index s.their_seats)
        kept.1 kept.2 r q is is'

    changed_none : (code : ℕ) (r q : Result (List (Point Past)) Refusal) → unless (points_of s.seats) r ≡ points_of s.seats → unless (points_of s.their_seats) q ≡ points_of s.their_seats →
        LcSteps d (set images a r code) (set others b q code)
    changed_none code r q is is' = set_beside code d s.seats s.their_seats refl refl (omega arith) s.beside r q is is'

    states_beside : (code index number : ℕ) → LcSteps d (set images a (states_set index number a.points) code) (set others b (states_set index number b.points) code)
    states_beside code index number = by_tests (index == all_points) (state_numbered number) refl
      where
        by_tests : (every : Bool) (o : Option ApMode) → state_numbered number ≡ o →
            LcSteps d (set images a (if every then (found o 154 >>= (λ new. Ok (all_set new a.points))) else one_set index (settable number) a.points) code)
            (set others b (if every then (found o 154 >>= (λ new. Ok (all_set new b.points))) else one_set index (settable number) b.points) code)
        by_tests true None e = changed_none code (Err (154 ∷ [])) (Err (154 ∷ [])) refl refl
        by_tests true (Some new) e = changed_all code new
        by_tests false None e =
            changed_none code (one_set index (settable number) a.points) (one_set index (settable number) b.points)
            (as_unsettable number e index a.points) (as_unsettable number e index b.points)
        by_tests false (Some new) e =
            changed_one code (To new) index (one_set index (settable number) a.points) (one_set index (settable number) b.points)
            (as_settable number new e index s.seats) (as_settable number new e index s.their_seats)

    -- the command leaves the mode one in which both are compared
    abbrev pub IsFair : List ℕ → Type 0
    IsFair packet = (number : ℕ) (m : LcMode) → lc_command_in packet ≡ Ok (SetMode number) → mode_numbered number ≡ Some m → c.Allows m

    mode_beside : (code number : ℕ) → ((m : LcMode) → mode_numbered number ≡ Some m → c.Allows m) →
        LcSteps d (unless_refused a (lc_obeyed (SetMode number) a >>= (λ now. Ok (now, lc_command_done code ∷ []))))
        (unless_refused b (lc_obeyed (SetMode number) b >>= (λ now. Ok (now, lc_command_done code ∷ []))))
    mode_beside code number fair = by_mode (mode_numbered number) fair
      where
        by_mode : (o : Option LcMode) → ((m : LcMode) → o ≡ Some m → c.Allows m) →
            LcSteps d (unless_refused a (found o 154 >>= (λ m. Ok (record a { mode = m })) >>= (λ now. Ok (now, lc_command_done code ∷ []))))
            (unless_refused b (found o 154 >>= (λ m. Ok (record b { mode = m })) >>= (λ now. Ok (now, lc_command_done code ∷ []))))
        by_mode None fair = (d, unchanged, at_rest d)
        by_mode (Some m) fair = (d, (record s { mode = m; allowed = fair m refl }, refl, refl), at_rest d)

    pub command_beside : (packet : List ℕ) → IsFair packet → LcSteps d (unless_refused a (lc_commanded packet a)) (unless_refused b (lc_commanded packet b))
    command_beside packet fair = by_command (lc_command_in packet) (λ number m is. fair number m is)
      where
        code : ℕ
        code = function_code packet

        by_command : (r : Result LcCommand Refusal) → ((number : ℕ) (m : LcMode) → r ≡ Ok (SetMode number) → mode_numbered number ≡ Some m → c.Allows m) →
            LcSteps d (unless_refused a (r >>= (λ command. lc_obeyed command a >>= (λ now. Ok (now, lc_command_done code ∷ [])))))
            (unless_refused b (r >>= (λ command. lc_obeyed command b >>= (λ now. Ok (now, lc_command_done code ∷ [])))))
        by_command (Err refusal) fair = (d, unchanged, at_rest d)
        by_command (Ok NoOperation) fair = (d, unchanged, at_rest d)
        by_command (Ok (SetMode number)) fair = mode_beside code number (λ m is. fair number m refl is)
        by_command (Ok (SetState index number)) fair = states_beside code index number
        by_command (Ok (TurnPermanentlyOff index)) fair =
            changed_one code Off index (one_set index turned_permanently_off a.points) (one_set index turned_permanently_off b.points)
            (as_turned_off index s.seats) (as_turned_off index s.their_seats)
