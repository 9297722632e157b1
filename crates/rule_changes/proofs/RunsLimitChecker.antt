-- A Limit Checker over old tables beside one over new ones: each packet keeps their rules compared.
use Rattle.std.proofs.Common.{◌≡◌, ℕ, Bool, true, false, ◌==◌, List, [], ◌∷◌, ◌++◌, refl, ap, ap₂, sym, ◌∙◌, subst, arith, Option, Some, None, Result, Ok, Err, if◌then◌else◌, IsTrue}
use Rattle.std.specs.Option.{option_map_or}
use Rattle.std.proofs.lemmas.Bool.Decides.{nat_tests}
use Rattle.lc_model.specs.declared.kind.Kind.TheVariants.{Wdt, Adt}
use Rattle.lc_model.specs.declared.mode.LcMode.{LcMode}
use Rattle.lc_model.specs.declared.command.SampleRequest.{SampleRequest}
use Rattle.lc_model.specs.Packet.{function_code, payload, is_telemetry_mid, message_id, lc_command_mid, lc_housekeeping_request_mid, sample_mid}
use Rattle.lc_model.specs.Refusal.{Refusal, ◌>>=◌}
use Rattle.lc_model.specs.Tables.Slot.{Slot, taken}
use Rattle.lc_model.specs.Tables.Interpretation.{Pair, Interpretation}
use Rattle.lc_model.specs.Events.Request.{Request, short_packet}
use Rattle.lc_model.specs.Command.{SetMode, mode_numbered, bare_request, sample_request, lc_command_in}
use Rattle.lc_model.specs.LimitChecker.Watch.{History, Packet, Aging}
use Rattle.lc_model.specs.LimitChecker.Past.{Past}
use Rattle.lc_model.specs.LimitChecker.Steps.{LcStep, by_lists, is_disabled, paired, in_force, validated, pair_to_adopt, unless_refused, is_short, watched, lc_telemetry, sampled_by, lc_sample, housekeeping_of, adopted, lc_housekeeping, lc_packet}
use Rattle.lc_model.specs.Host.World.{Lc}
use Rattle.lc_model.specs.Laws.Correspondence.{BothOrNone, SoundAlike, Agrees}
use Rattle.lc_model.proofs.Host.SameCore.{numbers_in}
use Rattle.rule_changes.proofs.RunsSeats.{Seat, rules_of, fresh_seats, fresh_points_of, seats_sampled, sampled_rules}
use Rattle.rule_changes.proofs.RunsComparison.{Comparison, Seats, sampled_beside, pays_numbers, numbers-append}
use Rattle.rule_changes.proofs.RunsSlots as slots
use Rattle.rule_changes.proofs.RunsOneChecker.{shape, rules_in, silent, validated_active, validated_silent, adopted_rules, lc_of, sampled_lc}
use Rattle.rule_changes.proofs.RunsStations as stations

module _ {A B : Type 0} (alike : A → B → Type 0) (images : Interpretation A) (others : Interpretation B) (c : Comparison) (agree : Agrees alike (shape images) (shape others)) where
  abbrev Station : ℕ → Type 0
  Station = stations.Station alike images others c agree

  abbrev old_of : (d : ℕ) → Station d → Lc A
  old_of = stations.old_of alike images others c agree

  abbrev new_of : (d : ℕ) → Station d → Lc B
  new_of = stations.new_of alike images others c agree

  abbrev Pairs : Pair A → Pair B → Type 0
  Pairs = stations.Pairs alike images others c agree

  abbrev Lcs : ℕ → Lc A → Lc B → Type 0
  Lcs = stations.Lcs alike images others c agree

  abbrev LcSteps : ℕ → LcStep A History Past → LcStep B History Past → Type 0
  LcSteps = stations.LcSteps alike images others c agree

  at_rest : (d : ℕ) → c.Pays d d [] []
  at_rest = stations.at_rest alike images others c agree

  module _ (kin : (p : Pair A) (q : Pair B) → SoundAlike alike (shape images) (shape others) p q → IsTrue (images.matches p) →
      Seats c 0 (fresh_seats (images.rules p)) (fresh_seats (others.rules q))) where
    module _ (d : ℕ) (s : Station d) where
      abbrev a : Lc A
      a = old_of d s

      abbrev b : Lc B
      b = new_of d s

      unchanged : Lcs d a b
      unchanged = (s, refl, refl)

      -- ---- samples and telemetry

      force_beside : BothOrNone Pairs (paired images s.wdt.active s.adt.active) (paired others s.their_wdt.active s.their_adt.active)
      force_beside =
          slots.paired_alike alike (shape images) (shape others) agree s.wdt.active s.adt.active s.their_wdt.active s.their_adt.active s.wdts.active s.adts.active

      sampled_both : (request : SampleRequest) → is_disabled s.mode ≡ false → (p : Pair A) (q : Pair B) →
          rules_of s.seats ≡ images.rules p → rules_of s.their_seats ≡ others.rules q →
          LcSteps d (sampled_by by_lists images request a p) (sampled_by by_lists others request b q)
      sampled_both request enabled p q same same' =
          let kept = sampled_beside c request s.mode s.watch s.allowed enabled 0 d s.seats s.their_seats s.beside in
          let xs : List Seat × List Request = seats_sampled request s.mode s.watch 0 s.seats in
          let ys : List Seat × List Request = seats_sampled request s.mode s.watch 0 s.their_seats in
          let after : Station kept.0 =
          record (stations.with_seats alike images others c agree d s kept.0 xs.0 ys.0 (sampled_rules request s.mode s.watch 0 s.seats) (sampled_rules request s.mode s.watch 0 s.their_seats) kept.1)
          { watch = if request.ages then Aging ∷ s.watch else s.watch } in
          let old = sampled_lc images request (images.terms p) s.mode s.wdt s.adt s.watch s.seats (images.rules p) same in
          let new = sampled_lc others request (others.terms q) s.mode s.their_wdt s.their_adt s.watch s.their_seats (others.rules q) same' in
          subst (λ step. LcSteps d step (sampled_by by_lists others request b q)) (sym old)
          (subst (λ step. LcSteps d (old_of kept.0 after, xs.1) step) (sym new) (kept.0, (after, refl, refl), kept.2))

      -- by the tables in force
      by_force : (f : Pair A → LcStep A History Past) (g : Pair B → LcStep B History Past) →
          ((p : Pair A) (q : Pair B) → rules_of s.seats ≡ images.rules p → rules_of s.their_seats ≡ others.rules q → LcSteps d (f p) (g q)) →
          LcSteps d (option_map_or f (in_force images a) (a, [])) (option_map_or g (in_force others b) (b, []))
      by_force f g each = by_pair (paired images s.wdt.active s.adt.active) (paired others s.their_wdt.active s.their_adt.active) refl refl force_beside
        where
          by_pair : (o : Option (Pair A)) (p : Option (Pair B)) → paired images s.wdt.active s.adt.active ≡ o → paired others s.their_wdt.active s.their_adt.active ≡ p →
              BothOrNone Pairs o p → LcSteps d (option_map_or f o (a, [])) (option_map_or g p (b, []))
          by_pair None None e e' h = (d, unchanged, at_rest d)
          by_pair None (Some q) e e' h = absurd h
          by_pair (Some p) None e e' h = absurd h
          by_pair (Some p) (Some q) e e' h =
              each p q (s.rules ∙ ap (λ o. option_map_or images.rules o []) e) (s.their_rules ∙ ap (λ o. option_map_or others.rules o []) e')

      sample_beside : (packet : List ℕ) → LcSteps d (unless_refused a (lc_sample by_lists images packet a)) (unless_refused b (lc_sample by_lists others packet b))
      sample_beside packet = by_request (sample_request (function_code packet) (payload packet))
        where
          by_mode : (request : SampleRequest) (disabled : Bool) → is_disabled s.mode ≡ disabled →
              LcSteps d (if disabled then (a, []) else option_map_or (sampled_by by_lists images request a) (in_force images a) (a, []))
              (if disabled then (b, []) else option_map_or (sampled_by by_lists others request b) (in_force others b) (b, []))
          by_mode request true e = (d, unchanged, at_rest d)
          by_mode request false e = by_force (sampled_by by_lists images request a) (sampled_by by_lists others request b) (sampled_both request e)

          by_request : (r : Result SampleRequest Refusal) →
              LcSteps d (unless_refused a (r >>= (λ request. Ok (if is_disabled a.mode then (a, []) else option_map_or (sampled_by by_lists images request a) (in_force images a) (a, [])))))
              (unless_refused b (r >>= (λ request. Ok (if is_disabled b.mode then (b, []) else option_map_or (sampled_by by_lists others request b) (in_force others b) (b, [])))))
          by_request (Err refusal) = (d, unchanged, at_rest d)
          by_request (Ok request) = by_mode request (is_disabled s.mode) refl

      telemetry_beside : (packet : List ℕ) → LcSteps d (lc_telemetry by_lists images packet a) (lc_telemetry by_lists others packet b)
      telemetry_beside packet = by_mode (is_disabled s.mode)
        where
          no_numbers : (short : Bool) → numbers_in (if short then short_packet (message_id packet) ∷ [] else []) ≡ []
          no_numbers true = refl
          no_numbers false = refl

          by_mode : (disabled : Bool) →
              LcSteps d (if disabled then (a, []) else option_map_or (watched by_lists images packet a) (in_force images a) (a, []))
              (if disabled then (b, []) else option_map_or (watched by_lists others packet b) (in_force others b) (b, []))
          by_mode true = (d, unchanged, at_rest d)
          by_mode false = by_force (watched by_lists images packet a) (watched by_lists others packet b) (λ p q same same'. (
            d,
            (record s { watch = Packet packet ∷ s.watch }, refl, refl),
            stations.idle alike images others c agree d s (watched by_lists images packet a p).1 (watched by_lists others packet b q).1
                (no_numbers (is_short (images.terms p) packet)) (no_numbers (is_short (others.terms q) packet)),
          ))

      -- ---- housekeeping

      -- after both verdicts
      abbrev judged_station : Station d
      judged_station =
          let wdts = slots.validated_alike alike (shape images) (shape others) agree Wdt s.wdt s.their_wdt s.wdts in
          let adts = slots.validated_alike alike (shape images) (shape others) agree Adt s.adt s.their_adt s.adts in
          record s {
            wdt = (validated images Wdt s.wdt).0;
            adt = (validated images Adt s.adt).0;
            their_wdt = (validated others Wdt s.their_wdt).0;
            their_adt = (validated others Adt s.their_adt).0;
            wdts = wdts.0;
            adts = adts.0;
            rules = s.rules ∙ sym (ap₂ (rules_in images) (validated_active images Wdt s.wdt) (validated_active images Adt s.adt));
            their_rules = s.their_rules ∙ sym (ap₂ (rules_in others) (validated_active others Wdt s.their_wdt) (validated_active others Adt s.their_adt));
          }

      abbrev adopted_station : (p : Pair A) (q : Pair B) → Pairs p q → pair_to_adopt images s.wdt s.adt ≡ Some p → pair_to_adopt others s.their_wdt s.their_adt ≡ Some q → Station 0
      adopted_station p q h e e' = record {
        mode = s.mode;
        allowed = s.allowed;
        watch = [];
        wdt = taken s.wdt;
        adt = taken s.adt;
        seats = fresh_seats (images.rules p);
        their_wdt = taken s.their_wdt;
        their_adt = taken s.their_adt;
        their_seats = fresh_seats (others.rules q);
        wdts = slots.taken_alike alike (shape images) (shape others) agree Wdt s.wdt s.their_wdt s.wdts;
        adts = slots.taken_alike alike (shape images) (shape others) agree Adt s.adt s.their_adt s.adts;
        rules = adopted_rules images s.wdt s.adt p e;
        their_rules = adopted_rules others s.their_wdt s.their_adt q e';
        beside = kin p q h.0 h.1;
      }

      adopting_beside : LcSteps d (option_map_or (adopted by_lists images a) (pair_to_adopt images s.wdt s.adt) (a, []))
          (option_map_or (adopted by_lists others b) (pair_to_adopt others s.their_wdt s.their_adt) (b, []))
      adopting_beside =
          by_pair (pair_to_adopt images s.wdt s.adt) (pair_to_adopt others s.their_wdt s.their_adt) refl refl
          (slots.adoption_alike alike (shape images) (shape others) agree s.wdt s.adt s.their_wdt s.their_adt s.wdts s.adts)
        where
          by_pair : (o : Option (Pair A)) (p : Option (Pair B)) → pair_to_adopt images s.wdt s.adt ≡ o → pair_to_adopt others s.their_wdt s.their_adt ≡ p → BothOrNone Pairs o p →
              LcSteps d (option_map_or (adopted by_lists images a) o (a, [])) (option_map_or (adopted by_lists others b) p (b, []))
          by_pair None None e e' h = (d, unchanged, at_rest d)
          by_pair None (Some q) e e' h = absurd h
          by_pair (Some p) None e e' h = absurd h
          by_pair (Some p) (Some q) e e' h = (
            0,
            (
              adopted_station p q h e e',
              ap (lc_of images s.mode (taken s.wdt) (taken s.adt) []) (sym (fresh_points_of (images.rules p))),
              ap (lc_of others s.mode (taken s.their_wdt) (taken s.their_adt) []) (sym (fresh_points_of (others.rules q))),
            ),
            c.nothing d 0 (omega arith),
          )

    module _ (d : ℕ) (s : Station d) where
      housekeeping_beside : (packet : List ℕ) →
          LcSteps d (unless_refused (old_of d s) (lc_housekeeping by_lists images packet (old_of d s))) (unless_refused (new_of d s) (lc_housekeeping by_lists others packet (new_of d s)))
      housekeeping_beside packet = by_request (bare_request 0 (function_code packet) (payload packet))
        where
          now : Station d
          now = judged_station d s

          old : LcStep A History Past
          old = option_map_or (adopted by_lists images (old_of d now)) (pair_to_adopt images now.wdt now.adt) (old_of d now, [])

          new : LcStep B History Past
          new = option_map_or (adopted by_lists others (new_of d now)) (pair_to_adopt others now.their_wdt now.their_adt) (new_of d now, [])

          both : LcSteps d old new
          both = adopting_beside d now

          with_verdicts : {Image : Type 0} (images : Interpretation Image) (wdt adt : Slot Image) (step : LcStep Image History Past) →
              numbers_in ((validated images Wdt wdt).1 ++ (validated images Adt adt).1 ++ step.1 ++ housekeeping_of by_lists step.0 ∷ []) ≡ numbers_in step.1 ++ []
          with_verdicts images wdt adt step =
              let verdicts : List Request = (validated images Wdt wdt).1 ++ (validated images Adt adt).1 in
              numbers-append (verdicts ++ step.1) (housekeeping_of by_lists step.0 ∷ [])
              ∙ ap (λ ns. ns ++ [])
              (numbers-append verdicts step.1
              ∙ ap (λ ns. ns ++ numbers_in step.1)
              (silent images (validated images Wdt wdt).1 (validated images Adt adt).1 (validated_silent images Wdt wdt) (validated_silent images Adt adt)))

          by_request : (r : Result (Unit {0}) Refusal) →
              LcSteps d (unless_refused (old_of d s) (r >>= (λ _. Ok (old.0, (validated images Wdt s.wdt).1 ++ (validated images Adt s.adt).1 ++ old.1 ++ housekeeping_of by_lists old.0 ∷ []))))
              (unless_refused (new_of d s) (r >>= (λ _. Ok (new.0, (validated others Wdt s.their_wdt).1 ++ (validated others Adt s.their_adt).1 ++ new.1 ++ housekeeping_of by_lists new.0 ∷ []))))
          by_request (Err refusal) = (d, (s, refl, refl), at_rest d)
          by_request (Ok request) = (
            both.0,
            both.1,
            pays_numbers c d both.0 (numbers_in old.1 ++ []) _ (numbers_in new.1 ++ []) _ (with_verdicts images s.wdt s.adt old) (with_verdicts others s.their_wdt s.their_adt new)
                (c.after d both.0 both.0 (numbers_in old.1) (numbers_in new.1) [] [] both.2 (at_rest both.0)),
          )

      -- ---- any packet

      branch_at : (test : Bool) (x x' : LcStep A History Past) (y y' : LcStep B History Past) → (test ≡ true → LcSteps d x y) → LcSteps d x' y' →
          LcSteps d (if test then x else x') (if test then y else y')
      branch_at true x x' y y' at_true at_false = at_true refl
      branch_at false x x' y y' at_true at_false = at_false

      is_command : (mid : ℕ) → (mid == lc_command_mid) ≡ true → mid ≡ lc_command_mid
      is_command mid e = grind (arith, nat_tests, e)

      station_beside : (packet : List ℕ) → (message_id packet ≡ lc_command_mid → stations.IsFair alike images others c agree d s packet) →
          LcSteps d (lc_packet by_lists images packet (old_of d s)) (lc_packet by_lists others packet (new_of d s))
      station_beside packet fair =
          let mid : ℕ = message_id packet in
          branch_at (mid == lc_command_mid) _ _ _ _ (λ e. stations.command_beside alike images others c agree d s packet (fair (is_command mid e)))
          (branch_at (mid == lc_housekeeping_request_mid) _ _ _ _ (λ e. housekeeping_beside packet)
          (branch_at (mid == sample_mid) _ _ _ _ (λ e. sample_beside d s packet)
          (branch_at (is_telemetry_mid mid) _ _ _ _ (λ e. telemetry_beside d s packet) (d, (s, refl, refl), at_rest d))))

    -- the packet leaves the mode one in which both are compared
    abbrev pub IsFairPacket : List ℕ → Type 0
    IsFairPacket packet = message_id packet ≡ lc_command_mid → (number : ℕ) (m : LcMode) → lc_command_in packet ≡ Ok (SetMode number) → mode_numbered number ≡ Some m → c.Allows m

    pub packet_beside : (packet : List ℕ) → IsFairPacket packet → (d : ℕ) (a : Lc A) (b : Lc B) → Lcs d a b →
        LcSteps d (lc_packet by_lists images packet a) (lc_packet by_lists others packet b)
    packet_beside packet fair d a b =
        stations.settled alike images others c agree d a b (λ x y. LcSteps d (lc_packet by_lists images packet x) (lc_packet by_lists others packet y)) (λ s. station_beside d s packet fair)
