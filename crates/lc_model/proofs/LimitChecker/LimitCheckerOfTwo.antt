-- Over images that are alike the Limit Checker does the same.
use Rattle.std.proofs.Common.{◌≡◌, ℕ, Bool, true, false, ◌&&◌, ◌||◌, ◌==◌, List, [], ◌∷◌, ◌++◌, map, refl, ap, ap₂, sym, ◌∙◌, subst, Option, Some, None, is_none, is_some, unwrap_or, Result, Ok, Err, if◌then◌else◌, IsTrue}
use Rattle.std.specs.Option.{option_map_or}
use Rattle.std.specs.List.{AllZip}
use Rattle.lc_model.specs.declared.kind.Kind.{Kind}
use Rattle.lc_model.specs.declared.kind.Kind.TheVariants.{Wdt, Adt}
use Rattle.lc_model.specs.Name.{Name, is_named, value_under}
use Rattle.lc_model.specs.Packet.{function_code, payload, is_telemetry_mid, message_id, lc_command_mid, lc_housekeeping_request_mid, sample_mid}
use Rattle.lc_model.specs.Refusal.{Refusal, ◌>>=◌, found, provided}
use Rattle.lc_model.specs.Tables.Image.{ImageFault}
use Rattle.lc_model.specs.Tables.File.{table_name}
use Rattle.lc_model.specs.Tables.Slot.{Slot, Stage, Waiting, Move, Validate, Activate, Abort, Loaded, Asked, Valid, Activated, stage_after, is_at, in_use, waiting_at, candidate, with_waiting, restaged, loaded, moved, judged, taken}
use Rattle.lc_model.specs.Tables.Interpretation.{FileMeaning, Opened, Unreadable, Pair, Interpretation, default_file}
use Rattle.lc_model.specs.Events.Request.{Request, Housekeeping, short_packet, lc_command_done}
use Rattle.lc_model.specs.Command.{LcCommand, NoOperation, SetMode, SetState, TurnPermanentlyOff, mode_numbered, bare_request, sample_request, lc_command_in}
use Rattle.lc_model.specs.declared.command.SampleRequest.{SampleRequest}
use Rattle.lc_model.specs.LimitChecker.Watch.{History}
use Rattle.lc_model.specs.LimitChecker.Past.{Past}
use Rattle.lc_model.specs.LimitChecker.Steps.{LcStep, by_lists, is_disabled, paired, in_force, sound_image, default_image, default_pair, told_verdict, validated, pair_to_adopt, one_set, turned_permanently_off, states_set, lc_obeyed, lc_commanded, unless_refused, is_short, sampled_points, started_with, lc_start, watched, lc_telemetry, sampled_by, lc_sample, standing, housekeeping_of, adopted, lc_housekeeping, lc_packet}
use Rattle.lc_model.specs.Host.World.{Lc}
use Rattle.lc_model.specs.Laws.Correspondence.{BothOrNone, SoundAlike, Agrees, IsFound, WaitingAlike, SlotAlike, MeaningAlike}
use Rattle.lc_model.proofs.Host.TwoReadings.{SameAnswers, Entry, branch, both_map_or, both_or, both_none, both_some, after, after_same, found_alike, provided_alike, value_alike}
use Rattle.lc_model.proofs.LimitChecker.Reordered.{same_points, same_fresh}

module _ {A B : Type 0} (alike : A → B → Type 0) (images : Interpretation A) (others : Interpretation B) (agree : Agrees alike images others) where
  -- ---- slots

  -- alike, and sound
  abbrev pub Sound : Kind → A → B → Type 0
  Sound kind x y = alike x y × (images.fault_of kind x ≡ None)

  abbrev Waits : Kind → Waiting A → Waiting B → Type 0
  Waits kind = WaitingAlike alike images others kind

  abbrev pub Slots : Kind → Slot A → Slot B → Type 0
  Slots kind = SlotAlike alike images others kind

  -- slots with what is asked
  abbrev SlotSteps : Kind → Slot A × List Request → Slot B × List Request → Type 0
  SlotSteps kind s t = Slots kind s.0 t.0 × (s.1 ≡ t.1)

  waiting_alike : (kind : Kind) (stage : Stage) (s : Slot A) (t : Slot B) → Slots kind s t → BothOrNone alike (waiting_at stage s) (waiting_at stage t)
  waiting_alike kind stage s t h =
      both_map_or (Waits kind) (BothOrNone alike) (λ (w : Waiting A). if is_at stage w.stage then Some w.image else None)
      (λ (w : Waiting B). if is_at stage w.stage then Some w.image else None) s.waiting t.waiting None None h.waiting
      (λ a b w. subst (λ st. BothOrNone alike (if is_at stage a.stage then Some a.image else None) (if is_at stage st then Some b.image else None)) w.stage
      (branch (BothOrNone alike) (is_at stage a.stage) (Some a.image) None (Some b.image) None w.image tt)) tt

  activated_at : (kind : Kind) (st : Stage) (x : A) (y : B) → alike x y → IsFound alike images others kind st x →
      BothOrNone (Sound kind) (if is_at Activated st then Some x else None) (if is_at Activated st then Some y else None)
  activated_at kind Loaded x y h sound = tt
  activated_at kind Asked x y h sound = tt
  activated_at kind Valid x y h sound = tt
  activated_at kind Activated x y h sound = (h, sound)

  activated_alike : (kind : Kind) (s : Slot A) (t : Slot B) → Slots kind s t → BothOrNone (Sound kind) (waiting_at Activated s) (waiting_at Activated t)
  activated_alike kind s t h =
      both_map_or (Waits kind) (BothOrNone (Sound kind)) (λ (w : Waiting A). if is_at Activated w.stage then Some w.image else None)
      (λ (w : Waiting B). if is_at Activated w.stage then Some w.image else None) s.waiting t.waiting None None h.waiting
      (λ a b w. subst (λ st. BothOrNone (Sound kind) (if is_at Activated a.stage then Some a.image else None) (if is_at Activated st then Some b.image else None)) w.stage
      (activated_at kind a.stage a.image b.image w.image w.sound)) tt

  candidate_alike : (kind : Kind) (s : Slot A) (t : Slot B) → Slots kind s t → BothOrNone (Sound kind) (candidate s) (candidate t)
  candidate_alike kind s t h =
      both_or (Sound kind) (waiting_at Activated s) s.active (waiting_at Activated t) t.active (activated_alike kind s t h) h.active

  taken_alike : (kind : Kind) (s : Slot A) (t : Slot B) → Slots kind s t → Slots kind (taken s) (taken t)
  taken_alike kind s t h =
      both_map_or (Sound kind) (Slots kind) in_use in_use (waiting_at Activated s) (waiting_at Activated t) s t (activated_alike kind s t h)
      (λ x y sound. record { active = sound; waiting = tt }) h

  pub loaded_alike : (kind : Kind) (x : A) (y : B) (s : Slot A) (t : Slot B) → alike x y → Slots kind s t → SameAnswers (Slots kind) (loaded x s) (loaded y t)
  loaded_alike kind x y s t image h =
      subst (λ test. SameAnswers (Slots kind) (loaded x s) (provided test 115 (with_waiting Loaded y t)))
      (both_none (Sound kind) (waiting_at Activated s) (waiting_at Activated t) (activated_alike kind s t h))
      (provided_alike (Slots kind) (is_none (waiting_at Activated s)) 115 (with_waiting Loaded x s) (with_waiting Loaded y t)
      (record { active = h.active; waiting = record { stage = refl; image = image; sound = tt } }))

  staged_alike : (kind : Kind) (move : Move) (st : Stage) (x : A) (y : B) (s : Slot A) (t : Slot B) → alike x y → IsFound alike images others kind st x → Slots kind s t →
      SameAnswers (Slots kind) (stage_after move st >>= (λ stage. Ok (restaged stage x s))) (stage_after move st >>= (λ stage. Ok (restaged stage y t)))
  staged_alike kind Abort st x y s t image sound h = record { active = h.active; waiting = tt }
  staged_alike kind Validate Loaded x y s t image sound h = record { active = h.active; waiting = record { stage = refl; image = image; sound = tt } }
  staged_alike kind Validate Asked x y s t image sound h = record { active = h.active; waiting = record { stage = refl; image = image; sound = tt } }
  staged_alike kind Validate Valid x y s t image sound h = record { active = h.active; waiting = record { stage = refl; image = image; sound = tt } }
  staged_alike kind Validate Activated x y s t image sound h = refl
  staged_alike kind Activate Loaded x y s t image sound h = refl
  staged_alike kind Activate Asked x y s t image sound h = refl
  staged_alike kind Activate Valid x y s t image sound h = record { active = h.active; waiting = record { stage = refl; image = image; sound = sound } }
  staged_alike kind Activate Activated x y s t image sound h = refl

  pub moved_alike : (kind : Kind) (move : Move) (s : Slot A) (t : Slot B) → Slots kind s t → SameAnswers (Slots kind) (moved move s) (moved move t)
  moved_alike kind move s t h =
      after (Waits kind) (Slots kind) (found s.waiting 116) (found t.waiting 116)
      (λ (w : Waiting A). stage_after move w.stage >>= (λ stage. Ok (restaged stage w.image s)))
      (λ (w : Waiting B). stage_after move w.stage >>= (λ stage. Ok (restaged stage w.image t)))
      (found_alike (Waits kind) s.waiting t.waiting 116 h.waiting)
      (λ a b w. subst (λ st. SameAnswers (Slots kind) (stage_after move a.stage >>= (λ stage. Ok (restaged stage a.image s))) (stage_after move st >>= (λ stage. Ok (restaged stage b.image t))))
      w.stage (staged_alike kind move a.stage a.image b.image s t w.image w.sound h))

  judged_alike : (kind : Kind) (valid : Bool) (s : Slot A) (t : Slot B) → Slots kind s t →
      ((x : A) → waiting_at Asked s ≡ Some x → IsFound alike images others kind (if valid then Valid else Loaded) x) → Slots kind (judged valid s) (judged valid t)
  judged_alike kind valid s t h sound = by_image (waiting_at Asked s) (waiting_at Asked t) (waiting_alike kind Asked s t h) sound
    where
      by_image : (o : Option A) (p : Option B) → BothOrNone alike o p →
          ((x : A) → o ≡ Some x → IsFound alike images others kind (if valid then Valid else Loaded) x) →
          Slots kind (option_map_or (λ image. with_waiting (if valid then Valid else Loaded) image s) o s) (option_map_or (λ image. with_waiting (if valid then Valid else Loaded) image t) p t)
      by_image None None image found = h
      by_image None (Some y) image found = absurd image
      by_image (Some x) None image found = absurd image
      by_image (Some x) (Some y) image found = record { active = h.active; waiting = record { stage = refl; image = image; sound = found x refl } }

  told_alike : (kind : Kind) (fault : Option ImageFault) (s : Slot A) (t : Slot B) → Slots kind s t →
      ((x : A) → waiting_at Asked s ≡ Some x → images.fault_of kind x ≡ fault) →
      SlotSteps kind (told_verdict images kind fault s) (told_verdict others kind fault t)
  told_alike kind None s t h found = (judged_alike kind true s t h found, refl)
  told_alike kind (Some fault) s t h found = (judged_alike kind false s t h (λ x e. tt), refl)

  validated_alike : (kind : Kind) (s : Slot A) (t : Slot B) → Slots kind s t → SlotSteps kind (validated images kind s) (validated others kind t)
  validated_alike kind s t h = by_image (waiting_at Asked s) (waiting_at Asked t) refl (waiting_alike kind Asked s t h)
    where
      by_image : (o : Option A) (p : Option B) → waiting_at Asked s ≡ o → BothOrNone alike o p →
          SlotSteps kind (option_map_or (λ image. told_verdict images kind (images.fault_of kind image) s) o (s, []))
          (option_map_or (λ image. told_verdict others kind (others.fault_of kind image) t) p (t, []))
      by_image None None e image = (h, refl)
      by_image None (Some y) e image = absurd image
      by_image (Some x) None e image = absurd image
      by_image (Some x) (Some y) e image =
          subst (λ fault. SlotSteps kind (told_verdict images kind (images.fault_of kind x) s) (told_verdict others kind fault t)) (agree.faults kind x y image)
          (told_alike kind (images.fault_of kind x) s t h (λ z f. ap (λ o. images.fault_of kind (unwrap_or o x)) (sym f ∙ e)))

  -- ---- pairs

  abbrev Pairs : Pair A → Pair B → Type 0
  Pairs p q = SoundAlike alike images others p q × IsTrue (images.matches p)

  paired_alike : (o o' : Option A) (p p' : Option B) → BothOrNone (Sound Wdt) o p → BothOrNone (Sound Adt) o' p' →
      BothOrNone Pairs (paired images o o') (paired others p p')
  paired_alike None o' None p' h h' = tt
  paired_alike None o' (Some b) p' h h' = absurd h
  paired_alike (Some a) o' None p' h h' = absurd h
  paired_alike (Some a) None (Some b) None h h' = tt
  paired_alike (Some a) None (Some b) (Some b') h h' = absurd h'
  paired_alike (Some a) (Some a') (Some b) None h h' = absurd h'
  paired_alike (Some a) (Some a') (Some b) (Some b') h h' =
      subst (λ test. BothOrNone Pairs (if images.matches p then Some p else None) (if test then Some q else None)) (agree.matches p q sound)
      (by_test (images.matches p) refl)
    where
      p : Pair A
      p = record { wdt = a; adt = a' }

      q : Pair B
      q = record { wdt = b; adt = b' }

      sound : SoundAlike alike images others p q
      sound = record { wdt = h.0; adt = h'.0; wdt_sound = h.1; adt_sound = h'.1 }

      by_test : (test : Bool) → images.matches p ≡ test → BothOrNone Pairs (if test then Some p else None) (if test then Some q else None)
      by_test true matching = (sound, matching)
      by_test false other = tt

  adoption_alike : (s s' : Slot A) (t t' : Slot B) → Slots Wdt s t → Slots Adt s' t' → BothOrNone Pairs (pair_to_adopt images s s') (pair_to_adopt others t t')
  adoption_alike s s' t t' h h' =
      subst (λ test. BothOrNone Pairs (pair_to_adopt images s s') (if test then paired others (candidate t) (candidate t') else None))
      (ap₂ (λ a b. a || b) (both_some (Sound Wdt) (waiting_at Activated s) (waiting_at Activated t) (activated_alike Wdt s t h))
      (both_some (Sound Adt) (waiting_at Activated s') (waiting_at Activated t') (activated_alike Adt s' t' h')))
      (branch (BothOrNone Pairs) (is_some (waiting_at Activated s) || is_some (waiting_at Activated s'))
      (paired images (candidate s) (candidate s')) None (paired others (candidate t) (candidate t')) None
      (paired_alike (candidate s) (candidate s') (candidate t) (candidate t') (candidate_alike Wdt s t h) (candidate_alike Adt s' t' h')) tt)

  -- ---- the start

  -- files that mean alike
  abbrev pub Files : List (Name × FileMeaning A) → List (Name × FileMeaning B) → Type 0
  Files = AllZip (Entry (MeaningAlike alike images others))

  sound_image_alike : (kind : Kind) (m : FileMeaning A) (n : FileMeaning B) → MeaningAlike alike images others m n →
      BothOrNone (Sound kind) (sound_image images kind m) (sound_image others kind n)
  sound_image_alike kind (Unreadable fault) (Unreadable other) h = tt
  sound_image_alike kind (Unreadable fault) (Opened table size b) h = absurd h
  sound_image_alike kind (Opened table size a) (Unreadable fault) h = absurd h
  sound_image_alike kind (Opened table size a) (Opened table' size' b) h =
      subst (λ test. BothOrNone (Sound kind) (sound_image images kind (Opened table size a)) (if test then Some b else None))
      (ap₂ (λ t f. is_named t (table_name kind) && is_none f) h.0 (agree.faults kind a b h.2))
      (by_fault (images.fault_of kind a) refl (is_named table (table_name kind)))
    where
      by_fault : (fault : Option ImageFault) → images.fault_of kind a ≡ fault → (named : Bool) →
          BothOrNone (Sound kind) (if named && is_none fault then Some a else None) (if named && is_none fault then Some b else None)
      by_fault None e true = (h.2, e)
      by_fault None e false = tt
      by_fault (Some fault) e true = tt
      by_fault (Some fault) e false = tt

  default_alike : (kind : Kind) (fs : List (Name × FileMeaning A)) (gs : List (Name × FileMeaning B)) → Files fs gs →
      BothOrNone (Sound kind) (default_image images kind fs) (default_image others kind gs)
  default_alike kind fs gs h =
      both_map_or (MeaningAlike alike images others) (BothOrNone (Sound kind)) (sound_image images kind) (sound_image others kind)
      (value_under (default_file kind) fs) (value_under (default_file kind) gs) None None (value_alike (MeaningAlike alike images others) (default_file kind) fs gs h)
      (sound_image_alike kind) tt

  -- a running Limit Checker and its twin
  pub record States (a : Lc A) (b : Lc B) : Type 0 where
    pub mode : a.mode ≡ b.mode
    pub wdt : Slots Wdt a.wdt b.wdt
    pub adt : Slots Adt a.adt b.adt
    pub watch : a.watch ≡ b.watch
    pub points : a.points ≡ b.points

  -- with what is asked
  abbrev pub LcSteps : LcStep A History Past → LcStep B History Past → Type 0
  LcSteps s t = States s.0 t.0 × (s.1 ≡ t.1)

  fresh_alike : (p : Pair A) (q : Pair B) → Pairs p q → LcSteps (started_with by_lists images (Some p)) (started_with by_lists others (Some q))
  fresh_alike p q h = (
    record {
      mode = refl;
      wdt = record { active = (h.0.wdt, h.0.wdt_sound); waiting = tt };
      adt = record { active = (h.0.adt, h.0.adt_sound); waiting = tt };
      watch = refl;
      points = same_fresh (images.rules p) (others.rules q) (agree.rules p q h.0 h.1);
    },
    refl,
  )

  pub start_alike : (fs : List (Name × FileMeaning A)) (gs : List (Name × FileMeaning B)) → Files fs gs →
      LcSteps (lc_start by_lists images fs) (lc_start by_lists others gs)
  start_alike fs gs h =
      by_pair (default_pair images fs) (default_pair others gs)
      (paired_alike (default_image images Wdt fs) (default_image images Adt fs) (default_image others Wdt gs) (default_image others Adt gs)
      (default_alike Wdt fs gs h) (default_alike Adt fs gs h))
    where
      by_pair : (o : Option (Pair A)) (p : Option (Pair B)) → BothOrNone Pairs o p → LcSteps (started_with by_lists images o) (started_with by_lists others p)
      by_pair None None h = (record { mode = refl; wdt = record { active = tt; waiting = tt }; adt = record { active = tt; waiting = tt }; watch = refl; points = refl }, refl)
      by_pair None (Some q) h = absurd h
      by_pair (Some p) None h = absurd h
      by_pair (Some p) (Some q) h = fresh_alike p q h

  -- ---- packets

  -- the Limit Checker with other slots
  abbrev twin : Lc A → Slot B → Slot B → Lc B
  twin a wdt adt = record { mode = a.mode; wdt = wdt; adt = adt; watch = a.watch; points = a.points }

  settled : (a : Lc A) (P : Lc B → Type 0) → ((wdt adt : Slot B) → Slots Wdt a.wdt wdt → Slots Adt a.adt adt → P (twin a wdt adt)) →
      (b : Lc B) → States a b → P b
  settled a P at b h =
      let same : twin a b.wdt b.adt ≡ b = λ i. record { mode = h.mode i; wdt = b.wdt; adt = b.adt; watch = h.watch i; points = h.points i } in
      subst P same (at b.wdt b.adt h.wdt h.adt)

  module _ (a : Lc A) (wdt adt : Slot B) (h : Slots Wdt a.wdt wdt) (h' : Slots Adt a.adt adt) where
    unchanged : States a (twin a wdt adt)
    unchanged = record { mode = refl; wdt = h; adt = h'; watch = refl; points = refl }

    force_alike : BothOrNone Pairs (in_force images a) (in_force others (twin a wdt adt))
    force_alike = paired_alike a.wdt.active a.adt.active wdt.active adt.active h.active h'.active

    obeyed_alike : (command : LcCommand) → SameAnswers States (lc_obeyed command a) (lc_obeyed command (twin a wdt adt))
    obeyed_alike NoOperation = unchanged
    obeyed_alike (SetMode number) =
        after_same States (found (mode_numbered number) 154) (λ mode. Ok (record a { mode = mode })) (λ mode. Ok (record (twin a wdt adt) { mode = mode }))
        (λ mode. record { mode = refl; wdt = h; adt = h'; watch = refl; points = refl })
    obeyed_alike (SetState index number) =
        after_same States (states_set index number a.points) (λ points. Ok (record a { points = points })) (λ points. Ok (record (twin a wdt adt) { points = points }))
        (λ points. record { mode = refl; wdt = h; adt = h'; watch = refl; points = refl })
    obeyed_alike (TurnPermanentlyOff index) =
        after_same States (one_set index turned_permanently_off a.points) (λ points. Ok (record a { points = points })) (λ points. Ok (record (twin a wdt adt) { points = points }))
        (λ points. record { mode = refl; wdt = h; adt = h'; watch = refl; points = refl })

    unless_alike : (r : Result (LcStep A History Past) Refusal) (s : Result (LcStep B History Past) Refusal) → SameAnswers LcSteps r s →
        LcSteps (unless_refused a r) (unless_refused (twin a wdt adt) s)
    unless_alike (Ok s) (Ok t) e = e
    unless_alike (Ok s) (Err refusal) e = absurd e
    unless_alike (Err refusal) (Ok t) e = absurd e
    unless_alike (Err r) (Err s) e = (unchanged, ap (λ r. (unless_refused a (Err r)).1) e)

    commanded_alike : (packet : List ℕ) → SameAnswers LcSteps (lc_commanded packet a) (lc_commanded packet (twin a wdt adt))
    commanded_alike packet =
        let done : List Request = lc_command_done (function_code packet) ∷ [] in
        after_same LcSteps (lc_command_in packet) (λ command. lc_obeyed command a >>= (λ now. Ok (now, done)))
        (λ command. lc_obeyed command (twin a wdt adt) >>= (λ now. Ok (now, done)))
        (λ command. after States LcSteps (lc_obeyed command a) (lc_obeyed command (twin a wdt adt)) (λ now. Ok (now, done)) (λ now. Ok (now, done)) (obeyed_alike command)
        (λ s t e. (e, refl)))

    telemetry_alike : (packet : List ℕ) → LcSteps (lc_telemetry by_lists images packet a) (lc_telemetry by_lists others packet (twin a wdt adt))
    telemetry_alike packet =
        let b : Lc B = twin a wdt adt in
        branch LcSteps (is_disabled a.mode) (a, []) (option_map_or (watched by_lists images packet a) (in_force images a) (a, []))
        (b, []) (option_map_or (watched by_lists others packet b) (in_force others b) (b, [])) (unchanged, refl)
        (both_map_or Pairs LcSteps (watched by_lists images packet a) (watched by_lists others packet b) (in_force images a) (in_force others b) (a, []) (b, []) force_alike
        (λ p q e. (
          record { mode = refl; wdt = h; adt = h'; watch = refl; points = refl },
          ap (λ short. if short then short_packet (message_id packet) ∷ [] else []) (agree.short p q e.0 e.1 packet),
        ))
        (unchanged, refl))

    sampled_alike : (request : SampleRequest) (p : Pair A) (q : Pair B) → Pairs p q →
        LcSteps (sampled_by by_lists images request a p) (sampled_by by_lists others request (twin a wdt adt) q)
    sampled_alike request p q e =
        let same = same_points request (images.terms p) (others.terms q) a.mode a.watch 0 (images.rules p) (others.rules q) a.points (agree.rules p q e.0 e.1) in
        (record { mode = refl; wdt = h; adt = h'; watch = refl; points = ap (λ s. s.0) same }, ap (λ s. s.1) same)

    sample_alike : (packet : List ℕ) → SameAnswers LcSteps (lc_sample by_lists images packet a) (lc_sample by_lists others packet (twin a wdt adt))
    sample_alike packet =
        let b : Lc B = twin a wdt adt in
        after_same LcSteps (sample_request (function_code packet) (payload packet))
        (λ request. Ok (if is_disabled a.mode then (a, []) else option_map_or (sampled_by by_lists images request a) (in_force images a) (a, [])))
        (λ request. Ok (if is_disabled a.mode then (b, []) else option_map_or (sampled_by by_lists others request b) (in_force others b) (b, [])))
        (λ request. branch LcSteps (is_disabled a.mode) (a, []) (option_map_or (sampled_by by_lists images request a) (in_force images a) (a, []))
        (b, []) (option_map_or (sampled_by by_lists others request b) (in_force others b) (b, [])) (unchanged, refl)
        (both_map_or Pairs LcSteps (sampled_by by_lists images request a) (sampled_by by_lists others request b) (in_force images a) (in_force others b) (a, []) (b, []) force_alike
        (sampled_alike request) (unchanged, refl)))

    adopted_alike : (p : Pair A) (q : Pair B) → Pairs p q → LcSteps (adopted by_lists images a p) (adopted by_lists others (twin a wdt adt) q)
    adopted_alike p q e = (
      record {
        mode = refl;
        wdt = taken_alike Wdt a.wdt wdt h;
        adt = taken_alike Adt a.adt adt h';
        watch = refl;
        points = same_fresh (images.rules p) (others.rules q) (agree.rules p q e.0 e.1);
      },
      refl,
    )

    adopting_alike : LcSteps (option_map_or (adopted by_lists images a) (pair_to_adopt images a.wdt a.adt) (a, []))
        (option_map_or (adopted by_lists others (twin a wdt adt)) (pair_to_adopt others wdt adt) (twin a wdt adt, []))
    adopting_alike =
        both_map_or Pairs LcSteps (adopted by_lists images a) (adopted by_lists others (twin a wdt adt)) (pair_to_adopt images a.wdt a.adt) (pair_to_adopt others wdt adt)
        (a, []) (twin a wdt adt, []) (adoption_alike a.wdt a.adt wdt adt h h') adopted_alike (unchanged, refl)

  housekeeping_alike : (packet : List ℕ) (a : Lc A) (wdt adt : Slot B) → Slots Wdt a.wdt wdt → Slots Adt a.adt adt →
      SameAnswers LcSteps (lc_housekeeping by_lists images packet a) (lc_housekeeping by_lists others packet (twin a wdt adt))
  housekeeping_alike packet a wdt adt h h' = by_request (bare_request 0 (function_code packet) (payload packet))
    where
      s : Slot A × List Request
      s = validated images Wdt a.wdt

      s' : Slot A × List Request
      s' = validated images Adt a.adt

      t : Slot B × List Request
      t = validated others Wdt wdt

      t' : Slot B × List Request
      t' = validated others Adt adt

      e : SlotSteps Wdt s t
      e = validated_alike Wdt a.wdt wdt h

      e' : SlotSteps Adt s' t'
      e' = validated_alike Adt a.adt adt h'

      now : Lc A
      now = record a { wdt = s.0; adt = s'.0 }

      adopting : LcStep A History Past
      adopting = option_map_or (adopted by_lists images now) (pair_to_adopt images s.0 s'.0) (now, [])

      other : LcStep B History Past
      other = option_map_or (adopted by_lists others (twin now t.0 t'.0)) (pair_to_adopt others t.0 t'.0) (twin now t.0 t'.0, [])

      both : LcSteps adopting other
      both = adopting_alike now t.0 t'.0 e.0 e'.0

      by_request : (r : Result (Unit {0}) Refusal) →
          SameAnswers LcSteps (r >>= (λ _. Ok (adopting.0, s.1 ++ s'.1 ++ adopting.1 ++ housekeeping_of by_lists adopting.0 ∷ [])))
          (r >>= (λ _. Ok (other.0, t.1 ++ t'.1 ++ other.1 ++ housekeeping_of by_lists other.0 ∷ [])))
      by_request (Err refusal) = refl
      by_request (Ok request) = (
        both.0,
        λ i. e.1 i ++ e'.1 i ++ both.1 i ++ Housekeeping (both.0.mode i) (map (standing by_lists) (both.0.points i)) ∷ [],
      )

  pub packet_alike : (packet : List ℕ) (a : Lc A) (b : Lc B) → States a b → LcSteps (lc_packet by_lists images packet a) (lc_packet by_lists others packet b)
  packet_alike packet a b =
      let mid : ℕ = message_id packet in
      settled a (λ b. LcSteps (lc_packet by_lists images packet a) (lc_packet by_lists others packet b))
      (λ wdt adt h h'. let b : Lc B = twin a wdt adt in
      branch LcSteps (mid == lc_command_mid) (unless_refused a (lc_commanded packet a)) _ (unless_refused b (lc_commanded packet b)) _
      (unless_alike a wdt adt h h' (lc_commanded packet a) (lc_commanded packet b) (commanded_alike a wdt adt h h' packet))
      (branch LcSteps (mid == lc_housekeeping_request_mid) (unless_refused a (lc_housekeeping by_lists images packet a)) _ (unless_refused b (lc_housekeeping by_lists others packet b)) _
      (unless_alike a wdt adt h h' (lc_housekeeping by_lists images packet a) (lc_housekeeping by_lists others packet b) (housekeeping_alike packet a wdt adt h h'))
      (branch LcSteps (mid == sample_mid) (unless_refused a (lc_sample by_lists images packet a)) _ (unless_refused b (lc_sample by_lists others packet b)) _
      (unless_alike a wdt adt h h' (lc_sample by_lists images packet a) (lc_sample by_lists others packet b) (sample_alike a wdt adt h h' packet))
      (branch LcSteps (is_telemetry_mid mid) (lc_telemetry by_lists images packet a) (a, []) (lc_telemetry by_lists others packet b) (b, [])
      (telemetry_alike a wdt adt h h' packet) (unchanged a wdt adt h h', refl))))) b
