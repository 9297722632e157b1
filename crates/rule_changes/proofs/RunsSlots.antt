-- Slots of two runs whose images are alike: what verdicts, adoption and the start do to them.
use Rattle.std.proofs.Common.{◌≡◌, Bool, true, false, ◌&&◌, ◌||◌, List, [], refl, ap, ap₂, sym, ◌∙◌, subst, Option, Some, None, is_none, is_some, unwrap_or, if◌then◌else◌, IsTrue}
use Rattle.std.specs.Option.{option_map_or}
use Rattle.std.specs.List.{AllZip}
use Rattle.lc_model.specs.declared.kind.Kind.{Kind}
use Rattle.lc_model.specs.declared.kind.Kind.TheVariants.{Wdt, Adt}
use Rattle.lc_model.specs.Name.{Name, is_named, value_under}
use Rattle.lc_model.specs.Tables.Image.{ImageFault}
use Rattle.lc_model.specs.Tables.File.{table_name}
use Rattle.lc_model.specs.Tables.Slot.{Slot, Stage, Waiting, Loaded, Asked, Valid, Activated, is_at, in_use, waiting_at, candidate, with_waiting, judged, taken}
use Rattle.lc_model.specs.Tables.Interpretation.{FileMeaning, Opened, Unreadable, Pair, Interpretation, default_file}
use Rattle.lc_model.specs.Events.Request.{Request}
use Rattle.lc_model.specs.LimitChecker.Steps.{paired, sound_image, default_image, told_verdict, validated, pair_to_adopt}
use Rattle.lc_model.specs.Laws.Correspondence.{BothOrNone, SoundAlike, Agrees, IsFound, WaitingAlike, SlotAlike, MeaningAlike}
use Rattle.lc_model.proofs.Host.TwoReadings.{Entry, branch, both_map_or, both_or, both_some, value_alike}

module _ {A B : Type 0} (alike : A → B → Type 0) (images : Interpretation A) (others : Interpretation B) (agree : Agrees alike images others) where
  -- alike, and sound
  abbrev pub Sound : Kind → A → B → Type 0
  Sound kind x y = alike x y × (images.fault_of kind x ≡ None)

  abbrev Waits : Kind → Waiting A → Waiting B → Type 0
  Waits kind = WaitingAlike alike images others kind

  abbrev pub Slots : Kind → Slot A → Slot B → Type 0
  Slots kind = SlotAlike alike images others kind

  -- slots with what is asked
  abbrev pub SlotSteps : Kind → Slot A × List Request → Slot B × List Request → Type 0
  SlotSteps kind s t = Slots kind s.0 t.0 × (s.1 ≡ t.1)

  waiting_alike : (kind : Kind) (stage : Stage) (s : Slot A) (t : Slot B) → Slots kind s t → BothOrNone alike (waiting_at stage s) (waiting_at stage t)
  waiting_alike kind stage s t h =
      both_map_or (Waits kind) (BothOrNone alike) (λ (w : Waiting A). if is_at stage w.stage then Some w.image else None)
      (λ (w : Waiting B). if is_at stage w.stage then Some w.image else None) s.waiting t.waiting None None h.waiting
      (λ a b w. subst (λ st. BothOrNone alike (if is_at stage a.stage then Some a.image else None) (if is_at stage st then Some b.image else None)) w.stage
      (branch (BothOrNone alike) (is_at stage a.stage) (Some a.image) None (Some b.image) None w.image tt)) tt

  activated_at : (kind : Kind) (st : Stage) (x : A) (y : B) → alike x y → IsFound alike images others kind st x →
      BothOrNone (Sound kind) (if is_at Activated st then Some x else None) (if is_at Activated st then Some y else None)
  activated_at kind Loaded x y h sound = tt
  activated_at kind Asked x y h sound = tt
  activated_at kind Valid x y h sound = tt
  activated_at kind Activated x y h sound = (h, sound)

  activated_alike : (kind : Kind) (s : Slot A) (t : Slot B) → Slots kind s t → BothOrNone (Sound kind) (waiting_at Activated s) (waiting_at Activated t)
  activated_alike kind s t h =
      both_map_or (Waits kind) (BothOrNone (Sound kind)) (λ (w : Waiting A). if is_at Activated w.stage then Some w.image else None)
      (λ (w : Waiting B). if is_at Activated w.stage then Some w.image else None) s.waiting t.waiting None None h.waiting
      (λ a b w. subst (λ st. BothOrNone (Sound kind) (if is_at Activated a.stage then Some a.image else None) (if is_at Activated st then Some b.image else None)) w.stage
      (activated_at kind a.stage a.image b.image w.image w.sound)) tt

  candidate_alike : (kind : Kind) (s : Slot A) (t : Slot B) → Slots kind s t → BothOrNone (Sound kind) (candidate s) (candidate t)
  candidate_alike kind s t h =
      both_or (Sound kind) (waiting_at Activated s) s.active (waiting_at Activated t) t.active (activated_alike kind s t h) h.active

  pub taken_alike : (kind : Kind) (s : Slot A) (t : Slot B) → Slots kind s t → Slots kind (taken s) (taken t)
  taken_alike kind s t h =
      both_map_or (Sound kind) (Slots kind) in_use in_use (waiting_at Activated s) (waiting_at Activated t) s t (activated_alike kind s t h)
      (λ x y sound. record { active = sound; waiting = tt }) h

  judged_alike : (kind : Kind) (valid : Bool) (s : Slot A) (t : Slot B) → Slots kind s t →
      ((x : A) → waiting_at Asked s ≡ Some x → IsFound alike images others kind (if valid then Valid else Loaded) x) → Slots kind (judged valid s) (judged valid t)
  judged_alike kind valid s t h sound = by_image (waiting_at Asked s) (waiting_at Asked t) (waiting_alike kind Asked s t h) sound
    where
      by_image : (o : Option A) (p : Option B) → BothOrNone alike o p →
          ((x : A) → o ≡ Some x → IsFound alike images others kind (if valid then Valid else Loaded) x) →
          Slots kind (option_map_or (λ image. with_waiting (if valid then Valid else Loaded) image s) o s) (option_map_or (λ image. with_waiting (if valid then Valid else Loaded) image t) p t)
      by_image None None image found = h
      by_image None (Some y) image found = absurd image
      by_image (Some x) None image found = absurd image
      by_image (Some x) (Some y) image found = record { active = h.active; waiting = record { stage = refl; image = image; sound = found x refl } }

  told_alike : (kind : Kind) (fault : Option ImageFault) (s : Slot A) (t : Slot B) → Slots kind s t →
      ((x : A) → waiting_at Asked s ≡ Some x → images.fault_of kind x ≡ fault) →
      SlotSteps kind (told_verdict images kind fault s) (told_verdict others kind fault t)
  told_alike kind None s t h found = (judged_alike kind true s t h found, refl)
  told_alike kind (Some fault) s t h found = (judged_alike kind false s t h (λ x e. tt), refl)

  pub validated_alike : (kind : Kind) (s : Slot A) (t : Slot B) → Slots kind s t → SlotSteps kind (validated images kind s) (validated others kind t)
  validated_alike kind s t h = by_image (waiting_at Asked s) (waiting_at Asked t) refl (waiting_alike kind Asked s t h)
    where
      by_image : (o : Option A) (p : Option B) → waiting_at Asked s ≡ o → BothOrNone alike o p →
          SlotSteps kind (option_map_or (λ image. told_verdict images kind (images.fault_of kind image) s) o (s, []))
          (option_map_or (λ image. told_verdict others kind (others.fault_of kind image) t) p (t, []))
      by_image None None e image = (h, refl)
      by_image None (Some y) e image = absurd image
      by_image (Some x) None e image = absurd image
      by_image (Some x) (Some y) e image =
          subst (λ fault. SlotSteps kind (told_verdict images kind (images.fault_of kind x) s) (told_verdict others kind fault t)) (agree.faults kind x y image)
          (told_alike kind (images.fault_of kind x) s t h (λ z f. ap (λ o. images.fault_of kind (unwrap_or o x)) (sym f ∙ e)))

  -- ---- pairs

  abbrev pub Pairs : Pair A → Pair B → Type 0
  Pairs p q = SoundAlike alike images others p q × IsTrue (images.matches p)

  pub paired_alike : (o o' : Option A) (p p' : Option B) → BothOrNone (Sound Wdt) o p → BothOrNone (Sound Adt) o' p' →
      BothOrNone Pairs (paired images o o') (paired others p p')
  paired_alike None o' None p' h h' = tt
  paired_alike None o' (Some b) p' h h' = absurd h
  paired_alike (Some a) o' None p' h h' = absurd h
  paired_alike (Some a) None (Some b) None h h' = tt
  paired_alike (Some a) None (Some b) (Some b') h h' = absurd h'
  paired_alike (Some a) (Some a') (Some b) None h h' = absurd h'
  paired_alike (Some a) (Some a') (Some b) (Some b') h h' =
      subst (λ test. BothOrNone Pairs (if images.matches p then Some p else None) (if test then Some q else None)) (agree.matches p q sound)
      (by_test (images.matches p) refl)
    where
      p : Pair A
      p = record { wdt = a; adt = a' }

      q : Pair B
      q = record { wdt = b; adt = b' }

      sound : SoundAlike alike images others p q
      sound = record { wdt = h.0; adt = h'.0; wdt_sound = h.1; adt_sound = h'.1 }

      by_test : (test : Bool) → images.matches p ≡ test → BothOrNone Pairs (if test then Some p else None) (if test then Some q else None)
      by_test true matching = (sound, matching)
      by_test false other = tt

  pub adoption_alike : (s s' : Slot A) (t t' : Slot B) → Slots Wdt s t → Slots Adt s' t' → BothOrNone Pairs (pair_to_adopt images s s') (pair_to_adopt others t t')
  adoption_alike s s' t t' h h' =
      subst (λ test. BothOrNone Pairs (pair_to_adopt images s s') (if test then paired others (candidate t) (candidate t') else None))
      (ap₂ (λ a b. a || b) (both_some (Sound Wdt) (waiting_at Activated s) (waiting_at Activated t) (activated_alike Wdt s t h))
      (both_some (Sound Adt) (waiting_at Activated s') (waiting_at Activated t') (activated_alike Adt s' t' h')))
      (branch (BothOrNone Pairs) (is_some (waiting_at Activated s) || is_some (waiting_at Activated s'))
      (paired images (candidate s) (candidate s')) None (paired others (candidate t) (candidate t')) None
      (paired_alike (candidate s) (candidate s') (candidate t) (candidate t') (candidate_alike Wdt s t h) (candidate_alike Adt s' t' h')) tt)

  -- ---- the start

  -- files that mean alike
  abbrev pub Files : List (Name × FileMeaning A) → List (Name × FileMeaning B) → Type 0
  Files = AllZip (Entry (MeaningAlike alike images others))

  sound_image_alike : (kind : Kind) (m : FileMeaning A) (n : FileMeaning B) → MeaningAlike alike images others m n →
      BothOrNone (Sound kind) (sound_image images kind m) (sound_image others kind n)
  sound_image_alike kind (Unreadable fault) (Unreadable other) h = tt
  sound_image_alike kind (Unreadable fault) (Opened table size b) h = absurd h
  sound_image_alike kind (Opened table size a) (Unreadable fault) h = absurd h
  sound_image_alike kind (Opened table size a) (Opened table' size' b) h =
      subst (λ test. BothOrNone (Sound kind) (sound_image images kind (Opened table size a)) (if test then Some b else None))
      (ap₂ (λ t f. is_named t (table_name kind) && is_none f) h.0 (agree.faults kind a b h.2))
      (by_fault (images.fault_of kind a) refl (is_named table (table_name kind)))
    where
      by_fault : (fault : Option ImageFault) → images.fault_of kind a ≡ fault → (named : Bool) →
          BothOrNone (Sound kind) (if named && is_none fault then Some a else None) (if named && is_none fault then Some b else None)
      by_fault None e true = (h.2, e)
      by_fault None e false = tt
      by_fault (Some fault) e true = tt
      by_fault (Some fault) e false = tt

  pub default_alike : (kind : Kind) (fs : List (Name × FileMeaning A)) (gs : List (Name × FileMeaning B)) → Files fs gs →
      BothOrNone (Sound kind) (default_image images kind fs) (default_image others kind gs)
  default_alike kind fs gs h =
      both_map_or (MeaningAlike alike images others) (BothOrNone (Sound kind)) (sound_image images kind) (sound_image others kind)
      (value_under (default_file kind) fs) (value_under (default_file kind) gs) None None (value_alike (MeaningAlike alike images others) (default_file kind) fs gs h)
      (sound_image_alike kind) tt
