-- Worlds of two runs by what sequence requests depend on: files and table commands keep them compared.
use Rattle.std.proofs.Common.{◌≡◌, ℕ, Bool, true, false, ◌&&◌, nat_le, nat_lt, List, [], ◌∷◌, ◌++◌, length, refl, ap, ap₂, sym, ◌∙◌, subst, arith, Option, Some, None, option_map, is_none, is_some, Result, Ok, Err, if◌then◌else◌, IfOk}
use Rattle.std.specs.List.{AllZip}
use Rattle.std.proofs.lemmas.Slice.Zip.{AllZip-long}
use Rattle.lc_model.specs.declared.kind.Kind.{Kind}
use Rattle.lc_model.specs.declared.kind.Kind.TheVariants.{Wdt, Adt}
use Rattle.lc_model.specs.Name.{Name, value_under, put}
use Rattle.lc_model.specs.Packet.{function_code}
use Rattle.lc_model.specs.Refusal.{Refusal, ◌>>=◌, refused, found, provided}
use Rattle.lc_model.specs.Tables.Slot.{Slot, Move, loaded, moved}
use Rattle.lc_model.specs.Tables.Interpretation.{FileMeaning, Opened, Unreadable, Interpretation, kind_named}
use Rattle.lc_model.specs.Events.Request.{Service, table_services, command_done}
use Rattle.lc_model.specs.Command.{TableCommand, Load, Manage, table_command_in}
use Rattle.lc_model.specs.Host.World.{max_files, World, Running, Lc, become}
use Rattle.lc_model.specs.Host.React.{max_file_size, Step, stored, filed, on_file, answered, opened_file, slot_of, with_slot, table_named, managed, table_service}
use Rattle.lc_model.specs.Laws.Correspondence.{BothOrNone, Agrees, SlotAlike, MeaningAlike}
use Rattle.lc_model.proofs.Host.TwoReadings.{SameAnswers, Entry, both_none, value_alike, put_alike}
use Rattle.lc_model.proofs.Host.SameCore.{Core, core_of, numbers_in}
use Rattle.lc_model.proofs.Host.SameCoreSteps.{IsIdle, Both, both_after, both_then}
use Rattle.lc_model.proofs.LimitChecker.Slots.{loaded_active, moved_active}
use Rattle.lc_model.proofs.LimitChecker.LimitCheckerOfTwo.{loaded_alike, moved_alike}
use Rattle.rule_changes.proofs.RunsComparison.{Comparison, pays_numbers, numbers-append}
use Rattle.rule_changes.proofs.RunsOneChecker.{shape, rules_in}
use Rattle.rule_changes.proofs.RunsStations as stations

-- ---- results and options

pub both_if : {A B : Type 0} (R : A → B → Type 0) (t u : Bool) (x x' : Result A Refusal) (y y' : Result B Refusal) → t ≡ u → Both R x y → Both R x' y' →
    Both R (if t then x else x') (if u then y else y')
both_if R t u x x' y y' e h h' = subst (λ u. Both R (if t then x else x') (if u then y else y')) e (by_test t)
  where
    by_test : (t : Bool) → Both R (if t then x else x') (if t then y else y')
    by_test true = h
    by_test false = h'

pub both_provided : {A B : Type 0} (R : A → B → Type 0) (t u : Bool) (code : ℕ) (x : A) (y : B) → t ≡ u → R x y → Both R (provided t code x) (provided u code y)
both_provided R t u code x y e h = subst (λ u. Both R (provided t code x) (provided u code y)) e (by_test t)
  where
    by_test : (t : Bool) → Both R (provided t code x) (provided t code y)
    by_test true = h
    by_test false = tt

both_found : {A B : Type 0} (R : A → B → Type 0) (o : Option A) (p : Option B) (code : ℕ) → BothOrNone R o p → Both R (found o code) (found p code)
both_found R None None code h = tt
both_found R None (Some y) code h = absurd h
both_found R (Some x) None code h = absurd h
both_found R (Some x) (Some y) code h = h

weaker : {A B : Type 0} (R : A → B → Type 0) (r : Result A Refusal) (q : Result B Refusal) → SameAnswers R r q → Both R r q
weaker R (Ok x) (Ok y) h = h
weaker R (Ok x) (Err b) h = absurd h
weaker R (Err a) (Ok y) h = absurd h
weaker R (Err a) (Err b) h = tt

-- ---- the scheduler's state

pub some_state : {State : Type 0} (o : Option (Running State)) → is_some o ≡ is_some (option_map (λ (r : Running State). r.state) o)
some_state None = refl
some_state (Some r) = refl

pub same_ticks : (n m : ℕ) → n ≡ m → (o p : Option (Running ℕ)) → option_map (λ (r : Running ℕ). r.state) o ≡ option_map (λ (r : Running ℕ). r.state) p →
    option_map (λ (r : Running ℕ). r.state) (option_map (λ (r : Running ℕ). record r { state = n }) o)
    ≡ option_map (λ (r : Running ℕ). r.state) (option_map (λ (r : Running ℕ). record r { state = m }) p)
same_ticks n m e None None h = refl
same_ticks n m e None (Some q) h = cc
same_ticks n m e (Some r) None h = cc
same_ticks n m e (Some r) (Some q) h = ap Some e

module _ {A B : Type 0} (alike : A → B → Type 0) (images : Interpretation A) (others : Interpretation B) (c : Comparison) (agree : Agrees alike (shape images) (shape others)) where
  abbrev pub Meanings : FileMeaning A → FileMeaning B → Type 0
  Meanings = MeaningAlike alike (shape images) (shape others)

  abbrev pub Stored : List (Name × FileMeaning A) → List (Name × FileMeaning B) → Type 0
  Stored = AllZip (Entry Meanings)

  abbrev pub Lcs : ℕ → Lc A → Lc B → Type 0
  Lcs = stations.Lcs alike images others c agree

  -- what sequence requests depend on, compared
  pub record Cores (d : ℕ) (x : Core A) (y : Core B) : Type 0 where
    pub files : Stored x.files y.files
    pub lc : BothOrNone (Lcs d) x.lc y.lc
    pub lc_spares : x.lc_spares ≡ y.lc_spares
    pub sch : x.sch ≡ y.sch
    pub sch_spares : x.sch_spares ≡ y.sch_spares

  abbrev pub Worlds : ℕ → World A → World B → Type 0
  Worlds d w v = Cores d (core_of w) (core_of v)

  abbrev pub Steps : ℕ → Step A → Step B → Type 0
  Steps d s t = (e : ℕ) × Worlds e s.0 t.0 × c.Pays d e (numbers_in s.1) (numbers_in t.1)

  pub at_rest : (d : ℕ) → c.Pays d d [] []
  at_rest d = c.nothing d d (omega arith)

  -- ---- steps that count for nothing

  pub both_idle : (d : ℕ) (w : World A) (v : World B) (s : Step A) (t : Step B) → Worlds d w v → IsIdle w s → IsIdle v t → Steps d s t
  both_idle d w v s t h idle idle' = (
    d,
    subst (λ x. Cores d x (core_of t.0)) (sym idle.alike.core) (subst (λ y. Cores d (core_of w) y) (sym idle'.alike.core) h),
    pays_numbers c d d [] (numbers_in s.1) [] (numbers_in t.1) idle.numbers idle'.numbers (at_rest d),
  )

  pub answered_beside : (d : ℕ) (service : Service) (packet : List ℕ) (w : World A) (v : World B) (r : Result (Step A) Refusal) (q : Result (Step B) Refusal) → Worlds d w v →
      Both (Steps d) r q → Steps d (answered service packet w r) (answered service packet v q)
  answered_beside d service packet w v (Ok s) (Ok t) h (e, after, pays) = (
    e,
    after,
    pays_numbers c d e (numbers_in s.1 ++ []) _ (numbers_in t.1 ++ []) _
        (numbers-append s.1 (command_done service (function_code packet) ∷ [])) (numbers-append t.1 (command_done service (function_code packet) ∷ []))
        (c.after d e e (numbers_in s.1) (numbers_in t.1) [] [] pays (at_rest e)),
  )
  answered_beside d service packet w v (Ok s) (Err b) h same = absurd same
  answered_beside d service packet w v (Err a) (Ok t) h same = absurd same
  answered_beside d service packet w v (Err a) (Err b) h same = (d, h, at_rest d)

  -- ---- files

  opened_beside : (m : FileMeaning A) (n : FileMeaning B) → Meanings m n →
      Both (λ (x : Name × ℕ × A) (y : Name × ℕ × B). (x.0 ≡ y.0) × (x.1 ≡ y.1) × alike x.2 y.2) (opened_file m) (opened_file n)
  opened_beside (Unreadable fault) (Unreadable other) h = tt
  opened_beside (Unreadable fault) (Opened table size y) h = absurd h
  opened_beside (Opened table size x) (Unreadable fault) h = absurd h
  opened_beside (Opened table size x) (Opened table' size' y) h = h

  stored_beside : (name : Name) (size : ℕ) (m : FileMeaning A) (n : FileMeaning B) (fs : List (Name × FileMeaning A)) (gs : List (Name × FileMeaning B)) →
      Meanings m n → Stored fs gs → Both Stored (stored name size m fs) (stored name size n gs)
  stored_beside name size m n fs gs meaning h =
      both_if Stored (nat_lt max_file_size size) (nat_lt max_file_size size) (refused 119) _ (refused 119) _ refl tt
      (both_if Stored (nat_le max_files (length fs) && is_none (value_under name fs)) (nat_le max_files (length gs) && is_none (value_under name gs))
      (refused 118) (Ok (put name m fs)) (refused 118) (Ok (put name n gs))
      (ap₂ (λ k none. nat_le max_files k && none) (sym (AllZip-long (Entry Meanings) fs gs h)) (both_none Meanings (value_under name fs) (value_under name gs) (value_alike Meanings name fs gs h)))
      tt (put_alike Meanings name m n fs gs meaning h))

  pub file_beside : (d : ℕ) (name : Name) (size : ℕ) (m : FileMeaning A) (n : FileMeaning B) (w : World A) (v : World B) → Meanings m n → Worlds d w v →
      Steps d (on_file name size m w) (on_file name size n v)
  file_beside d name size m n w v meaning h = by_stored (stored name size m w.files) (stored name size n v.files) (stored_beside name size m n w.files v.files meaning h.files)
    where
      by_stored : (r : Result (List (Name × FileMeaning A)) Refusal) (q : Result (List (Name × FileMeaning B)) Refusal) → Both Stored r q → Steps d (filed w r) (filed v q)
      by_stored (Ok fs) (Ok gs) same = (d, record { files = same; lc = h.lc; lc_spares = h.lc_spares; sch = h.sch; sch_spares = h.sch_spares }, at_rest d)
      by_stored (Ok fs) (Err b) same = absurd same
      by_stored (Err a) (Ok gs) same = absurd same
      by_stored (Err a) (Err b) same = (d, h, at_rest d)

  -- ---- tables

  pub running_beside : (d : ℕ) (o : Option (Running (Lc A))) (p : Option (Running (Lc B))) →
      BothOrNone (Lcs d) (option_map (λ (r : Running (Lc A)). r.state) o) (option_map (λ (r : Running (Lc B)). r.state) p) →
      BothOrNone (λ (r : Running (Lc A)) (q : Running (Lc B)). Lcs d r.state q.state) o p
  running_beside d None None h = tt
  running_beside d None (Some q) h = absurd h
  running_beside d (Some r) None h = absurd h
  running_beside d (Some r) (Some q) h = h

  become_beside : (d e : ℕ) (a : Lc A) (b : Lc B) → Lcs e a b → (o : Option (Running (Lc A))) (p : Option (Running (Lc B))) →
      BothOrNone (λ (r : Running (Lc A)) (q : Running (Lc B)). Lcs d r.state q.state) o p →
      BothOrNone (Lcs e) (option_map (λ (r : Running (Lc A)). r.state) (option_map (λ (r : Running (Lc A)). record r { state = a }) o))
      (option_map (λ (r : Running (Lc B)). r.state) (option_map (λ (r : Running (Lc B)). record r { state = b }) p))
  become_beside d e a b new None None h = tt
  become_beside d e a b new None (Some q) h = absurd h
  become_beside d e a b new (Some r) None h = absurd h
  become_beside d e a b new (Some r) (Some q) h = new

  pub world_become : (d e : ℕ) (a : Lc A) (b : Lc B) (w : World A) (v : World B) → Lcs e a b → Worlds d w v →
      Worlds e (record w { lc = become a w.lc }) (record v { lc = become b v.lc })
  world_become d e a b w v new h = record {
    files = h.files;
    lc = become_beside d e a b new w.lc.running v.lc.running (running_beside d w.lc.running v.lc.running h.lc);
    lc_spares = h.lc_spares;
    sch = h.sch;
    sch_spares = h.sch_spares;
  }

  -- a table of both
  abbrev Tables : ℕ → Kind × Lc A → Kind × Lc B → Type 0
  Tables d t u = (t.0 ≡ u.0) × Lcs d t.1 u.1

  table_beside : (d : ℕ) (name name' : Name) (w : World A) (v : World B) → name ≡ name' → Worlds d w v → Both (Tables d) (table_named name w) (table_named name' v)
  table_beside d name name' w v e h =
      subst (λ name'. Both (Tables d) (table_named name w) (table_named name' v)) e
      (both_after (Tables d) (found (kind_named name) 113) _ _ (λ (kind : Kind).
      both_then (λ (r : Running (Lc A)) (q : Running (Lc B)). Lcs d r.state q.state) (Tables d) (found w.lc.running 113) (found v.lc.running 113) _ _
      (both_found (λ (r : Running (Lc A)) (q : Running (Lc B)). Lcs d r.state q.state) w.lc.running v.lc.running 113 (running_beside d w.lc.running v.lc.running h.lc))
      (λ (r : Running (Lc A)) (q : Running (Lc B)) (same : Lcs d r.state q.state). (refl, same))))

  abbrev Slots : Kind → Slot A → Slot B → Type 0
  Slots = SlotAlike alike (shape images) (shape others)

  slot_beside : (d : ℕ) (kind : Kind) (a : Lc A) (b : Lc B) → Lcs d a b → Slots kind (slot_of kind a) (slot_of kind b)
  slot_beside d Wdt a b = stations.settled alike images others c agree d a b (λ x y. Slots Wdt x.wdt y.wdt) (λ s. s.wdts)
  slot_beside d Adt a b = stations.settled alike images others c agree d a b (λ x y. Slots Adt x.adt y.adt) (λ s. s.adts)

  -- a slot whose active image stays
  abbrev Stays : Kind → Lc A → Lc B → Slot A → Slot B → Type 0
  Stays kind a b s t = Slots kind s t × (s.active ≡ (slot_of kind a).active) × (t.active ≡ (slot_of kind b).active)

  with_slot_beside : (d : ℕ) (kind : Kind) (s : Slot A) (t : Slot B) (a : Lc A) (b : Lc B) → Stays kind a b s t → Lcs d a b → Lcs d (with_slot kind s a) (with_slot kind t b)
  with_slot_beside d Wdt s t a b stays h =
      stations.settled alike images others c agree d a b
      (λ x y. s.active ≡ x.wdt.active → t.active ≡ y.wdt.active → Lcs d (with_slot Wdt s x) (with_slot Wdt t y))
      (λ own e e'. (
        record own {
          wdt = s;
          their_wdt = t;
          wdts = stays.0;
          rules = own.rules ∙ sym (ap (λ active. rules_in images active own.adt.active) e);
          their_rules = own.their_rules ∙ sym (ap (λ active. rules_in others active own.their_adt.active) e');
        },
        refl,
        refl,
      )) h stays.1 stays.2
  with_slot_beside d Adt s t a b stays h =
      stations.settled alike images others c agree d a b
      (λ x y. s.active ≡ x.adt.active → t.active ≡ y.adt.active → Lcs d (with_slot Adt s x) (with_slot Adt t y))
      (λ own e e'. (
        record own {
          adt = s;
          their_adt = t;
          adts = stays.0;
          rules = own.rules ∙ sym (ap (λ active. rules_in images own.wdt.active active) e);
          their_rules = own.their_rules ∙ sym (ap (λ active. rules_in others own.their_wdt.active active) e');
        },
        refl,
        refl,
      )) h stays.1 stays.2

  and_ok : {X Y : Type 0} (R : X → Y → Type 0) (P : X → Type 0) (Q : Y → Type 0) (r : Result X Refusal) (q : Result Y Refusal) → Both R r q → IfOk r P → IfOk q Q →
      Both (λ x y. R x y × P x × Q y) r q
  and_ok R P Q (Ok x) (Ok y) h p p' = (h, p, p')
  and_ok R P Q (Ok x) (Err b) h p p' = h
  and_ok R P Q (Err a) (Ok y) h p p' = h
  and_ok R P Q (Err a) (Err b) h p p' = tt

  module _ (d : ℕ) (w : World A) (v : World B) (h : Worlds d w v) where
    -- an image put into the slot of a kind, where it has the size
    abbrev placed : {Image : Type 0} → Interpretation Image → World Image → Lc Image → Image → Kind → ℕ → Result (World Image) Refusal
    placed images w lc image kind size =
        provided (images.has_size kind size) 114 image
        >>= (λ image. loaded image (slot_of kind lc) >>= (λ slot. Ok (record w { lc = become (with_slot kind slot lc) w.lc })))

    -- a waiting image of a kind, moved
    abbrev shifted : {Image : Type 0} → World Image → Lc Image → Move → Kind → Result (World Image) Refusal
    shifted w lc move kind = moved move (slot_of kind lc) >>= (λ slot. Ok (record w { lc = become (with_slot kind slot lc) w.lc }))

    placed_beside : (kind : Kind) (size : ℕ) (a : Lc A) (b : Lc B) (x : A) (y : B) → Lcs d a b → alike x y → Both (Worlds d) (placed images w a x kind size) (placed others v b y kind size)
    placed_beside kind size a b x y same image =
        both_then alike (Worlds d) (provided (images.has_size kind size) 114 x) (provided (others.has_size kind size) 114 y) _ _
        (both_provided alike (images.has_size kind size) (others.has_size kind size) 114 x y (agree.sizes kind size) image)
        (λ x y image. both_then (Stays kind a b) (Worlds d) (loaded x (slot_of kind a)) (loaded y (slot_of kind b)) _ _
        (and_ok (Slots kind) (λ s. s.active ≡ (slot_of kind a).active) (λ t. t.active ≡ (slot_of kind b).active) (loaded x (slot_of kind a)) (loaded y (slot_of kind b))
        (weaker (Slots kind) (loaded x (slot_of kind a)) (loaded y (slot_of kind b))
        (loaded_alike alike (shape images) (shape others) agree kind x y (slot_of kind a) (slot_of kind b) image (slot_beside d kind a b same)))
        (loaded_active x (slot_of kind a)) (loaded_active y (slot_of kind b)))
        (λ s t stays. world_become d d (with_slot kind s a) (with_slot kind t b) w v (with_slot_beside d kind s t a b stays same) h))

    shifted_beside : (move : Move) (kind : Kind) (a : Lc A) (b : Lc B) → Lcs d a b → Both (Worlds d) (shifted w a move kind) (shifted v b move kind)
    shifted_beside move kind a b same =
        both_then (Stays kind a b) (Worlds d) (moved move (slot_of kind a)) (moved move (slot_of kind b)) _ _
        (and_ok (Slots kind) (λ s. s.active ≡ (slot_of kind a).active) (λ t. t.active ≡ (slot_of kind b).active) (moved move (slot_of kind a)) (moved move (slot_of kind b))
        (weaker (Slots kind) (moved move (slot_of kind a)) (moved move (slot_of kind b))
        (moved_alike alike (shape images) (shape others) agree kind move (slot_of kind a) (slot_of kind b) (slot_beside d kind a b same)))
        (moved_active move (slot_of kind a)) (moved_active move (slot_of kind b)))
        (λ s t stays. world_become d d (with_slot kind s a) (with_slot kind t b) w v (with_slot_beside d kind s t a b stays same) h)

    managed_beside : (command : TableCommand) → Both (Worlds d) (managed images command w) (managed others command v)
    managed_beside (Load file) =
        both_then Meanings (Worlds d) (found (value_under file w.files) 111) (found (value_under file v.files) 111) _ _
        (both_found Meanings (value_under file w.files) (value_under file v.files) 111 (value_alike Meanings file w.files v.files h.files))
        (λ m n meaning. both_then (λ (x : Name × ℕ × A) (y : Name × ℕ × B). (x.0 ≡ y.0) × (x.1 ≡ y.1) × alike x.2 y.2) (Worlds d) (opened_file m) (opened_file n) _ _ (opened_beside m n meaning)
        (λ x y opened. both_then (Tables d) (Worlds d) (table_named x.0 w) (table_named y.0 v) _ _ (table_beside d x.0 y.0 w v opened.0 h)
        (λ t u table. let same : placed others v u.1 y.2 t.0 x.1 ≡ placed others v u.1 y.2 u.0 y.1 = λ i. placed others v u.1 y.2 (table.0 i) (opened.1 i) in
        subst (λ after. Both (Worlds d) (placed images w t.1 x.2 t.0 x.1) after) same (placed_beside t.0 x.1 t.1 u.1 x.2 y.2 table.1 opened.2))))
    managed_beside (Manage move name) =
        both_then (Tables d) (Worlds d) (table_named name w) (table_named name v) _ _ (table_beside d name name w v refl h)
        (λ t u table. subst (λ kind. Both (Worlds d) (shifted w t.1 move t.0) (shifted v u.1 move kind)) table.0 (shifted_beside move t.0 t.1 u.1 table.1))

    pub tables_beside : (packet : List ℕ) → Steps d (answered table_services packet w (table_service images packet w)) (answered table_services packet v (table_service others packet v))
    tables_beside packet =
        answered_beside d table_services packet w v (table_service images packet w) (table_service others packet v) h
        (both_after (Steps d) (table_command_in packet) _ _ (λ (command : TableCommand).
        both_then (Worlds d) (Steps d) (managed images command w) (managed others command v) _ _ (managed_beside command)
        (λ (x : World A) (y : World B) (same : Worlds d x y). (d, same, at_rest d))))
