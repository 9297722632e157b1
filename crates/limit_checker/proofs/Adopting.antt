-- The pair of images that is adopted, and what is there once it is.
use Rattle.std.proofs.Common.{◌≡◌, refl, ap, sym, ◌∙◌, subst, ℕ, ◌+◌, ◌≤◌, Bool, true, false, ◌||◌, ◌==◌, List, [], ◌∷◌, length, map, arith, if◌then◌else◌, Option, Some, None}
use Rattle.std.specs.Prelude.{IfSome, IsSomeAnd, IsTrue, is_some, bytes_eq}
use Rattle.std.specs.Option.{option_map_or}
use Rattle.std.proofs.lemmas.Slice.Eq.{bytes_eq-Decides}
use Rattle.lc_model.specs.declared.field.Term.{Term}
use Rattle.lc_model.specs.declared.kind.Kind.{Kind}
use Rattle.lc_model.specs.Tables.Half.{IsMatch}
use Rattle.lc_model.specs.Tables.Image.{fault_of, hash_of, watchpoint_count}
use Rattle.lc_model.specs.Tables.InForce.{layouts}
use Rattle.lc_model.specs.Tables.Spelled.{spelled_terms, spelled_rules}
use Rattle.lc_model.specs.Tables.Slot.{Slot, Waiting, Stage, Loaded, Asked, Valid, Activated, candidate, in_use, taken, waiting_at}
use Rattle.lc_model.specs.LimitChecker.Steps.{paired, pair_to_adopt}
use Rattle.lc_model.specs.Kept.Call.{with_mids}
use Rattle.lc_model.specs.Kept.GoesWith.{IsFoundSound, subscriptions_of}
use Rattle.lc_model.specs.Kept.Summary.{LcOwn, LcState}
use Rattle.lc_model.specs.Packet.{lc_command_mid, lc_housekeeping_request_mid, sample_mid}
use Rattle.lc_model.specs.Services.Settled.{form_of, wdt_form, adt_form}
use Rattle.lc_model.specs.Services.Tables.{TableService, Handle, tables_at, table_at, slot_at, slot_changed}
use Rattle.lc_model.specs.Services.Bus.{Bus, Queue, pipe_at, with_pipe}
use Rattle.lc_model.proofs.Facts.{and_both, tested_equal}
use Rattle.table_validator.specs.Sound.{TableImage}
use Rattle.app_host.specs.Shared.{on_board}
use Rattle.lc_model.proofs.Services.Subscriptions.{both_changes, is_there, still_there}
use Rattle.limit_checker.specs.Adoption.{are_matching, pair_of, HasSoundSlot}
use Rattle.limit_engine.specs.Engine.{with_tables}
use Rattle.limit_checker.specs.Housekeeping.{adt_of, wdt_of, own_adopted, pair_at}
use Rattle.limit_checker.proofs.TwoTables.{HasTwo, two_tables, as_is, first_changed, second_registered}

-- ---- sound images

pub sound_one : (kind : Kind) (slot : Slot (List ℕ)) (image : List ℕ) → HasSoundSlot kind slot → Some image ≡ candidate slot → fault_of layouts kind image ≡ None
unfolding on_board
sound_one kind slot image sound is = by_waiting slot.waiting sound.waiting is
  where
    by_stage : (stage : Stage) (waiting : List ℕ) → IsFoundSound on_board kind stage waiting →
        Some image ≡ candidate (record { active = slot.active; waiting = Some (record { stage = stage; image = waiting }) }) → fault_of layouts kind image ≡ None
    by_stage Loaded waiting found e = subst (λ o. IfSome o (λ other. fault_of layouts kind other ≡ None)) (sym e) sound.active
    by_stage Asked waiting found e = subst (λ o. IfSome o (λ other. fault_of layouts kind other ≡ None)) (sym e) sound.active
    by_stage Valid waiting found e = subst (λ o. IfSome o (λ other. fault_of layouts kind other ≡ None)) (sym e) sound.active
    by_stage Activated waiting found e = subst (λ o. IfSome o (λ other. fault_of layouts kind other ≡ None)) (sym e) found

    by_waiting : (o : Option (Waiting (List ℕ))) → IfSome o (λ (waiting : Waiting (List ℕ)). IsFoundSound on_board kind waiting.stage waiting.image) →
        Some image ≡ candidate (record { active = slot.active; waiting = o }) → fault_of layouts kind image ≡ None
    by_waiting None found e = subst (λ o. IfSome o (λ other. fault_of layouts kind other ≡ None)) (sym e) sound.active
    by_waiting (Some waiting) found e = by_stage waiting.stage waiting.image found e

-- ---- the pair

matches_is : (wdt adt : List ℕ) → on_board.matches (record { wdt = wdt; adt = adt }) ≡ are_matching wdt adt
unfolding on_board
matches_is wdt adt = refl

module _ (w a : Slot (List ℕ)) (wdt adt : TableImage) (some : true ≡ (is_some (waiting_at Activated w) || is_some (waiting_at Activated a)))
    (first : Some wdt.bytes ≡ candidate w) (second : Some adt.bytes ≡ candidate a) where
  by_matching : (b : Bool) → are_matching wdt.bytes adt.bytes ≡ b → pair_to_adopt on_board w a ≡ (if b then Some (pair_of (wdt, adt)) else None)
  by_matching b is =
      ap (λ test. if test then paired on_board (candidate w) (candidate a) else None) (sym some)
      ∙ (λ i. paired on_board (sym first i) (sym second i))
      ∙ ap (λ test. if test then Some (pair_of (wdt, adt)) else None) (matches_is wdt.bytes adt.bytes ∙ is)

  pub pair_found : true ≡ are_matching wdt.bytes adt.bytes → Some (pair_of (wdt, adt)) ≡ pair_to_adopt on_board w a
  pair_found is = sym (by_matching true (sym is))

  pub pair_refused : false ≡ are_matching wdt.bytes adt.bytes → None ≡ pair_to_adopt on_board w a
  pair_refused is = sym (by_matching false (sym is))

pub they_match : (wdt adt : List ℕ) → true ≡ are_matching wdt adt → IsMatch wdt adt
they_match wdt adt is =
    let both = and_both (bytes_eq (hash_of wdt) (hash_of adt)) (watchpoint_count wdt == watchpoint_count adt) (sym is) in
    record { hash = (bytes_eq-Decides (hash_of wdt) (hash_of adt)).0 both.0; watchpoints = tested_equal (watchpoint_count wdt) (watchpoint_count adt) both.1 }

-- ---- what is taken

pub nothing_taken : (slot : Slot (List ℕ)) → false ≡ is_some (waiting_at Activated slot) → taken slot ≡ slot
nothing_taken slot none = by_image (waiting_at Activated slot) none
  where
    by_image : (o : Option (List ℕ)) → false ≡ is_some o → option_map_or in_use o slot ≡ slot
    by_image None e = refl
    by_image (Some image) e = cc

-- ---- the pipe

-- with room for the message ids of requests and of a whole table
pub has_room : (seat : ℕ) (first between : Bus) (mids : List ℕ) (more : ℕ) → IsSomeAnd (pipe_at seat first) (λ (queue : Queue). queue.subscriptions ≡ mids) →
    IfSome (pipe_at seat first) (λ (queue : Queue). between ≡ with_pipe seat first (record queue { subscriptions = [] })) → more ≤ 176 →
    IsSomeAnd (pipe_at seat between) (λ (queue : Queue). length queue.subscriptions + 3 + more ≤ 256)
has_room seat first between mids more there was few = by_place (pipe_at seat first) refl there
  where
    by_place : (place : Option Queue) → pipe_at seat first ≡ place → IsSomeAnd place (λ (queue : Queue). queue.subscriptions ≡ mids) →
        IsSomeAnd (pipe_at seat between) (λ (queue : Queue). length queue.subscriptions + 3 + more ≤ 256)
    by_place None e has = absurd has
    by_place (Some queue) e has =
        subst (λ (place : Option Queue). IsSomeAnd place (λ (q : Queue). length q.subscriptions + 3 + more ≤ 256))
        (sym (still_there seat first between (λ q. []) (is_there _ (pipe_at seat first) there) was queue e)) (omega (arith, few))

-- without any subscription, and then with those of these watchpoints
pub heard_anew : (seat : ℕ) (first between last : Bus) (terms : List Term) (old new : LcOwn) → IsSomeAnd (pipe_at seat first) (λ (queue : Queue). queue.subscriptions ≡ subscriptions_of (LcState old)) →
    IfSome (pipe_at seat first) (λ (queue : Queue). between ≡ with_pipe seat first (record queue { subscriptions = [] })) →
    IfSome (pipe_at seat between) (λ (queue : Queue). last ≡ with_pipe seat between (record queue {
      subscriptions = with_mids (lc_command_mid ∷ lc_housekeeping_request_mid ∷ sample_mid ∷ map (λ (t : Term). t.mid) terms) queue.subscriptions;
    })) →
    terms ≡ new.terms → IfSome (pipe_at seat first) (λ (queue : Queue). last ≡ with_pipe seat first (record queue { subscriptions = subscriptions_of (LcState new) }))
heard_anew seat first between last terms old new has was is same =
    subst (λ ts. IfSome (pipe_at seat first) (λ (queue : Queue). last ≡ with_pipe seat first (record queue {
      subscriptions = with_mids (lc_command_mid ∷ lc_housekeeping_request_mid ∷ sample_mid ∷ map (λ (t : Term). t.mid) ts) [];
    }))) same
    (both_changes seat first between last (λ mids. []) (with_mids (lc_command_mid ∷ lc_housekeeping_request_mid ∷ sample_mid ∷ map (λ (t : Term). t.mid) terms))
    (is_there _ (pipe_at seat first) has) was is)

-- ---- the two tables, and the engine

pub second_still_there : (change : Slot (List ℕ) → Slot (List ℕ)) (seat : ℕ) (before after : TableService) (wdt adt : Handle) → map form_of (tables_at seat before.places) ≡ wdt_form ∷ adt_form ∷ [] → wdt ≡ wdt_of seat → adt ≡ adt_of seat →
    after ≡ slot_changed change wdt before → IsTrue (is_some (table_at adt after.places))
second_still_there change seat before after wdt adt forms first second is =
    let two : HasTwo seat before = two_tables seat before forms in
    subst (λ handle. IsTrue (is_some (table_at handle after.places))) (sym second)
    (subst (λ (service : TableService). IsTrue (is_some (table_at (adt_of seat) service.places)))
    (sym (is ∙ (λ i. slot_changed change (first i) (as_is seat before two i)) ∙ first_changed seat before two change two.first.slot two.second.slot))
    (second_registered seat before two (change two.first.slot) two.second.slot))

pub engine_has : (seat : ℕ) (service : TableService) (first second : Handle) (wdt adt : TableImage) (old new : LcOwn) → first ≡ wdt_of seat → second ≡ adt_of seat →
    Some (pair_of (wdt, adt)) ≡ pair_to_adopt on_board (slot_at first service) (slot_at second service) →
    new ≡ with_tables (spelled_terms wdt.bytes) (spelled_rules layouts wdt.bytes adt.bytes) old → new ≡ own_adopted (pair_at seat service) old
unfolding on_board
engine_has seat service first second wdt adt old new one other found is =
    is ∙ ap (λ pair. own_adopted pair old) (found ∙ (λ i. pair_to_adopt on_board (slot_at (one i) service) (slot_at (other i) service)))
