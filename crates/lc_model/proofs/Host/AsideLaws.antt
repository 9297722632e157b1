-- Asides can be left out: the same sequence requests are sent.
use Rattle.std.proofs.Common.{◌≡◌, ℕ, Bool, true, false, not, List, [], ◌∷◌, ◌++◌, ◌==◌, refl, ap, ap₂, sym, ◌∙◌, Option, Some, None, if◌then◌else◌, IsTrue, true≢false}
use Rattle.std.specs.List.{filter}
use Rattle.std.specs.Option.{option_map_or}
use Rattle.std.proofs.lemmas.List.Elements.{filter-append}
use Rattle.lc_model.specs.declared.record.Moment.{Moment}
use Rattle.lc_model.specs.Name.{Name}
use Rattle.lc_model.specs.Packet.{stream_fault, message_id, event_services_mid, table_services_mid, executive_services_mid, counter_mid}
use Rattle.lc_model.specs.Tables.Interpretation.{FileMeanings, Interpretation}
use Rattle.lc_model.specs.Events.Request.{event_services, table_services, executive_services, bad_packet}
use Rattle.lc_model.specs.Command.{order_in}
use Rattle.lc_model.specs.Host.Schedule.{Schedule}
use Rattle.lc_model.specs.Host.Stream.{StreamEntry, Contents, Packet, Tick, File, Half}
use Rattle.lc_model.specs.Host.World.{World, first_world}
use Rattle.lc_model.specs.Host.React.{Step, answered, event_service, table_service, executive_service, to_counter, to_lc, routed, on_packet, react}
use Rattle.lc_model.specs.Host.Run.{Sent, input_of, all_delivered, handled, sent_from, sequences_of}
use Rattle.lc_model.specs.Laws.Isolation.{names_another, is_aside, without_asides, AsidesDoNotCount}
use Rattle.lc_model.proofs.Host.SameCore.{is_sequence, requests_from, count_after, SameCore, itself, and_so, all_sent}
use Rattle.lc_model.proofs.Host.SameCoreSteps.{SameStep, IsIdle, events_idle, counter_idle, another_idle}
use Rattle.lc_model.proofs.Host.SameCoreInputs.{same_reaction}

-- ---- what is sent after steps that are alike

-- the worlds afterwards are alike, and the same sequence requests are sent
record SameSending {Image : Type 0} (s t : Sent Image) : Type 0 where
  alike : SameCore s.0 t.0
  packets : filter is_sequence s.1 ≡ filter is_sequence t.1

sent_alike : {Image : Type 0} (moment later : Moment) (s t : Step Image) → SameStep s t →
    SameSending (all_delivered moment s.1 s.0) (all_delivered later t.1 t.0)
sent_alike moment later s t same =
    let a = all_sent moment s.1 s.0 in
    let b = all_sent later t.1 t.0 in
    record {
      alike = record {
        core = a.core ∙ same.alike.core ∙ sym b.core;
        count = a.count ∙ ap₂ count_after same.alike.count same.numbers ∙ sym b.count;
      };
      packets = a.packets ∙ ap₂ requests_from same.alike.count same.numbers ∙ sym b.packets;
    }

-- ---- asides

-- by the service whose message id it is, or by the counter's
by_mids : {Image : Type 0} (P : Step Image → Type 0) (event table executive counter another : Bool) (a b c d e : Step Image) →
    IsTrue (if event then true else if table then false else if executive then another else counter) → P a → (IsTrue another → P c) → P d →
    P (if event then a else if table then b else if executive then c else if counter then d else e)
by_mids P true table executive counter another a b c d e aside at_a at_c at_d = at_a
by_mids P false true executive counter another a b c d e aside at_a at_c at_d = absurd (true≢false (sym aside))
by_mids P false false true counter another a b c d e aside at_a at_c at_d = at_c aside
by_mids P false false false true another a b c d e aside at_a at_c at_d = at_d
by_mids P false false false false another a b c d e aside at_a at_c at_d = absurd (true≢false (sym aside))

module _ {Image : Type 0} (images : Interpretation Image) (schedule : Schedule) where
  packet_idle : (bytes : List ℕ) (w : World Image) → IsTrue (is_aside (Packet bytes)) → IsIdle w (on_packet images bytes w)
  packet_idle bytes w aside = by_fault (stream_fault bytes)
    where
      goes : IsIdle w (routed images bytes w)
      goes =
          let mid : ℕ = message_id bytes in
          by_mids (λ (s : Step Image). IsIdle w s) (mid == event_services_mid) (mid == table_services_mid) (mid == executive_services_mid) (mid == counter_mid)
          (names_another (order_in bytes))
          (answered event_services bytes w (event_service bytes w)) (answered table_services bytes w (table_service images bytes w))
          (answered executive_services bytes w (executive_service images bytes w)) (to_counter bytes w) (to_lc images bytes w)
          aside (events_idle bytes w) (λ other. another_idle images bytes w other) (counter_idle bytes w)

      by_fault : (o : Option ℕ) → IsIdle w (option_map_or (λ reason. (w, bad_packet reason ∷ [])) o (routed images bytes w))
      by_fault (Some reason) = record { alike = itself w; numbers = refl }
      by_fault None = goes

  aside_idle : (meanings : FileMeanings Image) (contents : Contents) (w : World Image) → IsTrue (is_aside contents) →
      IsIdle w (react images schedule w (input_of meanings contents))
  aside_idle meanings (Packet bytes) w aside = packet_idle bytes w aside
  aside_idle meanings Tick w aside = absurd (true≢false (sym aside))
  aside_idle meanings (File name bytes) w aside = absurd (true≢false (sym aside))
  aside_idle meanings (Half name kind text) w aside = absurd (true≢false (sym aside))

  -- ---- the run

  -- from alike worlds on
  from_alike : (meanings : FileMeanings Image) (entries : List StreamEntry) (w v : World Image) → SameCore w v →
      filter is_sequence (sent_from images schedule w meanings entries) ≡ filter is_sequence (sent_from images schedule v meanings (without_asides entries))
  from_alike meanings [] w v alike = refl
  from_alike meanings (entry ∷ entries) w v alike = by_test (from_alike meanings entries) (is_aside entry.contents) refl
    where
      by_test :
          ((x y : World Image) → SameCore x y →
          filter is_sequence (sent_from images schedule x meanings entries) ≡ filter is_sequence (sent_from images schedule y meanings (without_asides entries))) →
          (test : Bool) → is_aside entry.contents ≡ test →
          filter is_sequence (sent_from images schedule w meanings (entry ∷ entries))
          ≡ filter is_sequence (sent_from images schedule v meanings (if not test then entry ∷ without_asides entries else without_asides entries))
      by_test later true aside =
          let s : Sent Image = handled images schedule entry.moment (input_of meanings entry.contents) w in
          let one = sent_alike entry.moment entry.moment (react images schedule w (input_of meanings entry.contents)) (w, []) (aside_idle meanings entry.contents w aside) in
          filter-append is_sequence s.1 (sent_from images schedule s.0 meanings entries)
          ∙ ap₂ (λ a b. a ++ b) one.packets (later s.0 v (and_so s.0 w v one.alike alike))
      by_test later false none =
          let s : Sent Image = handled images schedule entry.moment (input_of meanings entry.contents) w in
          let t : Sent Image = handled images schedule entry.moment (input_of meanings entry.contents) v in
          let one = sent_alike entry.moment entry.moment (react images schedule w (input_of meanings entry.contents)) (react images schedule v (input_of meanings entry.contents))
          (same_reaction images schedule (input_of meanings entry.contents) w v alike) in
          filter-append is_sequence s.1 (sent_from images schedule s.0 meanings entries)
          ∙ ap₂ (λ a b. a ++ b) one.packets (later s.0 t.0 one.alike)
          ∙ sym (filter-append is_sequence t.1 (sent_from images schedule t.0 meanings (without_asides entries)))

-- the records without asides lead to the same sequence requests
asides_left_out : {Image : Type 0} (images : Interpretation Image) (schedule : Schedule) (stock : List Name) (meanings : FileMeanings Image) (entries : List StreamEntry) →
    sequences_of images schedule stock meanings entries ≡ sequences_of images schedule stock meanings (without_asides entries)
asides_left_out images schedule stock meanings entries =
    from_alike images schedule meanings entries (first_world stock) (first_world stock) (itself (first_world stock))

pub asides_do_not_count : {Image : Type 0} (images : Interpretation Image) → AsidesDoNotCount images
asides_do_not_count images schedule stock meanings entries others same =
    asides_left_out images schedule stock meanings entries
    ∙ ap (sequences_of images schedule stock meanings) same
    ∙ sym (asides_left_out images schedule stock meanings others)
