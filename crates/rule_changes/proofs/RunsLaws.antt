-- Over whole runs: the sequence requests of a mission with the old text, and those with the new one.
use Rattle.std.proofs.Common.{◌≡◌, ℕ, zero, suc, ◌+◌, ◌%◌, ◌≤◌, Bool, List, [], ◌∷◌, ◌++◌, length, map, take, refl, ap, ap₂, sym, ◌∙◌, arith, Ok, Some}
use Rattle.std.specs.Prelude.{⊤, ◌≢◌}
use Rattle.std.specs.List.{filter, AllByRecursion, concat}
use Rattle.std.proofs.lemmas.List.{length-append}
use Rattle.std.proofs.lemmas.List.Elements.{filter-append}
use Rattle.lc_model.specs.declared.mode.LcMode.{LcMode}
use Rattle.lc_model.specs.declared.mode.LcMode.TheVariants as mode
use Rattle.lc_model.specs.Name.{Name}
use Rattle.lc_model.specs.Packet.{message_id, lc_command_mid, count_end}
use Rattle.lc_model.specs.Rule.{Actionpoint, actions}
use Rattle.lc_model.specs.Tables.Image.{Layout}
use Rattle.lc_model.specs.Tables.HalvesAndBytes.{Text, TextImage, as_halves, text_meanings}
use Rattle.lc_model.specs.Events.Outgoing.{sequence_request}
use Rattle.lc_model.specs.Events.Request.{Request, Event, Sequence, Housekeeping}
use Rattle.lc_model.specs.Command.{SetMode, mode_numbered, lc_command_in}
use Rattle.lc_model.specs.Host.Schedule.{Schedule}
use Rattle.lc_model.specs.Host.Stream.{StreamEntry, Contents, Packet, Tick, File, Half, records_of}
use Rattle.lc_model.specs.Host.World.{World, first_world}
use Rattle.lc_model.specs.Host.React.{Step, react}
use Rattle.lc_model.specs.Host.Run.{Sent, input_of, all_delivered, sent_from}
use Rattle.lc_model.specs.Laws.Reworded.{AreNotOf}
use Rattle.lc_model.proofs.Host.SameCore.{is_sequence, sequences_in, numbers_in, count_after, all_sent}
use Rattle.lc_model.proofs.Host.SameCore as core
use Rattle.rule_changes.specs.Runs.{requests_from, requests_called_for, request_packets, RequestsAreSent, every, requests_of, times_requested, RequestsAlike, AreAlikeFor, AreNoSoonerFor, ComeByNumber, SetsNoPassive, NeverPassive, AlikeTextsRequestAlike, SequencesStayAlike, SequencesComeNoSooner}
use Rattle.rule_changes.specs.Runs as runs
use Rattle.rule_changes.specs.RunsWritten.{AlikeTextsWriteSameRequests}
use Rattle.rule_changes.proofs.RunsSeats.{fresh_seats}
use Rattle.rule_changes.proofs.RunsComparison.{Comparison, Seats, PaysOver}
use Rattle.rule_changes.proofs.RunsWorlds as worlds
use Rattle.rule_changes.proofs.RunsSent.{react_keeps}
use Rattle.rule_changes.proofs.RunsTexts as texts
use Rattle.rule_changes.proofs.RunsAlike.{alike_for, fresh_alike, alike_itself}
use Rattle.rule_changes.proofs.RunsNoSooner.{no_sooner_for, fresh_no_sooner, no_sooner_itself}

-- ---- two runs of a comparison

module _ (layouts : List Layout) (old new : Text) (others : List Text) (schedule : Schedule) (stock : List Name) (stream : List ℕ) (apart : ComeByNumber others stream old new)
    (c : Comparison) (fresh : Seats c 0 (fresh_seats (actions old.rules)) (fresh_seats (actions new.rules)))
    (itself : (rules : List Actionpoint) → Seats c 0 (fresh_seats rules) (fresh_seats rules)) where
  abbrev Twin : TextImage → TextImage → Type 0
  Twin = texts.Twin layouts old new others apart.old_apart apart.new_apart

  -- packets leave the mode one in which the runs are compared
  abbrev IsFair : Contents → Type 0
  IsFair contents = (bytes : List ℕ) → contents ≡ Packet bytes → message_id bytes ≡ lc_command_mid →
      (number : ℕ) (m : LcMode) → lc_command_in bytes ≡ Ok (SetMode number) → mode_numbered number ≡ Some m → c.Allows m

  abbrev Comes : StreamEntry → Type 0
  Comes = worlds.ComesAlike Twin (as_halves layouts) (as_halves layouts) c (texts.agree layouts old new others apart.old_apart apart.new_apart)
      (texts.kin layouts old new others apart.old_apart apart.new_apart c fresh itself) schedule (text_meanings layouts (old ∷ others)) (text_meanings layouts (new ∷ others))

  fair_input : (contents : Contents) → IsFair contents →
      worlds.IsFairInput Twin (as_halves layouts) (as_halves layouts) c (texts.agree layouts old new others apart.old_apart apart.new_apart)
      (texts.kin layouts old new others apart.old_apart apart.new_apart c fresh itself) schedule (input_of (text_meanings layouts (old ∷ others)) contents)
  fair_input (Packet bytes) fair = fair bytes refl
  fair_input Tick fair = tt
  fair_input (File name bytes) fair = tt
  fair_input (Half name kind number) fair = tt

  all_come : (entries : List StreamEntry) → AreNotOf old entries → AreNotOf new entries → AllByRecursion (λ (entry : StreamEntry). IsFair entry.contents) entries → AllByRecursion Comes entries
  all_come [] free free' fair = tt
  all_come (entry ∷ entries) free free' fair = (
    (texts.brings_alike layouts old new others apart.old_apart apart.new_apart entry.contents free.0 free'.0, fair_input entry.contents fair.0),
    all_come entries free.1 free'.1 fair.1,
  )

  pays_over : AllByRecursion (λ (entry : StreamEntry). IsFair entry.contents) (records_of (length (old ∷ others)) stream).0 →
      PaysOver c 0 (requests_called_for layouts (old ∷ others) schedule stock stream) (requests_called_for layouts (new ∷ others) schedule stock stream)
  pays_over fair =
      worlds.records_beside Twin (as_halves layouts) (as_halves layouts) c (texts.agree layouts old new others apart.old_apart apart.new_apart)
      (texts.kin layouts old new others apart.old_apart apart.new_apart c fresh itself) schedule (text_meanings layouts (old ∷ others)) (text_meanings layouts (new ∷ others))
      (records_of (length (old ∷ others)) stream).0 (all_come (records_of (length (old ∷ others)) stream).0 apart.old_files apart.new_files fair)
      0 (first_world stock) (first_world stock)
      (worlds.first_beside Twin (as_halves layouts) (as_halves layouts) c (texts.agree layouts old new others apart.old_apart apart.new_apart) stock)

-- ---- the requests of a set

as_numbers : (requests : List Request) → runs.sequences_in requests ≡ numbers_in requests
as_numbers [] = refl
as_numbers (Event sender id kind text ∷ requests) = as_numbers requests
as_numbers (Sequence number ∷ requests) = ap (λ ns. number ∷ ns) (as_numbers requests)
as_numbers (Housekeeping m points ∷ requests) = as_numbers requests

module _ (wanted : ℕ → Bool) where
  same_requests : (d : ℕ) (xs ys : List (List Request)) → PaysOver (alike_for wanted) d xs ys → requests_of wanted xs ≡ requests_of wanted ys
  same_requests d [] [] h = refl
  same_requests d [] (y ∷ ys) h = absurd h
  same_requests d (x ∷ xs) [] h = absurd h
  same_requests d (x ∷ xs) (y ∷ ys) h =
      ap₂ (λ a b. a ∷ b) (ap (filter wanted) (as_numbers x) ∙ h.1 ∙ sym (ap (filter wanted) (as_numbers y))) (same_requests h.0 xs ys h.2)

  no_more_requests : (n d : ℕ) (xs ys : List (List Request)) → PaysOver (no_sooner_for wanted) d xs ys →
      times_requested wanted (take n ys) ≤ times_requested wanted (take n xs) + d
  no_more_requests zero d xs ys h = omega arith
  no_more_requests (suc n) d [] [] h = omega arith
  no_more_requests (suc n) d [] (y ∷ ys) h = absurd h
  no_more_requests (suc n) d (x ∷ xs) [] h = absurd h
  no_more_requests (suc n) d (x ∷ xs) (y ∷ ys) h =
      let rest = no_more_requests n h.0 xs ys h.2 in
      let ours = length-append (filter wanted (runs.sequences_in y)) (concat (requests_of wanted (take n ys))) in
      let theirs = length-append (filter wanted (runs.sequences_in x)) (concat (requests_of wanted (take n xs))) in
      let here = ap (λ ns. length (filter wanted ns)) (as_numbers y) in
      let there = ap (λ ns. length (filter wanted ns)) (as_numbers x) in
      omega (arith, rest, ours, theirs, here, there, h.1)

always_fair : (entries : List StreamEntry) → AllByRecursion (λ (entry : StreamEntry). (bytes : List ℕ) → entry.contents ≡ Packet bytes → message_id bytes ≡ lc_command_mid →
    (number : ℕ) (m : LcMode) → lc_command_in bytes ≡ Ok (SetMode number) → mode_numbered number ≡ Some m → ⊤) entries
always_fair [] = tt
always_fair (entry ∷ entries) = (λ bytes is mid number m command state. tt, always_fair entries)

pub sequences_stay_alike : SequencesStayAlike
sequences_stay_alike layouts old new others schedule stock stream wanted apart alike =
    same_requests wanted 0 (requests_called_for layouts (old ∷ others) schedule stock stream) (requests_called_for layouts (new ∷ others) schedule stock stream)
    (pays_over layouts old new others schedule stock stream apart (alike_for wanted) (fresh_alike wanted (actions old.rules) (actions new.rules) alike)
    (λ rules. fresh_alike wanted rules rules (alike_itself wanted rules)) (always_fair (records_of (length (old ∷ others)) stream).0))

-- ---- no more often

never_passive_fair : (entries : List StreamEntry) → NeverPassive entries → AllByRecursion (λ (entry : StreamEntry). (bytes : List ℕ) → entry.contents ≡ Packet bytes →
    message_id bytes ≡ lc_command_mid → (number : ℕ) (m : LcMode) → lc_command_in bytes ≡ Ok (SetMode number) → mode_numbered number ≡ Some m → m ≢ mode.Passive) entries
never_passive_fair [] never = tt
never_passive_fair (entry ∷ entries) never =
    (λ bytes is mid number m command state passive. never.0 bytes number is mid command (state ∙ ap Some passive), never_passive_fair entries never.1)

pub sequences_come_no_sooner : SequencesComeNoSooner
sequences_come_no_sooner layouts old new others schedule stock stream wanted n apart later never =
    let less = no_more_requests wanted n 0 (requests_called_for layouts (old ∷ others) schedule stock stream) (requests_called_for layouts (new ∷ others) schedule stock stream)
    (pays_over layouts old new others schedule stock stream apart (no_sooner_for wanted) (fresh_no_sooner wanted (actions old.rules) (actions new.rules) later)
    (λ rules. fresh_no_sooner wanted rules rules (no_sooner_itself wanted rules)) (never_passive_fair (records_of (length (old ∷ others)) stream).0 never)) in
    omega (arith, less)

-- ---- packets

-- the packets of one record's requests, followed by those of later ones
packets_joined : (count : ℕ) (requests : List Request) (later : List ℕ) →
    core.requests_from count (numbers_in requests) ++ request_packets (count_after count (numbers_in requests)) later
    ≡ request_packets count (runs.sequences_in requests ++ later)
packets_joined count [] later = refl
packets_joined count (Event sender id kind text ∷ requests) later = packets_joined count requests later
packets_joined count (Sequence number ∷ requests) later =
    ap (λ packets. sequence_request (count % count_end) number ∷ packets) (packets_joined (1 + count) requests later)
packets_joined count (Housekeeping m points ∷ requests) later = packets_joined count requests later

sent_from_world : (layouts : List Layout) (schedule : Schedule) (texts : List Text) (entries : List StreamEntry) (w : World TextImage) →
    filter is_sequence (sent_from (as_halves layouts) schedule w (text_meanings layouts texts) entries)
    ≡ request_packets (sequences_in w.sent) (concat (map runs.sequences_in (requests_from (as_halves layouts) schedule w (text_meanings layouts texts) entries)))
sent_from_world layouts schedule texts [] w = refl
sent_from_world layouts schedule texts (entry ∷ entries) w =
    let input = input_of (text_meanings layouts texts) entry.contents in
    let s : Step TextImage = react (as_halves layouts) schedule w input in
    let after : Sent TextImage = all_delivered entry.moment s.1 s.0 in
    let later : List ℕ = concat (map runs.sequences_in (requests_from (as_halves layouts) schedule after.0 (text_meanings layouts texts) entries)) in
    let sends = all_sent entry.moment s.1 s.0 in
    let count = ap sequences_in (react_keeps (as_halves layouts) schedule w input) in
    filter-append is_sequence after.1 (sent_from (as_halves layouts) schedule after.0 (text_meanings layouts texts) entries)
    ∙ ap₂ (λ a b. a ++ b) (sends.packets ∙ ap (λ n. core.requests_from n (numbers_in s.1)) count)
    (sent_from_world layouts schedule texts entries after.0
    ∙ ap (λ n. request_packets n later) (sends.count ∙ ap (λ n. count_after n (numbers_in s.1)) count))
    ∙ packets_joined (sequences_in w.sent) s.1 later

pub requests_are_sent : RequestsAreSent
requests_are_sent layouts texts schedule stock stream = sent_from_world layouts schedule texts (records_of (length texts) stream).0 (first_world stock)

-- ---- byte for byte

filter_every : (numbers : List ℕ) → filter every numbers ≡ numbers
filter_every [] = refl
filter_every (number ∷ numbers) = ap (λ ns. number ∷ ns) (filter_every numbers)

all_requests : (records : List (List Request)) → concat (map runs.sequences_in records) ≡ concat (requests_of every records)
all_requests [] = refl
all_requests (requests ∷ records) = ap₂ (λ a b. a ++ b) (sym (filter_every (runs.sequences_in requests))) (all_requests records)

pub alike_texts_request_alike : AlikeTextsRequestAlike
alike_texts_request_alike layouts old new others schedule stock stream apart alike =
    let olds : List (List Request) = requests_called_for layouts (old ∷ others) schedule stock stream in
    let news : List (List Request) = requests_called_for layouts (new ∷ others) schedule stock stream in
    requests_are_sent layouts (old ∷ others) schedule stock stream
    ∙ ap (request_packets 0) (all_requests olds ∙ ap concat (sequences_stay_alike layouts old new others schedule stock stream every apart alike) ∙ sym (all_requests news))
    ∙ sym (requests_are_sent layouts (new ∷ others) schedule stock stream)

-- ---- what is written

pub alike_texts_write_same_requests : AlikeTextsWriteSameRequests
alike_texts_write_same_requests m sources d d' ending ending' old new others stream before before' flies flies' apart alike = record {
  old_gains = (flies.promise (old ∷ others) stream before flies.compiled flies.hashes flies.halves flies.source flies.sink flies.undisturbed).gains;
  new_gains = (flies'.promise (new ∷ others) stream before' flies'.compiled flies'.hashes flies'.halves flies'.source flies'.sink flies'.undisturbed).gains;
  requests = alike_texts_request_alike m.edition.layouts old new others m.schedule m.stock stream apart alike;
}
