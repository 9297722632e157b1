-- The sequence requests of a mission, and those of the mission with a changed rule text, over every stream. This project's own.
use Rattle.std.specs.Prelude.{◌≡◌, ◌≢◌, ◌⊎◌, ℕ, ◌+◌, ◌%◌, ◌≤◌, Bool, true, false, List, [], ◌∷◌, map, filter, length, take, Some, Ok, ⊤}
use Rattle.std.specs.List.{AllByRecursion, concat}
use Rattle.lc_model.specs.declared.mode.LcMode.TheVariants as mode
use Rattle.lc_model.specs.Name.{Name}
use Rattle.lc_model.specs.Packet.{message_id, lc_command_mid, count_end}
use Rattle.lc_model.specs.Rule.{Actionpoint, actions}
use Rattle.lc_model.specs.Tables.Image.{Layout}
use Rattle.lc_model.specs.Tables.Interpretation.{FileMeanings, Interpretation}
use Rattle.lc_model.specs.Tables.HalvesAndBytes.{Text, as_halves, text_meanings}
use Rattle.lc_model.specs.Events.Request.{Request, Event, Sequence, Housekeeping}
use Rattle.lc_model.specs.Events.Outgoing.{sequence_request}
use Rattle.lc_model.specs.Command.{SetMode, mode_numbered, lc_command_in}
use Rattle.lc_model.specs.Host.Schedule.{Schedule}
use Rattle.lc_model.specs.Host.Stream.{StreamEntry, Contents, Packet, records_of}
use Rattle.lc_model.specs.Host.World.{World, first_world}
use Rattle.lc_model.specs.Host.React.{react}
use Rattle.lc_model.specs.Host.Run.{input_of, handled}
use Rattle.lc_model.specs.Host.Promise.{sequences_called_for}
use Rattle.lc_model.specs.Laws.Lagging.{IsTrueOnlyWhere, FailsNoSooner}
use Rattle.lc_model.specs.Laws.Reworded.{IsApart, AreNotOf}
use Rattle.rule_analysis.specs.Quiet.{IsQuiet}

-- ---- the requests of a run

-- The sequences that the requests ask for, in order.
abbrev pub sequences_in : List Request → List ℕ
sequences_in [] = []
sequences_in (Event sender id kind text ∷ requests) = sequences_in requests
sequences_in (Sequence number ∷ requests) = number ∷ sequences_in requests
sequences_in (Housekeeping mode points ∷ requests) = sequences_in requests

-- The requests at each record, starting from world `w`.
abbrev pub requests_from : {Image : Type 0} →
    Interpretation Image → Schedule → World Image → FileMeanings Image → List StreamEntry → List (List Request)
requests_from images schedule w meanings [] = []
requests_from images schedule w meanings (entry ∷ entries) =
    (react images schedule w (input_of meanings entry.contents)).1
    ∷ requests_from images schedule (handled images schedule entry.moment (input_of meanings entry.contents) w).0 meanings entries

-- The requests that the rule texts in force call for, at each record of the stream.
abbrev pub requests_called_for : List Layout → List Text → Schedule → List Name → List ℕ → List (List Request)
requests_called_for layouts texts schedule stock stream =
    requests_from (as_halves layouts) schedule (first_world stock) (text_meanings layouts texts) (records_of (length texts) stream).0

-- The packets that request these sequences, after `count` earlier ones.
abbrev pub request_packets : ℕ → List ℕ → List (List ℕ)
request_packets count [] = []
request_packets count (number ∷ numbers) = sequence_request (count % count_end) number ∷ request_packets (1 + count) numbers

-- Law: each request of a sequence is sent as a packet, in order. So each law on requests is one on packets.
abbrev pub RequestsAreSent : Type 0
RequestsAreSent = (layouts : List Layout) (texts : List Text) (schedule : Schedule) (stock : List Name) (stream : List ℕ) →
    sequences_called_for layouts texts schedule stock stream
    ≡ request_packets 0 (concat (map sequences_in (requests_called_for layouts texts schedule stock stream)))

-- The set of all sequences.
abbrev pub every : ℕ → Bool
every sequence = true

-- The requests of a set of sequences, in order, at each record.
abbrev pub requests_of : (ℕ → Bool) → List (List Request) → List (List ℕ)
requests_of wanted records = map (λ requests. filter wanted (sequences_in requests)) records

-- How often sequences of the set are requested, over all records.
abbrev pub times_requested : (ℕ → Bool) → List (List Request) → ℕ
times_requested wanted records = length (concat (requests_of wanted records))

-- ---- two rules

-- The rules fail for the same histories, start in the same state, need equally many failures in a row, and have the same sequence.
pub record RequestsAlike (old new : Actionpoint) : Type 0 where
  pub only : IsTrueOnlyWhere new.condition old.condition
  pub wherever : IsTrueOnlyWhere old.condition new.condition
  pub mode : old.mode ≡ new.mode
  pub fails : old.fails ≡ new.fails
  pub sequence : old.sequence ≡ new.sequence

-- The new rule fails no sooner than the old one, starts in the same state, and has the same sequence.
pub record RequestsNoSooner (old new : Actionpoint) : Type 0 where
  pub later : FailsNoSooner new old
  pub mode : old.mode ≡ new.mode
  pub sequence : old.sequence ≡ new.sequence

-- The rule requests no sequence of the set: it has another sequence, or never fails.
abbrev pub RequestsNone : (ℕ → Bool) → Actionpoint → Type 0
RequestsNone wanted rule = (wanted rule.sequence ≡ false) ⊎ IsQuiet rule

-- ---- two texts

-- Rules of the same number request alike, or neither requests a sequence of the set. A rule whose number only one text has requests
-- none of them.
abbrev pub AreAlikeFor : (ℕ → Bool) → List Actionpoint → List Actionpoint → Type 0
AreAlikeFor wanted [] [] = ⊤
AreAlikeFor wanted (old ∷ olds) [] = RequestsNone wanted old × AreAlikeFor wanted olds []
AreAlikeFor wanted [] (new ∷ news) = RequestsNone wanted new × AreAlikeFor wanted [] news
AreAlikeFor wanted (old ∷ olds) (new ∷ news) =
    (RequestsAlike old new ⊎ (RequestsNone wanted old × RequestsNone wanted new)) × AreAlikeFor wanted olds news

-- Each new rule requests no sooner than the old one of the same number, or requests no sequence of the set.
abbrev pub AreNoSoonerFor : (ℕ → Bool) → List Actionpoint → List Actionpoint → Type 0
AreNoSoonerFor wanted olds [] = ⊤
AreNoSoonerFor wanted [] (new ∷ news) = RequestsNone wanted new × AreNoSoonerFor wanted [] news
AreNoSoonerFor wanted (old ∷ olds) (new ∷ news) =
    (RequestsNoSooner old new ⊎ RequestsNone wanted new) × AreNoSoonerFor wanted olds news

-- ---- two missions

-- Halves of both texts come by number only: neither text is among the others of its mission, and no raw file of the stream has the hash
-- of either.
pub record ComeByNumber (others : List Text) (stream : List ℕ) (old new : Text) : Type 0 where
  pub old_apart : IsApart old others
  pub new_apart : IsApart new others
  pub old_files : AreNotOf old (records_of (length (old ∷ others)) stream).0
  pub new_files : AreNotOf new (records_of (length (new ∷ others)) stream).0

-- If the record is a command to the Limit Checker that sets its mode, the mode is not passive.
abbrev pub SetsNoPassive : Contents → Type 0
SetsNoPassive contents = (bytes : List ℕ) (number : ℕ) → contents ≡ Packet bytes → message_id bytes ≡ lc_command_mid →
    lc_command_in bytes ≡ Ok (SetMode number) → mode_numbered number ≢ Some mode.Passive

-- No command of the stream makes the Limit Checker passive.
abbrev pub NeverPassive : List StreamEntry → Type 0
NeverPassive entries = AllByRecursion (λ (entry : StreamEntry). SetsNoPassive entry.contents) entries

-- Law: if rules of the same number request alike, or never fail, both missions call for the same sequence requests, byte for byte,
-- whatever stream comes. Events and housekeeping may differ.
abbrev pub AlikeTextsRequestAlike : Type 0
AlikeTextsRequestAlike =
    (layouts : List Layout) (old new : Text) (others : List Text) (schedule : Schedule) (stock : List Name) (stream : List ℕ) →
    ComeByNumber others stream old new → AreAlikeFor every (actions old.rules) (actions new.rules) →
    sequences_called_for layouts (old ∷ others) schedule stock stream ≡ sequences_called_for layouts (new ∷ others) schedule stock stream

-- Law: if the texts are alike for a set of sequences, both missions request the same sequences of the set at each record of every
-- stream, equally often and in the same order. The sequence counts of the packets may differ.
abbrev pub SequencesStayAlike : Type 0
SequencesStayAlike =
    (layouts : List Layout) (old new : Text) (others : List Text) (schedule : Schedule) (stock : List Name) (stream : List ℕ)
    (wanted : ℕ → Bool) →
    ComeByNumber others stream old new → AreAlikeFor wanted (actions old.rules) (actions new.rules) →
    requests_of wanted (requests_called_for layouts (old ∷ others) schedule stock stream)
    ≡ requests_of wanted (requests_called_for layouts (new ∷ others) schedule stock stream)

-- Law: if the new text requests sequences of a set no sooner, and no command of the stream makes the Limit Checker passive, then after
-- each number of records the new mission has requested sequences of the set at most as often as the old one.
abbrev pub SequencesComeNoSooner : Type 0
SequencesComeNoSooner =
    (layouts : List Layout) (old new : Text) (others : List Text) (schedule : Schedule) (stock : List Name) (stream : List ℕ)
    (wanted : ℕ → Bool) (n : ℕ) →
    ComeByNumber others stream old new → AreNoSoonerFor wanted (actions old.rules) (actions new.rules) →
    NeverPassive (records_of (length (old ∷ others)) stream).0 →
    times_requested wanted (take n (requests_called_for layouts (new ∷ others) schedule stock stream))
    ≤ times_requested wanted (take n (requests_called_for layouts (old ∷ others) schedule stock stream))
