-- Laws of `Records`: however a stream is cut into pieces, its records are those of the whole stream. This project's own.
use Rattle.std.specs.Prelude.{◌≡◌, ℕ, ◌+◌, min, true, List, [], ◌∷◌, ◌++◌, length}
use Rattle.lc_model.specs.Host.Stream.{StreamEntry, End, Whole, Bad, Truncated, Front, EndOfStream, Record, NoRecord, CutRecord, all_kinds, front, records_numbered, records_of}
use Rattle.flight_core.specs.Records.{Held, after_next, fed, front_of, most_counted, nothing_held, taken_of}

-- The records `entries`, then the others.
abbrev pub behind : List StreamEntry → List StreamEntry × End → List StreamEntry × End
behind entries others = (entries ++ others.0, others.1)

-- Of the bytes `come`, the records `entries` were handed out and the bytes `held` are unread: whatever bytes follow, the records
-- of the whole stream are `entries`, then those of the unread bytes and what follows.
abbrev pub IsHandedOut : (texts : ℕ) (come : List ℕ) (entries : List StreamEntry) (held : List ℕ) → Type 0
IsHandedOut texts come entries held = (more : List ℕ) →
    records_of texts (come ++ more) ≡ behind entries (records_numbered all_kinds texts (length entries + 1) (held ++ more))

-- ---- one step

-- Law: `IsHandedOut` holds at the start.
abbrev pub Begins : Type 0
Begins = (texts : ℕ) → IsHandedOut texts [] [] []

-- Law: `IsHandedOut` still holds after a piece came.
abbrev pub Comes : Type 0
Comes = (texts : ℕ) (come : List ℕ) (entries : List StreamEntry) (held piece : List ℕ) →
    IsHandedOut texts come entries held → IsHandedOut texts (come ++ piece) entries (held ++ piece)

-- Law: `IsHandedOut` still holds after a record was handed out.
abbrev pub Goes : Type 0
Goes = (texts : ℕ) (come : List ℕ) (entries : List StreamEntry) (held : List ℕ) (entry : StreamEntry) (rest : List ℕ) →
    IsHandedOut texts come entries held → front all_kinds texts held ≡ Record entry rest → IsHandedOut texts come (entries ++ entry ∷ []) rest

-- ---- the end of the stream, by the unread bytes

-- Law: if the next record is bad, the stream ends there (141), whatever follows.
abbrev pub EndsBadly : Type 0
EndsBadly = (texts : ℕ) (come : List ℕ) (entries : List StreamEntry) (held more : List ℕ) →
    IsHandedOut texts come entries held → front all_kinds texts held ≡ NoRecord → records_of texts (come ++ more) ≡ (entries, Bad (length entries + 1))

-- Law: if no bytes are unread and none follow, the stream ends after a whole record.
abbrev pub EndsWhole : Type 0
EndsWhole = (texts : ℕ) (come : List ℕ) (entries : List StreamEntry) (held : List ℕ) →
    IsHandedOut texts come entries held → front all_kinds texts held ≡ EndOfStream → records_of texts come ≡ (entries, Whole)

-- Law: if a part of a record is unread and nothing follows, the stream ends inside it (142).
abbrev pub EndsCut : Type 0
EndsCut = (texts : ℕ) (come : List ℕ) (entries : List StreamEntry) (held : List ℕ) →
    IsHandedOut texts come entries held → front all_kinds texts held ≡ CutRecord → records_of texts come ≡ (entries, Truncated (length entries + 1))

-- ---- any calls

-- `feed` with this piece, or `next`.
pub data Call : Type 0 where
  Feed : (piece : List ℕ) → Call
  Next : Call

-- The effect of some calls: the bytes taken, the records handed out, and the state of `Records` afterwards.
pub record Course : Type 0 where
  pub come : List ℕ
  pub entries : List StreamEntry
  pub held : Held

-- The record that `next` hands out, if any.
abbrev pub entry_in_front : Front → List StreamEntry
entry_in_front (Record entry rest) = entry ∷ []
entry_in_front other = []

-- The effect of one call.
abbrev pub after_call : Call → Held → Course
after_call (Feed piece) held = record { come = taken_of held piece; entries = []; held = fed held piece }
after_call Next held = record { come = []; entries = entry_in_front (front_of held); held = after_next held }

-- The effect of one and then of others.
abbrev pub joined : Course → Course → Course
joined first others = record { come = first.come ++ others.come; entries = first.entries ++ others.entries; held = others.held }

-- The effect of these calls.
abbrev pub after_calls : List Call → Held → Course
after_calls [] held = record { come = []; entries = []; held = held }
after_calls (call ∷ calls) held = joined (after_call call held) (after_calls calls (after_call call held).held)

-- The effect of these calls on new `Records`.
abbrev pub course_of : ℕ → List Call → Course
course_of texts calls = after_calls calls (nothing_held texts)

-- The records handed out are those of the bytes taken, and are counted up to 2^64 - 1. If the next record is bad, the whole
-- stream ends there (141), whatever follows.
pub record IsOfTheWhole (texts : ℕ) (course : Course) : Type 0 where
  pub handed_out : IsHandedOut texts course.come course.entries course.held.bytes
  pub counted : course.held.count ≡ min (length course.entries) most_counted
  pub of_texts : course.held.texts ≡ texts
  pub bad : course.held.is_bad ≡ true → (more : List ℕ) → records_of texts (course.come ++ more) ≡ (course.entries, Bad (length course.entries + 1))

-- Law: for every list of calls, the records handed out are those of the bytes taken.
abbrev pub EveryCutting : Type 0
EveryCutting = (texts : ℕ) (calls : List Call) → IsOfTheWhole texts (course_of texts calls)
