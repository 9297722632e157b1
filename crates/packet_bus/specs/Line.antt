-- The pipe of a seat, as the program stores it. This project's own.
use Rattle.std.specs.Prelude.{◌≡◌, ℕ, ◌≤◌, ◌==◌, Bool, true, false, not, List, [], ◌∷◌, ◌++◌, length, drop, filter, slice_get, Option, Some, None, ⊤}
use Rattle.std.specs.List.{list_any}
use Rattle.circular_buffer.specs.Buffer.{Buffer}

-- A pipe: its subscribed message ids, and the pool slots of its waiting packets, oldest first.
pub record Line : Type 0 where
  pub subscriptions : List ℕ
  pub slots : List ℕ

-- A pipe without subscriptions and packets.
abbrev pub new_line : Line
new_line = record { subscriptions = []; slots = [] }

-- The pipe of a seat, if the seat has one.
abbrev pub line_if : Bool → List ℕ → List ℕ → Option Line
line_if true subscriptions slots = Some (record { subscriptions = subscriptions; slots = slots })
line_if false subscriptions slots = None

-- No message id stands in the list twice.
abbrev pub AreOnce : List ℕ → Type 0
AreOnce [] = ⊤
AreOnce (mid ∷ mids) = (list_any (λ other. mid == other) mids ≡ false) × AreOnce mids

-- The parts of a seat's pipe have the room for 72 packets and 256 subscriptions that they were made with, and are empty if the
-- seat has no pipe.
pub record IsPlace (is_open : Bool) (subscriptions : List ℕ) (waiting : Buffer ℕ) (room : ℕ) : Type 0 where
  pub depth : waiting.capacity ≡ 72
  pub short : length waiting.items ≤ 72
  pub few : length subscriptions ≤ 256
  pub once : AreOnce subscriptions
  pub has_room : room ≡ 256
  pub closed : is_open ≡ false → (subscriptions ≡ []) × (waiting.items ≡ [])

-- The pool slots of the packets that wait in a seat's pipe.
abbrev pub slots_in : Option Line → List ℕ
slots_in None = []
slots_in (Some line) = line.slots

-- The subscribed message ids of a seat's pipe.
abbrev pub mids_in : Option Line → List ℕ
mids_in None = []
mids_in (Some line) = line.subscriptions

-- The pool slot of the oldest waiting packet.
abbrev pub first_slot : Option Line → Option ℕ
first_slot place = slice_get (slots_in place) 0

-- The oldest subscription.
abbrev pub first_mid : Option Line → Option ℕ
first_mid place = slice_get (mids_in place) 0

-- Whether a packet waits.
abbrev pub has_slots : Option Line → Bool
has_slots place = not (length (slots_in place) == 0)

-- Whether the pipe is full: 72 packets wait.
abbrev pub is_long : Option Line → Bool
is_long place = length (slots_in place) == 72

-- Whether a seat's pipe is subscribed to the message id.
abbrev pub hears_mid : ℕ → Option Line → Bool
hears_mid mid place = list_any (λ other. mid == other) (mids_in place)

-- The pipe with one more packet, as its newest.
abbrev pub with_slot : ℕ → Line → Line
with_slot slot line = record line { slots = line.slots ++ slot ∷ [] }

-- The pipe without its oldest packet.
abbrev pub behind_first : Line → Line
behind_first line = record line { slots = drop 1 line.slots }

-- The pipe with one more subscription.
abbrev pub with_subscription : ℕ → Line → Line
with_subscription mid line = record line { subscriptions = line.subscriptions ++ mid ∷ [] }

-- The pipe without this subscription.
abbrev pub without_subscription : ℕ → Line → Line
without_subscription mid line = record line { subscriptions = filter (λ other. not (mid == other)) line.subscriptions }
