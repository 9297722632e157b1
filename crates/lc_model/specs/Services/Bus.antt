-- The packet bus: a pipe or none for each seat, and what each call does. From the cFE user's guide, software bus services (pipes,
-- subscriptions, message limits); limits and refusal numbers are this project's own.
use Rattle.std.specs.Prelude.{◌≡◌, ℕ, ◌-◌, ◌+◌, ◌==◌, nat_lt, nat_le, Bool, false, not, ◌&&◌, ◌||◌, if◌then◌else◌, List, [], ◌∷◌, ◌++◌, length, map, filter, drop, replicate, slice_get, slice_index_or, slice_set, Option, Some, None, option_map, Result, Ok, Err}
use Rattle.std.specs.Option.{option_or, option_map_or}
use Rattle.std.specs.List.{list_any, flat_map}
use Rattle.lc_model.specs.Packet.{header_fault, message_id}
use Rattle.lc_model.specs.Refusal.{Refusal, ◌>>=◌, refused, found, provided, faulty_packet, pipe_full, no_pipe, second_pipe, too_many_subscriptions}
use Rattle.lc_model.specs.Kept.Call.{with_mid}
use Rattle.lc_model.specs.Kept.Executive.{Pipe, seat_count}

-- A waiting packet and the number of its publication: the same number in all pipes that the publication reached, and another for
-- every other waiting publication.
pub record Publication : Type 0 where
  pub number : ℕ
  pub bytes : List ℕ

-- A pipe: its subscriptions in the order in which they were made, and its waiting packets, oldest first.
pub record Queue : Type 0 where
  pub subscriptions : List ℕ
  pub waiting : List Publication

-- The pipe of each seat, if any.
abbrev pub Bus : Type 0
Bus = List (Option Queue)

-- ---- limits

-- The most waiting packets of a pipe.
abbrev pub pipe_depth : ℕ
pipe_depth = 72

-- The most subscriptions of a pipe.
abbrev pub most_subscriptions : ℕ
most_subscriptions = 256

-- The most waiting publications: eight full pipes, each with its own 72.
abbrev pub most_publications : ℕ
most_publications = 576

-- ---- pipes and packets

-- No seat has a pipe.
abbrev pub no_pipes : Bus
no_pipes = replicate seat_count None

-- A pipe without subscriptions and packets.
abbrev pub new_pipe : Queue
new_pipe = record { subscriptions = []; waiting = [] }

-- The pipe of a seat.
abbrev pub pipe_at : ℕ → Bus → Option Queue
pipe_at seat bus = slice_index_or bus seat None

-- The pipe with its packets' bytes, without publication numbers.
abbrev pub seen_pipe : Queue → Pipe
seen_pipe queue = record { subscriptions = queue.subscriptions; waiting = map (λ (publication : Publication). publication.bytes) queue.waiting }

-- All pipes with their packets' bytes, without publication numbers.
abbrev pub seen : Bus → List (Option Pipe)
seen bus = map (option_map seen_pipe) bus

-- The oldest waiting packet of a pipe, and of a seat's pipe.
abbrev pub oldest : Option Queue → Option Publication
oldest None = None
oldest (Some queue) = slice_get queue.waiting 0

abbrev pub oldest_at : ℕ → Bus → Option (List ℕ)
oldest_at seat bus = option_map (λ (publication : Publication). publication.bytes) (oldest (pipe_at seat bus))

-- ---- waiting publications

-- The publication numbers in a pipe.
abbrev pub numbers_in : Option Queue → List ℕ
numbers_in None = []
numbers_in (Some queue) = map (λ (publication : Publication). publication.number) queue.waiting

-- The publication numbers in all pipes.
abbrev pub waiting_numbers : Bus → List ℕ
waiting_numbers bus = flat_map numbers_in bus

-- Whether the number is in the list.
abbrev pub is_among : ℕ → List ℕ → Bool
is_among n numbers = list_any (λ other. n == other) numbers

-- How many different numbers the list has.
abbrev pub distinct_count : List ℕ → ℕ
distinct_count [] = 0
distinct_count (n ∷ numbers) = (if is_among n numbers then 0 else 1) + distinct_count numbers

-- How many more publications can wait: 576 less those that wait.
abbrev pub free_publications : Bus → ℕ
free_publications bus = most_publications - distinct_count (waiting_numbers bus)

-- ---- adding and removing pipes

-- The bus after a call; unchanged if the call is refused.
abbrev pub after : Bus → Result Bus Refusal → Bus
after bus (Ok new) = new
after bus (Err refusal) = bus

-- The refusal of a call, if any.
abbrev pub refusal_of : Result Bus Refusal → Option Refusal
refusal_of (Ok new) = None
refusal_of (Err refusal) = Some refusal

-- The bus with this pipe on a seat.
abbrev pub with_pipe : ℕ → Bus → Queue → Bus
with_pipe seat bus queue = slice_set bus seat (Some queue)

-- `add_pipe`; 94 if the seat has one.
abbrev pub pipe_added : ℕ → Bus → Result Bus Refusal
pipe_added seat bus = option_map_or (λ (queue : Queue). refused second_pipe) (pipe_at seat bus) (Ok (with_pipe seat bus new_pipe))

-- `remove_pipe`, with its subscriptions and packets; 93 if the seat has no pipe.
abbrev pub pipe_removed : ℕ → Bus → Result Bus Refusal
pipe_removed seat bus = do
  queue ← found (pipe_at seat bus) no_pipe
  Ok (slice_set bus seat None)

-- ---- subscriptions

-- Whether the pipe is subscribed to the message id.
abbrev pub is_subscribed : ℕ → Queue → Bool
is_subscribed mid queue = list_any (λ other. mid == other) queue.subscriptions

-- The pipe with one more subscription; 95 if it would be the 257th.
abbrev pub joined : ℕ → Queue → Result Queue Refusal
joined mid queue =
    provided (is_subscribed mid queue || nat_lt (length queue.subscriptions) most_subscriptions) too_many_subscriptions
    (record queue { subscriptions = with_mid mid queue.subscriptions })

-- The pipe without this subscription.
abbrev pub parted : ℕ → Queue → Queue
parted mid queue = record queue { subscriptions = filter (λ other. not (mid == other)) queue.subscriptions }

-- `subscribe`; 93 without a pipe. A repeated subscription changes nothing.
abbrev pub subscribed : ℕ → ℕ → Bus → Result Bus Refusal
subscribed seat mid bus = do
  queue ← found (pipe_at seat bus) no_pipe
  more ← joined mid queue
  Ok (with_pipe seat bus more)

-- `unsubscribe`; 93 without a pipe. Waiting packets stay.
abbrev pub unsubscribed : ℕ → ℕ → Bus → Result Bus Refusal
unsubscribed seat mid bus = do
  queue ← found (pipe_at seat bus) no_pipe
  Ok (with_pipe seat bus (parted mid queue))

-- ---- publishing and receiving

-- Whether the seat's pipe is subscribed to the packet.
abbrev pub hears_packet : List ℕ → Option Queue → Bool
hears_packet packet None = false
hears_packet packet (Some queue) = is_subscribed (message_id packet) queue

-- Whether the seat's pipe is full.
abbrev pub is_full : Option Queue → Bool
is_full None = false
is_full (Some queue) = nat_le pipe_depth (length queue.waiting)

-- Whether a full pipe is subscribed to the packet.
abbrev pub is_blocked : List ℕ → Bus → Bool
is_blocked packet bus = list_any (λ place. hears_packet packet place && is_full place) bus

-- The refusal of `publish`: 91 with the packet's fault (1 to 6), else 92; then no pipe gets the packet.
abbrev pub publish_refusal : List ℕ → Bus → Option Refusal
publish_refusal packet bus =
    option_or (option_map (λ reason. faulty_packet ∷ reason ∷ []) (header_fault packet)) (if is_blocked packet bus then Some (pipe_full ∷ []) else None)

-- A pipe after a publication with this number.
abbrev pub offered_as : ℕ → List ℕ → Queue → Queue
offered_as number packet queue =
    if is_subscribed (message_id packet) queue
    then record queue { waiting = queue.waiting ++ record { number = number; bytes = packet } ∷ [] } else queue

-- All pipes after a publication with this number: each subscriber has the packet once, as its newest.
abbrev pub published_as : ℕ → List ℕ → Bus → Bus
published_as number packet bus = map (option_map (offered_as number packet)) bus

-- `packet` was published with a number that no waiting packet had.
pub record IsPublished (packet : List ℕ) (old new : Bus) : Type 0 where
  pub number : ℕ
  pub another : is_among number (waiting_numbers old) ≡ false
  pub published : new ≡ published_as number packet old

-- A pipe without its oldest packet.
abbrev pub without_oldest : Queue → Queue
without_oldest queue = record queue { waiting = drop 1 queue.waiting }

-- `receive` takes the oldest packet, if any; 93 without a pipe.
abbrev pub received : ℕ → Bus → Result Bus Refusal
received seat bus = do
  queue ← found (pipe_at seat bus) no_pipe
  Ok (with_pipe seat bus (without_oldest queue))
