-- Laws of the packet bus, over pipes as applications see them.
use Rattle.std.specs.Prelude.{◌≡◌, ℕ, ◌+◌, ◌≤◌, ◌<◌, false, List, length, drop, slice_set, Option, Some, None}
use Rattle.lc_model.specs.Kept.Executive.{published_to}
use Rattle.lc_model.specs.Services.Bus.{Queue, Bus, seen, seen_pipe, with_pipe, pipe_at, without_oldest, is_blocked, IsPublished, pipe_depth}

-- Law: a publication gives the packet to each subscriber once, after the packets that wait.
abbrev pub PublicationIsSeen : Type 0
PublicationIsSeen = (packet : List ℕ) (old new : Bus) → IsPublished packet old new → seen new ≡ published_to (seen old) packet

-- Law: changing a seat's pipe changes the pipe that its application sees, and no other.
abbrev pub PipeIsSeen : Type 0
PipeIsSeen = (seat : ℕ) (bus : Bus) (queue : Queue) → seen (with_pipe seat bus queue) ≡ slice_set (seen bus) seat (Some (seen_pipe queue))

-- Law: removing a seat's pipe removes the pipe that its application sees, and no other.
abbrev pub RemovalIsSeen : Type 0
RemovalIsSeen = (seat : ℕ) (bus : Bus) → seen (slice_set bus seat None) ≡ slice_set (seen bus) seat None

-- Law: receiving takes the oldest packet that the application sees.
abbrev pub ReceiptIsSeen : Type 0
ReceiptIsSeen = (queue : Queue) → seen_pipe (without_oldest queue) ≡ record { subscriptions = queue.subscriptions; waiting = drop 1 (seen_pipe queue).waiting }

-- At most `n` packets wait in this pipe.
abbrev pub IsShort : ℕ → Option Queue → Type 0
IsShort n None = Unit {0}
IsShort n (Some queue) = length queue.waiting ≤ n

-- Law: if at most `n` packets wait in each pipe and `n` is below 72, a publication is not refused for a full pipe.
abbrev pub HasRoom : Type 0
HasRoom = (n : ℕ) (packet : List ℕ) (bus : Bus) → ((seat : ℕ) → IsShort n (pipe_at seat bus)) → n < pipe_depth → is_blocked packet bus ≡ false

-- Law: if at most `n` packets wait in each pipe, at most `n + 1` do after a publication.
abbrev pub FillsByOne : Type 0
FillsByOne = (n : ℕ) (packet : List ℕ) (old new : Bus) → ((seat : ℕ) → IsShort n (pipe_at seat old)) → IsPublished packet old new → (seat : ℕ) → IsShort (n + 1) (pipe_at seat new)
