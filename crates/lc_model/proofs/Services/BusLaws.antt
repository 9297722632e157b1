-- The laws of the packet bus.
use Rattle.std.proofs.Common.{◌≡◌, ◌∙◌, ap, ap₂, refl, ℕ, zero, suc, ◌+◌, ◌<◌, ◌≤◌, Bool, true, false, ◌&&◌, ◌||◌, List, [], ◌∷◌, ◌++◌, length, map, drop, arith, length-append}
use Rattle.std.specs.Prelude.{Option, Some, None, option_map}
use Rattle.std.proofs.lemmas.List.{map-set}
use Rattle.lc_model.specs.Packet.{message_id}
use Rattle.lc_model.specs.Kept.Executive.{Pipe, offered, published_to}
use Rattle.lc_model.specs.Services.Bus.{Publication, Queue, Bus, seen, seen_pipe, pipe_at, is_subscribed, hears_packet, is_full, offered_as, published_as}
use Rattle.lc_model.specs.Laws.Bus.{PublicationIsSeen, PipeIsSeen, RemovalIsSeen, ReceiptIsSeen, IsShort, HasRoom, FillsByOne}
use Rattle.lc_model.proofs.Facts.{and_false}

-- ---- what is seen

bytes_behind : (waiting : List Publication) (last : Publication) →
    map (λ (publication : Publication). publication.bytes) (waiting ++ last ∷ []) ≡ map (λ (publication : Publication). publication.bytes) waiting ++ last.bytes ∷ []
bytes_behind [] last = refl
bytes_behind (first ∷ waiting) last = ap (λ rest. first.bytes ∷ rest) (bytes_behind waiting last)

offered_is_seen : (number : ℕ) (packet : List ℕ) (queue : Queue) (b : Bool) → is_subscribed (message_id packet) queue ≡ b →
    seen_pipe (offered_as number packet queue) ≡ offered packet (seen_pipe queue)
offered_is_seen number packet queue true is =
    rw is
    (ap (λ (waiting : List (List ℕ)). record { subscriptions = queue.subscriptions; waiting = waiting })
    (bytes_behind queue.waiting (record { number = number; bytes = packet })))
offered_is_seen number packet queue false is = rw is refl

pub published_is_seen : (number : ℕ) (packet : List ℕ) (bus : Bus) → seen (published_as number packet bus) ≡ published_to (seen bus) packet
published_is_seen number packet [] = refl
published_is_seen number packet (None ∷ bus) = ap (λ rest. None ∷ rest) (published_is_seen number packet bus)
published_is_seen number packet (Some queue ∷ bus) =
    ap₂ (λ (pipe : Pipe) rest. Some pipe ∷ rest) (offered_is_seen number packet queue (is_subscribed (message_id packet) queue) refl) (published_is_seen number packet bus)

pub publication_is_seen : PublicationIsSeen
publication_is_seen packet old new is = ap seen is.published ∙ published_is_seen is.number packet old

pub pipe_is_seen : PipeIsSeen
pipe_is_seen seat bus queue = map-set (option_map seen_pipe) bus seat (Some queue)

pub removal_is_seen : RemovalIsSeen
removal_is_seen seat bus = map-set (option_map seen_pipe) bus seat None

bytes_then : (waiting : List Publication) → map (λ (publication : Publication). publication.bytes) (drop 1 waiting) ≡ drop 1 (map (λ (publication : Publication). publication.bytes) waiting)
bytes_then [] = refl
bytes_then (first ∷ waiting) = refl

pub receipt_is_seen : ReceiptIsSeen
receipt_is_seen queue = ap (λ (waiting : List (List ℕ)). record { subscriptions = queue.subscriptions; waiting = waiting }) (bytes_then queue.waiting)

-- ---- room

not_full : (n : ℕ) (place : Option Queue) → IsShort n place → n < 72 → is_full place ≡ false
not_full n None short less = refl
not_full n (Some queue) short less = grind (arith, short, less)

pub has_room : HasRoom
has_room n packet [] short less = refl
has_room n packet (place ∷ bus) short less =
    ap₂ (λ a b. a || b)
    (ap (λ b. hears_packet packet place && b) (not_full n place (short 0) less) ∙ and_false (hears_packet packet place))
    (has_room n packet bus (λ seat. short (suc seat)) less)

one_more : (n number : ℕ) (packet : List ℕ) (queue : Queue) (b : Bool) → is_subscribed (message_id packet) queue ≡ b → length queue.waiting ≤ n →
    length (offered_as number packet queue).waiting ≤ n + 1
one_more n number packet queue true is short = rw is (omega (arith, length-append queue.waiting (record { number = number; bytes = packet } ∷ []), short))
one_more n number packet queue false is short = rw is (omega (arith, short))

fills : (n number : ℕ) (packet : List ℕ) (bus : Bus) → ((seat : ℕ) → IsShort n (pipe_at seat bus)) → (seat : ℕ) → IsShort (n + 1) (pipe_at seat (published_as number packet bus))
fills n number packet [] short seat = tt
fills n number packet (None ∷ bus) short zero = tt
fills n number packet (Some queue ∷ bus) short zero = one_more n number packet queue (is_subscribed (message_id packet) queue) refl (short 0)
fills n number packet (None ∷ bus) short (suc seat) = fills n number packet bus (λ k. short (suc k)) seat
fills n number packet (Some queue ∷ bus) short (suc seat) = fills n number packet bus (λ k. short (suc k)) seat

pub fills_by_one : FillsByOne
fills_by_one n packet old new short is = rw is.published (fills n is.number packet old short)
