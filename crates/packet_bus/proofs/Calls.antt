-- What the calls of the model come to, where it is known whether the seat has a pipe.
use Rattle.std.proofs.Common.{◌≡◌, refl, ℕ, ◌<◌, true, false, List, [], ◌∷◌, ◌++◌, length, arith}
use Rattle.std.specs.Prelude.{Option, Some, None, is_some, nat_lt, option_map}
use Rattle.lc_model.specs.Services.Bus.{Queue, Bus, pipe_at, after, with_pipe, new_pipe, pipe_added, subscribed}
use Rattle.packet_bus.specs.Slots.{PooledPacket}
use Rattle.packet_bus.specs.Line.{Line, hears_mid}
use Rattle.packet_bus.specs.Inside.{changed, hears_in, queue_over}

-- a pipe that is new
pub added_is : (seat : ℕ) (bus : Bus) → is_some (pipe_at seat bus) ≡ false → with_pipe seat bus new_pipe ≡ after bus (pipe_added seat bus)
added_is seat bus none = by_pipe (pipe_at seat bus) refl none
  where
    by_pipe : (o : Option Queue) → pipe_at seat bus ≡ o → is_some o ≡ false → with_pipe seat bus new_pipe ≡ after bus (pipe_added seat bus)
    by_pipe None e lacks = rw e refl
    by_pipe (Some queue) e lacks = cc

-- a pipe with a subscription more
abbrev pub subscribed_too : ℕ → Queue → Queue
subscribed_too mid queue = record queue { subscriptions = queue.subscriptions ++ mid ∷ [] }

-- a place has the subscriptions of its pipe
pub heard_in : (pool : List PooledPacket) (mid : ℕ) (place : Option Line) → hears_in mid (option_map (queue_over pool) place) ≡ hears_mid mid place
heard_in pool mid None = refl
heard_in pool mid (Some line) = refl

abbrev pub subscriptions_in : Option Queue → List ℕ
subscriptions_in None = []
subscriptions_in (Some queue) = queue.subscriptions

pub subscribed_is : (seat mid : ℕ) (bus : Bus) → is_some (pipe_at seat bus) ≡ true → hears_in mid (pipe_at seat bus) ≡ false →
    length (subscriptions_in (pipe_at seat bus)) < 256 → changed seat (subscribed_too mid) bus ≡ after bus (subscribed seat mid bus)
subscribed_is seat mid bus some new few = by_pipe (pipe_at seat bus) refl some new few
  where
    by_pipe : (o : Option Queue) → pipe_at seat bus ≡ o → is_some o ≡ true → hears_in mid o ≡ false → length (subscriptions_in o) < 256 →
        changed seat (subscribed_too mid) bus ≡ after bus (subscribed seat mid bus)
    by_pipe None e lacks new few = cc
    by_pipe (Some queue) e lacks new few = let room : nat_lt (length queue.subscriptions) 256 ≡ true = grind (arith, few) in rw (e, new, room) refl
