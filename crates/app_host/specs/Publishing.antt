-- Publishing packets: its effect, and that it keeps the rules between host and applications.
use Rattle.std.specs.Prelude.{◌≡◌, ℕ, List, [], ◌∷◌, ◌++◌, Some, option_map}
use Rattle.lc_model.specs.Name.{Name}
use Rattle.lc_model.specs.Packet.{message_id, tick_mid}
use Rattle.lc_model.specs.Kept.Summary.{AppState}
use Rattle.lc_model.specs.Kept.Call.{silent}
use Rattle.lc_model.specs.Kept.Executive.{Pipe, all_published_to}
use Rattle.lc_model.specs.Kept.GoesWith.{own_name, subscriptions_of}
use Rattle.lc_model.specs.Laws.Bus.{IsShort}
use Rattle.lc_model.specs.Services.Bus.{Bus, pipe_at, seen}
use Rattle.lc_model.specs.Services.Interface.{Held, MayBeGiven, MayPublish, IsGiven, BelongsTo, seen_at}
use Rattle.lc_model.specs.Services.Settled.{IsSettled, own_forms}
use Rattle.app_host.specs.declared.services.Services.{Services}
use Rattle.app_host.specs.Shared.{held_by, shared}
use Rattle.app_host.specs.Calls.{Leaves}

-- The most waiting packets of a pipe that still has room for 8 more.
abbrev pub roomy_depth : ℕ
roomy_depth = 64

-- At most `n` packets wait in each pipe.
abbrev pub AreShort : ℕ → Bus → Type 0
AreShort n bus = (seat : ℕ) → IsShort n (pipe_at seat bus)

-- These packets are published in order, and nothing else changes.
pub record Publishes (packets : List (List ℕ)) (before after : Services) : Type 0 where
  pub pipes : seen after.bus ≡ all_published_to (seen before.bus) packets
  pub events : after.events ≡ before.events
  pub tables : after.tables ≡ before.tables
  pub counts : after.counts ≡ before.counts
  pub moment : after.moment ≡ before.moment
  pub outgoing : after.outgoing ≡ before.outgoing

-- ---- in order

-- Law: without packets nothing changes.
abbrev pub NothingIsPublished : Type 0
NothingIsPublished = (s : Services) → Publishes [] s s

-- Law: packets may be published one by one.
abbrev pub PublishingGoesOn : Type 0
PublishingGoesOn = (packets : List (List ℕ)) (packet : List ℕ) (before between after : Services) → Publishes packets before between →
    Publishes (packet ∷ []) between after → Publishes (packets ++ packet ∷ []) before after

-- Law: when a tick is handled, each pipe has room for 8 more packets.
abbrev pub TicksHaveRoom : Type 0
TicksHaveRoom = (seat : ℕ) (name : Name) (packet : List ℕ) (held : Held) → MayBeGiven seat name packet held → message_id packet ≡ tick_mid → AreShort roomy_depth held.bus

-- ---- laws: an object that only publishes when it handles a packet keeps the rules

-- Law: an object that only publishes when it handles a packet keeps the rules of `on_packet`.
abbrev pub PublishingAnswers : Type 0
PublishingAnswers = (seat : ℕ) (name : Name) (packets : List (List ℕ)) (before after : Services) → Publishes packets before after →
    (packet : List ℕ) → MayPublish packet packets → BelongsTo seat name (held_by before) → before.outgoing ≡ [] →
    IsGiven seat name packet (held_by before) (held_by after)

-- Law: such an object does what the model gives for a call that publishes these packets.
abbrev pub PublishingLeaves : Type 0
PublishingLeaves = (seat : ℕ) (packets : List (List ℕ)) (before after : Services) → Publishes packets before after →
    (state : AppState) (mids : List ℕ) → before.outgoing ≡ [] → option_map (λ (pipe : Pipe). pipe.subscriptions) (seen_at seat (held_by before)) ≡ Some mids →
    Leaves seat state before after (silent state mids packets (shared before))

-- Law: such an object still has its sender, tables and subscriptions afterwards.
abbrev pub PublishingSettles : Type 0
PublishingSettles = (seat : ℕ) (packets : List (List ℕ)) (before after : Services) → Publishes packets before after →
    (old state : AppState) → own_name state ≡ own_name old → own_forms state ≡ own_forms old → subscriptions_of state ≡ subscriptions_of old →
    IsSettled old seat (held_by before) → IsSettled state seat (held_by after)
