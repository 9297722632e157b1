-- Who hears what is published, in terms of what pipes are subscribed to.
use Rattle.std.proofs.Common.{◌≡◌, ◌⊎◌, inl, inr, refl, ap, subst, ℕ, ◌≤◌, ◌==◌, Bool, true, false, List, [], ◌∷◌, ◌++◌, length, length-append, map, filter, arith, if◌then◌else◌, Option, Some, None}
use Rattle.std.specs.Prelude.{IfSome, IsTrue, option_map}
use Rattle.std.specs.List.{list_any, AllByRecursion}
use Rattle.lc_model.specs.Packet.{message_id, sample_mid, lc_housekeeping_request_mid}
use Rattle.lc_model.specs.Kept.Executive.{Pipe, hears, offered}
use Rattle.lc_model.specs.Host.Schedule.{ScheduleEntry, Sample, Housekeeping, entry_packet}
use Rattle.app_host.specs.Load.{packets_in}
use Rattle.app_host.specs.Party.{scheduled_mids}
use Rattle.app_host.proofs.Rules.{hearing}

-- a pipe is subscribed to a message id
abbrev pub is_subscribed : ℕ → Pipe → Bool
is_subscribed mid pipe = list_any (λ own. mid == own) pipe.subscriptions

-- who is subscribed to it, if anyone is, is of some kind
abbrev pub IfHeard : Type 0 → ℕ → Option Pipe → Type 0
IfHeard P mid place = IfSome place (λ (pipe : Pipe). IsTrue (is_subscribed mid pipe) → P)

-- where that is so anyway
pub heard_anyway : (P : Type 0) (mid : ℕ) (place : Option Pipe) → P → IfHeard P mid place
heard_anyway P mid None so = tt
heard_anyway P mid (Some pipe) so = λ subscribed. so

-- ---- a pipe stays subscribed

pub heard_offered : (P : Type 0) (mid : ℕ) (packet : List ℕ) (place : Option Pipe) → IfHeard P mid place → IfHeard P mid (option_map (offered packet) place)
heard_offered P mid packet None so = tt
heard_offered P mid packet (Some pipe) so = by_test (hears packet pipe)
  where
    by_test : (b : Bool) → IfHeard P mid (Some (if b then record pipe { waiting = pipe.waiting ++ packet ∷ [] } else pipe))
    by_test true = so
    by_test false = so

pub heard_behind : (P : Type 0) (mid : ℕ) (packets : List (List ℕ)) (place : Option Pipe) → IfHeard P mid place → IfHeard P mid (option_map (hearing packets) place)
heard_behind P mid packets None so = tt
heard_behind P mid packets (Some pipe) so = so

-- ---- what the scheduler publishes

abbrev pub IsScheduled : List ℕ → Type 0
IsScheduled packet = (message_id packet ≡ sample_mid) ⊎ (message_id packet ≡ lc_housekeeping_request_mid)

pub entries_scheduled : (entries : List ScheduleEntry) → AllByRecursion IsScheduled (map entry_packet entries)
entries_scheduled [] = tt
entries_scheduled (Sample first last ages ∷ entries) = (inl refl, entries_scheduled entries)
entries_scheduled (Housekeeping ∷ entries) = (inr refl, entries_scheduled entries)

-- one of these is heard by who is subscribed to its message id
heard_among : (P : Type 0) (packets : List (List ℕ)) → AllByRecursion IsScheduled packets → (pipe : Pipe) → AllByRecursion (λ mid. IfHeard P mid (Some pipe)) scheduled_mids →
    1 ≤ length (filter (λ packet. hears packet pipe) packets) → P
heard_among P [] all pipe known some = absurd (let none : 1 ≤ 0 = some in omega (arith, none))
heard_among P (packet ∷ packets) all pipe known some = by_test (hears packet pipe) refl (heard_among P packets all.1 pipe known) some
  where
    by_kind : IsScheduled packet → hears packet pipe ≡ true → P
    by_kind (inl is) hearing_it = known.0 (subst (λ mid. is_subscribed mid pipe ≡ true) is hearing_it)
    by_kind (inr is) hearing_it = known.1.0 (subst (λ mid. is_subscribed mid pipe ≡ true) is hearing_it)

    by_test : (b : Bool) → hears packet pipe ≡ b → (1 ≤ length (filter (λ packet. hears packet pipe) packets) → P) →
        1 ≤ length (if b then packet ∷ filter (λ packet. hears packet pipe) packets else filter (λ packet. hears packet pipe) packets) → P
    by_test true hearing_it rest some = by_kind all.0 hearing_it
    by_test false deaf rest some = rest some

-- where something waits behind them, something did before, or one of them is heard
pub heard_then : (P : Type 0) (packets : List (List ℕ)) → AllByRecursion IsScheduled packets → (place : Option Pipe) → (1 ≤ packets_in place → P) →
    AllByRecursion (λ mid. IfHeard P mid place) scheduled_mids → 1 ≤ packets_in (option_map (hearing packets) place) → P
heard_then P packets all None before known some = absurd (let none : 1 ≤ 0 = some in omega (arith, none))
heard_then P packets all (Some pipe) before known some = by_waiting pipe.waiting refl
  where
    heard : List (List ℕ)
    heard = filter (λ packet. hears packet pipe) packets

    both : 1 ≤ length (pipe.waiting ++ heard)
    both = some

    by_waiting : (waiting : List (List ℕ)) → pipe.waiting ≡ waiting → P
    by_waiting [] is = heard_among P packets all pipe known (let none : length pipe.waiting ≡ 0 = ap length is in omega (arith, both, none, length-append pipe.waiting heard))
    by_waiting (first ∷ rest) is = before (let more = ap length is in omega (arith, more))
