-- Requests that are sent one after the other, and those of the Limit Checker beside events.
use Rattle.std.proofs.Common.{◌≡◌, refl, ap, sym, ◌∙◌, subst, ℕ, zero, suc, ◌+◌, ◌-◌, ◌%◌, ◌≤◌, ◌<◌, Bool, true, false, ◌==◌, List, [], ◌∷◌, ◌++◌, length, map, drop, take, replicate, arith, if◌then◌else◌, Option, Some, None}
use Rattle.std.specs.Prelude.{IsTrue, is_some, option_map, slice_set}
use Rattle.std.specs.Option.{option_map_or}
use Rattle.std.specs.List.{concat}
use Rattle.std.proofs.lemmas.List.{append-nil, append_assoc, get_or-set_same, get_or-set_other, length-map, length-append, length-replicate}
use Rattle.std.proofs.lemmas.Slice.Eq.{bytes_eq-Decides}
use Rattle.lc_model.specs.declared.record.Moment.{Moment}
use Rattle.lc_model.specs.declared.mode.LcMode.{LcMode}
use Rattle.lc_model.specs.Bytes.{u16, u32}
use Rattle.lc_model.specs.Codes.{mode_code}
use Rattle.lc_model.specs.Name.{Name}
use Rattle.lc_model.specs.Packet.{event_mid, sequence_mid, lc_housekeeping_mid, primary_header, telemetry}
use Rattle.lc_model.specs.Events.Request.{Request, Sequence, Housekeeping, Standing}
use Rattle.lc_model.specs.Events.Outgoing.{sequence_request, standing_byte}
use Rattle.lc_model.specs.Kept.Summary.{EventState}
use Rattle.lc_model.specs.Kept.Next.{Accounts, next_delivered, next_all_delivered, counts_after}
use Rattle.lc_model.specs.Kept.Call.{ServicesNow, with_at, accounted, sent_by}
use Rattle.lc_model.specs.Kept.GoesWith.{IsSender}
use Rattle.lc_model.proofs.Facts.{tested_equal, tested_unequal}
use Rattle.lc_model.specs.Services.Events.{counts_with, Origin, sender_at}
use Rattle.lc_model.specs.Services.Seen.{services_seen, count_among}
use Rattle.lc_model.proofs.Services.SenderNames.{with_at_own, with_at_twice}
use Rattle.app_host.specs.declared.services.Services.{Services}
use Rattle.app_host.specs.Shared.{shared}
use Rattle.app_host.specs.Telling.{Tells, name_of}

-- ---- what is held under a name

found_own : {X : Type 0} (name : Name) (x : X) (held : Name → X) → with_at name x held name ≡ x
found_own name x held = ap (λ test. if test then x else held name) ((bytes_eq-Decides name name).1 refl)

-- ---- requests behind requests

all_then : (moment : Moment) (first second : List Request) (old : Accounts) →
    next_all_delivered moment (first ++ second) old
    ≡ (let one = next_all_delivered moment first old in let two = next_all_delivered moment second one.0 in (two.0, one.1 ++ two.1))
all_then moment [] second old = refl
all_then moment (request ∷ first) second old =
    let here = next_delivered moment request old in
    let one = next_all_delivered moment first here.0 in
    let two = next_all_delivered moment second one.0 in
    ap (λ (others : Accounts × List (List ℕ)). (others.0, here.1 ++ others.1)) (all_then moment first second here.0)
    ∙ (λ i. (two.0, sym (append_assoc here.1 one.1 two.1) i))

module _ (moment : Moment) (name : Name) where
  abbrev Sent : Type 0
  Sent = ServicesNow (List ℕ) × List (List ℕ)

  sent_among : (requests : List Request) (services : ServicesNow (List ℕ)) (events : EventState) → services.events name ≡ Some events →
      sent_by moment name requests services ≡ accounted name services (next_all_delivered moment requests (record { events = events; counts = services.counts }))
  sent_among requests services events is =
      ap (λ o. option_map_or (λ (e : EventState). accounted name services (next_all_delivered moment requests (record { events = e; counts = services.counts }))) o (services, [])) is

  unsent : (requests : List Request) (services : ServicesNow (List ℕ)) → services.events name ≡ None → sent_by moment name requests services ≡ (services, [])
  unsent requests services is =
      ap (λ o. option_map_or (λ (e : EventState). accounted name services (next_all_delivered moment requests (record { events = e; counts = services.counts }))) o (services, [])) is

  pub sent_then : (first second : List Request) (services : ServicesNow (List ℕ)) →
      sent_by moment name (first ++ second) services
      ≡ (let one : Sent = sent_by moment name first services in let two : Sent = sent_by moment name second one.0 in (two.0, one.1 ++ two.1))
  sent_then first second services = by_events (services.events name) refl
    where
      by_events : (o : Option EventState) → services.events name ≡ o →
          sent_by moment name (first ++ second) services
          ≡ (let one : Sent = sent_by moment name first services in let two : Sent = sent_by moment name second one.0 in (two.0, one.1 ++ two.1))
      by_events None is =
          unsent (first ++ second) services is
          ∙ sym (ap (λ (s : Sent). (s.0, s.1)) (unsent second services is))
          ∙ sym (ap (λ (s : Sent). let two : Sent = sent_by moment name second s.0 in (two.0, s.1 ++ two.1)) (unsent first services is))
      by_events (Some events) is =
          let one = next_all_delivered moment first (record { events = events; counts = services.counts }) in
          let two = next_all_delivered moment second one.0 in
          let middle : ServicesNow (List ℕ) = record services { events = with_at name (Some one.0.events) services.events; counts = one.0.counts } in
          sent_among (first ++ second) services events is
          ∙ ap (accounted name services) (all_then moment first second (record { events = events; counts = services.counts }))
          ∙ (λ i. (record services { events = sym (with_at_twice name (Some two.0.events) (Some one.0.events) services.events) i; counts = two.0.counts }, one.1 ++ two.1))
          ∙ sym (ap (λ (s : Sent). (s.0, one.1 ++ s.1)) (sent_among second middle one.0.events (found_own name (Some one.0.events) services.events)))
          ∙ sym (ap (λ (s : Sent). let two : Sent = sent_by moment name second s.0 in (two.0, s.1 ++ two.1)) (sent_among first services events is))

  pub nothing_sent : (services : ServicesNow (List ℕ)) → sent_by moment name [] services ≡ (services, [])
  nothing_sent services = by_events (services.events name) refl
    where
      by_events : (o : Option EventState) → services.events name ≡ o → sent_by moment name [] services ≡ (services, [])
      by_events None is = unsent [] services is
      by_events (Some events) is = sent_among [] services events is ∙ (λ i. (record services { events = with_at_own name (Some events) services.events is i }, []))

concat_both : (xs ys : List (List ℕ)) → concat (xs ++ ys) ≡ concat xs ++ concat ys
concat_both [] ys = refl
concat_both (x ∷ xs) ys = ap (λ rest. x ++ rest) (concat_both xs ys) ∙ sym (append_assoc x (concat xs) (concat ys))

pub nothing_is_told : (origin : Origin) (name : Name) (s : Services) → Tells origin name [] s s
nothing_is_told origin name s = record {
  services = sym (ap (λ step. step.0) (nothing_sent s.moment name (shared s)));
  outgoing = sym (append-nil s.outgoing) ∙ sym (ap (λ step. s.outgoing ++ concat step.1) (nothing_sent s.moment name (shared s)));
  own = refl;
  others = λ other two. refl;
  bus = refl;
  tables = refl;
  moment = refl;
}

pub telling_goes_on : (origin : Origin) (name : Name) (first second : List Request) (before between after : Services) → Tells origin name first before between →
    Tells origin name second between after → Tells origin name (first ++ second) before after
telling_goes_on origin name first second before between after t u =
    let one : ServicesNow (List ℕ) × List (List ℕ) = sent_by before.moment name first (shared before) in
    let two : ServicesNow (List ℕ) × List (List ℕ) = sent_by before.moment name second one.0 in
    let later : sent_by between.moment name second (shared between) ≡ two = λ i. sent_by (t.moment i) name second (t.services i) in
    record {
      services = u.services ∙ ap (λ step. step.0) later ∙ sym (ap (λ step. step.0) (sent_then before.moment name first second (shared before)));
      outgoing = u.outgoing ∙ (λ i. t.outgoing i ++ concat (later i).1) ∙ append_assoc before.outgoing (concat one.1) (concat two.1)
          ∙ ap (λ bytes. before.outgoing ++ bytes) (sym (concat_both one.1 two.1))
          ∙ sym (ap (λ step. before.outgoing ++ concat step.1) (sent_then before.moment name first second (shared before)));
      own = u.own ∙ t.own;
      others = λ other two. u.others other two ∙ t.others other two;
      bus = u.bus ∙ t.bus;
      tables = u.tables ∙ t.tables;
      moment = u.moment ∙ t.moment;
    }

pub still_sends : (origin : Origin) (name : Name) (requests : List Request) (before after : Services) → Tells origin name requests before after →
    IsSender name (shared before) → IsSender name (shared after)
still_sends origin name requests before after t sender =
    subst (λ (s : ServicesNow (List ℕ)). IsSender name s) (sym t.services) (by_events ((shared before).events name) refl sender)
  where
    by_events : (o : Option EventState) → (shared before).events name ≡ o → IsTrue (is_some o) → IsSender name (sent_by before.moment name requests (shared before)).0
    by_events None is some = absurd (cc some)
    by_events (Some e) is some =
        let after : Accounts × List (List ℕ) = next_all_delivered before.moment requests (record { events = e; counts = (shared before).counts }) in
        subst (λ (step : ServicesNow (List ℕ) × List (List ℕ)). IsSender name step.0) (sym (sent_among before.moment name requests (shared before) e is))
        (ap is_some (found_own name (Some after.0.events) (shared before).events))

-- ---- a packet of a message id that the event services don't count

-- one packet more
raised : (mid sent : ℕ) (counts : List ℕ) → mid < length counts → (mid == event_mid) ≡ false →
    counts_with sent (count_among (slice_set counts mid ((count_among counts mid + 1) % 16384))) ≡ counts_after mid (counts_with sent (count_among counts))
raised mid sent counts inside two = λ i other. at other i
  where
    more : ℕ
    more = (count_among counts mid + 1) % 16384

    at : (other : ℕ) → counts_with sent (count_among (slice_set counts mid more)) other ≡ counts_after mid (counts_with sent (count_among counts)) other
    at other = by_tests (other == event_mid) refl (other == mid) refl
      where
        by_tests : (event : Bool) → (other == event_mid) ≡ event → (own : Bool) → (other == mid) ≡ own →
            (if event then sent else count_among (slice_set counts mid more) other)
            ≡ (if own then ((if event then sent else count_among counts other) + 1) % 16384 else (if event then sent else count_among counts other))
        by_tests true e true f = absurd (two_ids e f)
          where
            two_ids : (other == event_mid) ≡ true → (other == mid) ≡ true → ⊥
            two_ids e f = let never : true ≡ false = sym e ∙ ap (λ n. n == event_mid) (tested_equal other mid f) ∙ two in cc
        by_tests true e false f = refl
        by_tests false e true f = ap (λ n. count_among (slice_set counts mid more) n) (tested_equal other mid f) ∙ get_or-set_same counts mid more 0 inside
            ∙ ap (λ n. (count_among counts n + 1) % 16384) (sym (tested_equal other mid f))
        by_tests false e false f = get_or-set_other counts mid other more 0 (tested_unequal other mid f)

-- of a registered sender, whatever the sender is
pub counted_alone : (mid : ℕ) (origin : Origin) (name : Name) (request : Request) (packet : List ℕ) (before after : Services) → IsSender name (shared before) →
    ((old : Accounts) → old.counts mid ≡ count_among before.counts mid → next_delivered before.moment request old ≡ (record old { counts = counts_after mid old.counts }, packet ∷ [])) →
    mid < length before.counts → (mid == event_mid) ≡ false →
    after.counts ≡ slice_set before.counts mid ((count_among before.counts mid + 1) % 16384) → after.outgoing ≡ before.outgoing ++ packet →
    after.events ≡ before.events → after.bus ≡ before.bus → after.tables ≡ before.tables → after.moment ≡ before.moment →
    Tells origin name (request ∷ []) before after
unfolding shared
counted_alone mid origin name request packet before after sender delivered inside two counts outgoing events bus tables moment =
    by_events ((shared before).events name) refl sender
  where
    stays : (m : ℕ) → (m == event_mid) ≡ false → counts_with before.events.sent (count_among before.counts) m ≡ count_among before.counts m
    stays m e = ap (λ test. if test then before.events.sent else count_among before.counts m) e

    by_events : (o : Option EventState) → (shared before).events name ≡ o → IsTrue (is_some o) → Tells origin name (request ∷ []) before after
    by_events None is some = absurd (cc some)
    by_events (Some e) is some =
        let old : Accounts = record { events = e; counts = (shared before).counts } in
        let sent : sent_by before.moment name (request ∷ []) (shared before) ≡ (record (shared before) { events = with_at name (Some e) (shared before).events; counts = counts_after mid (shared before).counts }, packet ∷ []) =
        sent_among before.moment name (request ∷ []) (shared before) e is
        ∙ ap (λ (d : Accounts × List (List ℕ)). accounted name (shared before) (d.0, d.1 ++ [])) (delivered old (stays mid two)) in
        record {
          services = (λ i. services_seen (events i) (tables i) (counts i))
              ∙ (λ i. record (shared before) { counts = raised mid before.events.sent before.counts inside two i })
              ∙ (λ i. record (shared before) { events = sym (with_at_own name (Some e) (shared before).events is) i; counts = counts_after mid (shared before).counts })
              ∙ sym (ap (λ step. step.0) sent);
          outgoing = outgoing ∙ ap (λ bytes. before.outgoing ++ bytes) (sym (append-nil packet)) ∙ sym (ap (λ step. before.outgoing ++ concat step.1) sent);
          own = ap (λ service. option_map name_of (sender_at origin service)) events;
          others = λ other two. ap (sender_at other) events;
          bus = bus;
          tables = tables;
          moment = moment;
        }

pub sequence_delivered : (moment : Moment) (number count : ℕ) (old : Accounts) → old.counts sequence_mid ≡ count →
    next_delivered moment (Sequence number) old ≡ (record old { counts = counts_after sequence_mid old.counts }, sequence_request count number ∷ [])
sequence_delivered moment number count old is = λ i. (record old { counts = counts_after sequence_mid old.counts }, sequence_request (is i) number ∷ [])

pub housekeeping_delivered : (moment : Moment) (mode : LcMode) (points : List Standing) (bytes : List ℕ) (count : ℕ) → map standing_byte points ≡ bytes → (old : Accounts) →
    old.counts lc_housekeeping_mid ≡ count →
    next_delivered moment (Housekeeping mode points) old
    ≡ (record old { counts = counts_after lc_housekeeping_mid old.counts }, telemetry lc_housekeeping_mid count moment (u16 (mode_code mode) ++ u16 (length bytes) ++ bytes ++ replicate (176 - length bytes) 255) ∷ [])
housekeeping_delivered moment mode points bytes count are old is =
    let same : length points ≡ length bytes = sym (length-map points standing_byte) ∙ ap length are in
    λ i. (
      record old { counts = counts_after lc_housekeeping_mid old.counts },
      telemetry lc_housekeeping_mid (is i) moment (u16 (mode_code mode) ++ u16 (same i) ++ are i ++ replicate (176 - same i) 255) ∷ [],
    )

one_behind_the_other : (a b c d e f : List ℕ) → ((((a ++ b) ++ c) ++ d) ++ e) ++ f ≡ a ++ (b ++ (c ++ d ++ e ++ f))
one_behind_the_other a b c d e f = simp append_assoc refl

-- what is written one behind the other is the packet
pub housekeeping_written : (before header mode rules standings rest after : List ℕ) (count : ℕ) (moment : Moment) →
    header ≡ primary_header lc_housekeeping_mid count 192 ++ u32 moment.seconds ++ u16 moment.subseconds → length mode ≡ 2 → length rules ≡ 2 → length standings ≤ 176 → length rest ≡ 176 - length standings →
    after ≡ ((((before ++ header) ++ mode) ++ rules) ++ standings) ++ rest → after ≡ before ++ telemetry lc_housekeeping_mid count moment (mode ++ rules ++ standings ++ rest)
housekeeping_written before header mode rules standings rest after count moment is two again few left all =
    let payload : List ℕ = mode ++ rules ++ standings ++ rest in
    let size : length payload ≡ 180 =
    let a : length payload ≡ length (mode ++ rules ++ standings) + length rest = length-append (mode ++ rules ++ standings) rest in
    let b : length (mode ++ rules ++ standings) ≡ length (mode ++ rules) + length standings = length-append (mode ++ rules) standings in
    let c : length (mode ++ rules) ≡ length mode + length rules = length-append mode rules in
    omega (arith, a, b, c, two, again, few, left) in
    let whole : 12 + length payload ≡ 192 = omega (arith, size) in
    all
    ∙ one_behind_the_other before header mode rules standings rest
    ∙ ap (λ bytes. before ++ (bytes ++ payload)) is
    ∙ ap (λ n. before ++ (primary_header lc_housekeeping_mid count n ++ u32 moment.seconds ++ u16 moment.subseconds ++ payload)) (sym whole)

-- the housekeeping packet is there, by the numbers that are written
pub housekeeping_there : (before header mode rules standings rest after a b c d : List ℕ) (count number : ℕ) (moment : Moment) →
    header ≡ primary_header lc_housekeeping_mid count 192 ++ u32 moment.seconds ++ u16 moment.subseconds → mode ≡ u16 number → rules ≡ u16 (length standings) →
    length standings ≤ 176 → rest ≡ replicate (176 - length standings) 255 →
    a ≡ before ++ header → b ≡ a ++ mode → c ≡ b ++ rules → d ≡ c ++ standings → after ≡ d ++ rest →
    after ≡ before ++ telemetry lc_housekeeping_mid count moment (u16 number ++ u16 (length standings) ++ standings ++ replicate (176 - length standings) 255)
housekeeping_there before header mode rules standings rest after a b c d count number moment is mode_is rules_are few left first second third fourth fifth =
    housekeeping_written before header (u16 number) (u16 (length standings)) standings (replicate (176 - length standings) 255) after count moment is refl refl few
    (length-replicate (176 - length standings) 255)
    (fifth ∙ (λ i. fourth i ++ left i) ∙ ap (λ x. (x ++ standings) ++ replicate (176 - length standings) 255) (third ∙ (λ i. second i ++ rules_are i) ∙ (λ i. (first i ++ mode_is i) ++ u16 (length standings))))

abbrev blanks : ℕ → List ℕ
blanks n = replicate n 255

all_blanks : (n : ℕ) → take n (blanks n) ≡ blanks n
all_blanks zero = refl
all_blanks (suc n) = ap (λ rest. 255 ∷ rest) (all_blanks n)

blanks_behind : (k n left : ℕ) → k + left ≡ n → take left (drop k (blanks n)) ≡ blanks left
blanks_behind zero n left sum = let same : left ≡ n = omega (arith, sum) in subst (λ m. take left (blanks m) ≡ blanks left) same (all_blanks left)
blanks_behind (suc k) zero left sum = absurd (omega (arith, sum))
blanks_behind (suc k) (suc n) left sum = blanks_behind k n left (omega (arith, sum))

pub filler : (standings : List ℕ) → length standings ≤ 176 → take (176 - length standings) (drop (length standings) (blanks 176)) ≡ blanks (176 - length standings)
filler standings few = blanks_behind (length standings) 176 (176 - length standings) (omega (arith, few))
