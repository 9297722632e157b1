-- What a sample asks for, as it is sent.
use Rattle.std.proofs.Common.{◌≡◌, refl, ap, sym, ◌∙◌, subst, ℕ, zero, suc, ◌+◌, ◌≤◌, ◌<◌, List, [], ◌∷◌, ◌++◌, length, take, get_or, arith, Option, Some, None}
use Rattle.std.specs.Prelude.{IfSome, slice_get}
use Rattle.std.proofs.lemmas.List.{take_more, append_assoc, append-nil}
use Rattle.lc_model.specs.Count.{capped}
use Rattle.lc_model.specs.Name.{lc_name}
use Rattle.lc_model.specs.Events.Request.{Request, Event, Housekeeping, Sequence, Standing, rule_failed}
use Rattle.lc_model.specs.declared.mode.LcMode.{LcMode}
use Rattle.lc_model.specs.Rule.{Actionpoint}
use Rattle.lc_model.specs.Kept.Summary.{LcOwn}
use Rattle.lc_model.specs.Services.Events.{Origin, Sender, sender_at}
use Rattle.app_host.specs.declared.services.Services.{Services}
use Rattle.app_host.specs.Telling.{Tells}
use Rattle.app_host.specs.Sending.{NothingIsTold, TellingGoesOn, TellingKeepsSenders, RequestsSequence}
use Rattle.app_host.specs.Statements.{TellingIsByName}
use Rattle.limit_engine.specs.declared.engine.RuleEvent.{RuleEvent}
use Rattle.limit_engine.specs.declared.reaction.Turn.{Turn}
use Rattle.limit_engine.specs.declared.reaction.Turn.TheVariants.{ToFail, ToPass}
use Rattle.limit_engine.specs.declared.reaction.Failure.{Failure}
use Rattle.limit_engine.specs.declared.reaction.Failure.TheVariants.{Requested, LcPassive, Passive}
use Rattle.limit_engine.specs.declared.reaction.Reactions.{Reactions}
use Rattle.limit_engine.specs.declared.reaction.Asked.{Asked}
use Rattle.limit_checker.specs.Application.{IsHome}
use Rattle.limit_engine.specs.Reactions.{failure_requests, requests_at, requests_in, requests_of, turn_requests}
use Rattle.limit_checker.specs.Sending.{IsEventOf, MaySend, failure_size, reactions_size, sizes, turn_size}
use Rattle.limit_checker.proofs.Sizes.{both}

pub may_send : (place : Option ℕ) (own : LcOwn) (s : Services) → IsHome place own s → MaySend place s
may_send None own s home = absurd home
may_send (Some seat) own s home = record { named = home.settled.sender; sends = home.goes.sender }

pub still_may_send : TellingKeepsSenders → (from : Origin) (requests : List Request) (before after : Services) → Tells from lc_name requests before after → MaySend from before → MaySend from after
still_may_send law from requests before after t sends = record { named = t.own ∙ sends.named; sends = law from lc_name requests before after t sends.sends }

capped_stays : (n : ℕ) → n < 65536 → capped n ≡ n
capped_stays n below = omega (arith, below)

pub requested : TellingGoesOn → TellingIsByName → (from : Origin) (this : Actionpoint) (event : RuleEvent) (rule run : ℕ) (text : List ℕ) (before between after : Services) → IsEventOf this event →
    MaySend from before → RequestsSequence event.sequence before between →
    IfSome (sender_at from between.events) (λ (sender : Sender). Tells from sender.name (Event sender.name event.id event.kind text ∷ []) between after) →
    Event lc_name this.event_id this.event_kind text ≡ rule_failed this rule run → run < 65536 →
    Tells from lc_name (Sequence this.sequence ∷ rule_failed this rule (capped run) ∷ []) before after
requested goes_on by_name from this event rule run text before between after is sends first told says below =
    let one : Tells from lc_name (Sequence event.sequence ∷ []) before between = first from lc_name sends.sends in
    let two : Tells from lc_name (Event lc_name event.id event.kind text ∷ []) between after =
    by_name from lc_name (λ name. Event name event.id event.kind text ∷ []) between after (one.own ∙ sends.named) told in
    let event_is : Event lc_name event.id event.kind text ≡ rule_failed this rule (capped run) =
    (λ i. Event lc_name (is.id i) (is.kind i) text) ∙ says ∙ ap (rule_failed this rule) (sym (capped_stays run below)) in
    subst (λ requests. Tells from lc_name requests before after) (λ i. Sequence (is.sequence i) ∷ event_is i ∷ [])
    (goes_on from lc_name (Sequence event.sequence ∷ []) (Event lc_name event.id event.kind text ∷ []) before between after one two)

-- the turn alone, and with what enough failures in a row lead to
pub turn_alone : (from : Origin) (this : Actionpoint) (rule : ℕ) (reactions : Reactions) (before after : Services) → reactions.failure ≡ None →
    Tells from lc_name (turn_requests rule reactions.turn) before after → Tells from lc_name (requests_of this rule reactions) before after
turn_alone from this rule reactions before after none told =
    subst (λ requests. Tells from lc_name requests before after)
    (sym (append-nil (turn_requests rule reactions.turn)) ∙ ap (λ failure. turn_requests rule reactions.turn ++ failure_requests this rule failure) (sym none)) told

pub turn_and_failure : TellingGoesOn → (from : Origin) (this : Actionpoint) (rule : ℕ) (reactions : Reactions) (failure : Failure) (before between after : Services) → reactions.failure ≡ Some failure →
    Tells from lc_name (turn_requests rule reactions.turn) before between → Tells from lc_name (failure_requests this rule (Some failure)) between after →
    Tells from lc_name (requests_of this rule reactions) before after
turn_and_failure law from this rule reactions failure before between after some first second =
    subst (λ requests. Tells from lc_name requests before after) (ap (λ f. turn_requests rule reactions.turn ++ failure_requests this rule f) (sym some))
    (law from lc_name (turn_requests rule reactions.turn) (failure_requests this rule (Some failure)) before between after first second)

-- ---- an item

none_behind : {A : Type 0} (xs : List A) (n : ℕ) → length xs ≤ n → slice_get xs n ≡ None
none_behind [] n over = refl
none_behind (x ∷ xs) zero over = absurd (omega (arith, over))
none_behind (x ∷ xs) (suc n) over = none_behind xs n (omega (arith, over))

over_where_none : {A : Type 0} (xs : List A) (n : ℕ) → slice_get xs n ≡ None → length xs ≤ n
over_where_none [] n none = omega arith
over_where_none (x ∷ xs) zero none = cc
over_where_none (x ∷ xs) (suc n) none = let further = over_where_none xs n none in omega (arith, further)

turn_size_is : (n : ℕ) (turn : Option Turn) → sizes (turn_requests n turn) ≡ turn_size turn
turn_size_is n None = refl
turn_size_is n (Some ToFail) = refl
turn_size_is n (Some ToPass) = refl

failure_size_is : (rule : Actionpoint) (n : ℕ) (failure : Option Failure) → sizes (failure_requests rule n failure) ≡ failure_size failure
failure_size_is rule n None = refl
failure_size_is rule n (Some (Requested run)) = refl
failure_size_is rule n (Some LcPassive) = refl
failure_size_is rule n (Some Passive) = refl

reactions_size_is : (rule : Actionpoint) (n : ℕ) (reactions : Reactions) → sizes (requests_of rule n reactions) ≡ reactions_size reactions
reactions_size_is rule n reactions =
    both (turn_requests n reactions.turn) (failure_requests rule n reactions.failure)
    ∙ (λ i. turn_size_is n reactions.turn i + failure_size_is rule n reactions.failure i)

pub item_size : (rules : List Actionpoint) (item : Asked) (n : ℕ) → n ≡ item.rule → n < length rules → sizes (requests_at (slice_get rules item.rule) item) ≡ reactions_size item.reactions
item_size rules item n is inside = by_place (slice_get rules item.rule) refl
  where
    by_place : (place : Option Actionpoint) → slice_get rules item.rule ≡ place → sizes (requests_at place item) ≡ reactions_size item.reactions
    by_place None e = let over = over_where_none rules item.rule e in absurd (omega (arith, over, is, inside))
    by_place (Some rule) e = reactions_size_is rule item.rule item.reactions

pub item_told : (rules : List Actionpoint) (item : Asked) (n : ℕ) (event : RuleEvent) (from : Origin) (before after : Services) → n ≡ item.rule → n < length rules →
    ((rule : Actionpoint) → slice_get rules n ≡ Some rule → IsEventOf rule event) →
    ((this : Actionpoint) → IsEventOf this event → Tells from lc_name (requests_of this item.rule item.reactions) before after) →
    Tells from lc_name (requests_at (slice_get rules item.rule) item) before after
item_told rules item n event from before after is inside events told = by_place (slice_get rules item.rule) refl
  where
    by_place : (place : Option Actionpoint) → slice_get rules item.rule ≡ place → Tells from lc_name (requests_at place item) before after
    by_place None e = let over = over_where_none rules item.rule e in absurd (omega (arith, over, is, inside))
    by_place (Some rule) e = told rule (events rule (ap (slice_get rules) is ∙ e))

pub no_item : NothingIsTold → (rules : List Actionpoint) (item : Asked) (n : ℕ) (from : Origin) (s : Services) → n ≡ item.rule → length rules ≤ n →
    Tells from lc_name (requests_at (slice_get rules item.rule) item) s s
no_item law rules item n from s is over =
    subst (λ place. Tells from lc_name (requests_at place item) s s) (sym (ap (slice_get rules) (sym is) ∙ none_behind rules n over)) (law from lc_name s)

-- ---- one item after the other

one_more : (rules : List Actionpoint) (asked : List Asked) (k : ℕ) (default : Asked) → k < length asked →
    requests_in rules (take (k + 1) asked) ≡ requests_in rules (take k asked) ++ requests_at (slice_get rules (get_or asked k default).rule) (get_or asked k default)
one_more rules asked k default more =
    let item : Asked = get_or asked k default in
    ap (requests_in rules) (take_more asked k default more) ∙ behind (take k asked) item
  where
    behind : (some : List Asked) (item : Asked) → requests_in rules (some ++ item ∷ []) ≡ requests_in rules some ++ requests_at (slice_get rules item.rule) item
    behind [] item = append-nil (requests_at (slice_get rules item.rule) item)
    behind (first ∷ some) item = ap (λ rest. requests_at (slice_get rules first.rule) first ++ rest) (behind some item)
        ∙ sym (append_assoc (requests_at (slice_get rules first.rule) first) (requests_in rules some) (requests_at (slice_get rules item.rule) item))

pub so_many_sizes : (rules : List Actionpoint) (asked : List Asked) (k : ℕ) → sizes (requests_in rules (take k asked)) ≤ sizes (requests_in rules asked)
so_many_sizes rules [] zero = omega arith
so_many_sizes rules [] (suc k) = omega arith
so_many_sizes rules (first ∷ asked) zero = omega arith
so_many_sizes rules (first ∷ asked) (suc k) =
    let later = so_many_sizes rules asked k in
    let some = both (requests_at (slice_get rules first.rule) first) (requests_in rules (take k asked)) in
    let all = both (requests_at (slice_get rules first.rule) first) (requests_in rules asked) in
    omega (arith, later, some, all)

pub size_of_more : (rules : List Actionpoint) (asked : List Asked) (k : ℕ) (default : Asked) → k < length asked →
    sizes (requests_in rules (take (k + 1) asked)) ≡ sizes (requests_in rules (take k asked)) + sizes (requests_at (slice_get rules (get_or asked k default).rule) (get_or asked k default))
size_of_more rules asked k default more =
    ap sizes (one_more rules asked k default more)
    ∙ both (requests_in rules (take k asked)) (requests_at (slice_get rules (get_or asked k default).rule) (get_or asked k default))

pub has_room : (rules : List Actionpoint) (asked : List Asked) (k : ℕ) (default : Asked) → k < length asked → (now first : ℕ) → now ≤ first + sizes (requests_in rules (take k asked)) →
    first + sizes (requests_in rules asked) ≤ 65536 → now + sizes (requests_at (slice_get rules (get_or asked k default).rule) (get_or asked k default)) ≤ 65536
has_room rules asked k default more now first far room =
    let some = so_many_sizes rules asked (k + 1) in
    let one = size_of_more rules asked k default more in
    omega (arith, some, one, far, room)

pub told_so_far : TellingGoesOn → (rules : List Actionpoint) (asked : List Asked) (k : ℕ) (default : Asked) → k < length asked → (from : Origin) (before between after : Services) →
    Tells from lc_name (requests_in rules (take k asked)) before between →
    Tells from lc_name (requests_at (slice_get rules (get_or asked k default).rule) (get_or asked k default)) between after →
    Tells from lc_name (requests_in rules (take (k + 1) asked)) before after
told_so_far law rules asked k default more from before between after far next =
    subst (λ requests. Tells from lc_name requests before after) (sym (one_more rules asked k default more))
    (law from lc_name (requests_in rules (take k asked)) (requests_at (slice_get rules (get_or asked k default).rule) (get_or asked k default)) before between after far next)

pub size_so_far : (rules : List Actionpoint) (asked : List Asked) (k : ℕ) (default : Asked) → k < length asked → (now new first : ℕ) → now ≤ first + sizes (requests_in rules (take k asked)) →
    new ≤ now + sizes (requests_at (slice_get rules (get_or asked k default).rule) (get_or asked k default)) → new ≤ first + sizes (requests_in rules (take (k + 1) asked))
size_so_far rules asked k default more now new first far one =
    let sum = size_of_more rules asked k default more in
    omega (arith, sum, far, one)

-- what is told of one mode is told of an equal one
pub tells_mode : (from : Origin) (points : List Standing) (before after : Services) {mode told : LcMode} → told ≡ mode → Tells from lc_name (Housekeeping told points ∷ []) before after →
    Tells from lc_name (Housekeeping mode points ∷ []) before after
tells_mode from points before after is tells = subst (λ m. Tells from lc_name (Housekeeping m points ∷ []) before after) is tells
