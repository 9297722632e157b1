-- Steps that are alike, and the commands that keep a world alike to itself.
use Rattle.std.proofs.Common.{◌≡◌, ℕ, Bool, true, false, not, ◌&&◌, List, [], ◌∷◌, ◌++◌, ◌==◌, refl, ap, ap₂, sym, ◌∙◌, subst, Option, Some, None, is_some, Result, Ok, Err, if◌then◌else◌, IsTrue, true≢false}
use Rattle.std.specs.Option.{option_map_or}
use Rattle.lc_model.specs.Name.{Name, is_named, lc_name, sch_name, counter_name}
use Rattle.lc_model.specs.Packet.{function_code, payload}
use Rattle.lc_model.specs.Refusal.{Refusal, ◌>>=◌, refused, found, provided}
use Rattle.lc_model.specs.Tables.Interpretation.{Interpretation}
use Rattle.lc_model.specs.Events.Request.{Request, Event, Sequence, Housekeeping, Service, event_services, executive_services, command_done}
use Rattle.lc_model.specs.Events.Log.{Log, LogItem, joined}
use Rattle.lc_model.specs.Command.{Order, Start, Stop, Restart, Reload, bare_request, event_command_in, order_in}
use Rattle.lc_model.specs.LimitChecker.Steps.{by_lists, lc_start}
use Rattle.lc_model.specs.Host.World.{World, Running, begun, ended, with_one_spare_less, log_of}
use Rattle.lc_model.specs.Host.React.{Step, answered, event_service, lc_begun, counter_answer, counter_packet, counter_become, to_counter, ordered, executive_service}
use Rattle.lc_model.specs.Laws.Isolation.{names_another}
use Rattle.lc_model.proofs.Host.SameCore.{numbers_in, SameCore, itself, and_so, back, any_log}

-- ---- steps that are alike

-- the worlds afterwards are alike, and the same sequences are requested
pub record SameStep {Image : Type 0} (s t : Step Image) : Type 0 where
  pub alike : SameCore s.0 t.0
  pub numbers : numbers_in s.1 ≡ numbers_in t.1

-- nothing that counts happens
abbrev pub IsIdle : {Image : Type 0} → World Image → Step Image → Type 0
IsIdle w s = SameStep s (w, [])

-- both are refused, or both are not and are related so
abbrev pub Both : {A B : Type 0} → (A → B → Type 0) → Result A Refusal → Result B Refusal → Type 0
Both R (Ok x) (Ok y) = R x y
Both R (Err a) (Err b) = Unit {0}
Both R x y = ⊥

-- one step after another, with the first one common to both
pub both_after : {A B C : Type 0} (R : B → C → Type 0) (r : Result A Refusal) (f : A → Result B Refusal) (g : A → Result C Refusal) →
    ((x : A) → Both R (f x) (g x)) → Both R (r >>= f) (r >>= g)
both_after R (Ok x) f g h = h x
both_after R (Err refusal) f g h = tt

pub both_then : {A B C D : Type 0} (Q : A → B → Type 0) (R : C → D → Type 0) (r : Result A Refusal) (q : Result B Refusal)
    (f : A → Result C Refusal) (g : B → Result D Refusal) →
    Both Q r q → ((x : A) (y : B) → Q x y → Both R (f x) (g y)) → Both R (r >>= f) (q >>= g)
both_then Q R (Ok x) (Ok y) f g a h = h x y a
both_then Q R (Ok x) (Err refusal) f g a h = absurd a
both_then Q R (Err refusal) (Ok y) f g a h = absurd a
both_then Q R (Err refusal) (Err other) f g a h = tt

numbers-append : (xs ys : List Request) → numbers_in (xs ++ ys) ≡ numbers_in xs ++ numbers_in ys
numbers-append [] ys = refl
numbers-append (Event sender id kind text ∷ xs) ys = numbers-append xs ys
numbers-append (Sequence number ∷ xs) ys = ap (λ ns. number ∷ ns) (numbers-append xs ys)
numbers-append (Housekeeping mode points ∷ xs) ys = numbers-append xs ys

pub numbers-same : (xs ys xs' ys' : List Request) → numbers_in xs ≡ numbers_in xs' → numbers_in ys ≡ numbers_in ys' → numbers_in (xs ++ ys) ≡ numbers_in (xs' ++ ys')
numbers-same xs ys xs' ys' a b = numbers-append xs ys ∙ ap₂ (λ ns ms. ns ++ ms) a b ∙ sym (numbers-append xs' ys')

pub by_way_of : {Image : Type 0} (s m t : Step Image) → SameStep s m → SameStep m t → SameStep s t
by_way_of s m t a b = record { alike = and_so s.0 m.0 t.0 a.alike b.alike; numbers = a.numbers ∙ b.numbers }

pub turned : {Image : Type 0} (s t : Step Image) → SameStep s t → SameStep t s
turned s t a = record { alike = back s.0 t.0 a.alike; numbers = sym a.numbers }

-- idle steps of alike worlds
pub both_idle : {Image : Type 0} (w v : World Image) (s t : Step Image) → SameCore w v → IsIdle w s → IsIdle v t → SameStep s t
both_idle w v s t alike a b = by_way_of s (w, []) t a (by_way_of (w, []) (v, []) t (record { alike = alike; numbers = refl }) (turned t (v, []) b))

-- a service's own event is no sequence request
pub answered_same : {Image : Type 0} (service : Service) (packet : List ℕ) (w v : World Image) (r q : Result (Step Image) Refusal) → SameCore w v →
    Both SameStep r q → SameStep (answered service packet w r) (answered service packet v q)
answered_same service packet w v (Ok s) (Ok t) alike same = record {
  alike = same.alike;
  numbers = numbers-same s.1 (command_done service (function_code packet) ∷ []) t.1 (command_done service (function_code packet) ∷ []) same.numbers refl;
}
answered_same service packet w v (Ok s) (Err b) alike same = absurd same
answered_same service packet w v (Err a) (Ok t) alike same = absurd same
answered_same service packet w v (Err a) (Err b) alike same = record { alike = alike; numbers = refl }

-- what is idle, if it is not refused
abbrev pub IdleIfDone : {Image : Type 0} → World Image → Result (Step Image) Refusal → Type 0
IdleIfDone w (Ok s) = IsIdle w s
IdleIfDone w (Err refusal) = Unit {0}

pub answered_idle : {Image : Type 0} (service : Service) (packet : List ℕ) (w : World Image) (r : Result (Step Image) Refusal) →
    IdleIfDone w r → IsIdle w (answered service packet w r)
answered_idle service packet w (Ok s) idle = record {
  alike = idle.alike;
  numbers = numbers-same s.1 (command_done service (function_code packet) ∷ []) [] [] idle.numbers refl;
}
answered_idle service packet w (Err refusal) idle = record { alike = itself w; numbers = refl }

idle_after : {Image A : Type 0} (w : World Image) (r : Result A Refusal) (f : A → Result (Step Image) Refusal) → ((x : A) → IdleIfDone w (f x)) → IdleIfDone w (r >>= f)
idle_after w (Ok x) f h = h x
idle_after w (Err refusal) f h = tt

-- ---- asides

-- commands to event services change logs only
pub events_idle : {Image : Type 0} (packet : List ℕ) (w : World Image) → IsIdle w (answered event_services packet w (event_service packet w))
events_idle packet w =
    answered_idle event_services packet w (event_service packet w)
    (idle_after w (event_command_in packet) _ (λ (command : Name × LogItem).
    idle_after w (found (log_of w command.0) 101) _ (λ (log : Log).
    idle_after w (joined command.1 log) _ (λ (longer : Log). record { alike = any_log command.0 longer w; numbers = refl }))))

-- the counter changes only itself
pub counter_idle : {Image : Type 0} (packet : List ℕ) (w : World Image) → IsIdle w (to_counter packet w)
counter_idle {Image} packet w = by_running w.counter.running
  where
    by_request : (accepted : ℕ) (r : Result (Unit {0}) Refusal) → IsIdle w (counter_become w (counter_answer accepted r))
    by_request accepted (Ok command) = record { alike = record { core = refl; count = refl }; numbers = refl }
    by_request accepted (Err refusal) = record { alike = record { core = refl; count = refl }; numbers = refl }

    by_running : (o : Option (Running ℕ)) → IsIdle w (option_map_or (λ (counter : Running ℕ). counter_become w (counter_packet packet counter.state)) o (w, []))
    by_running None = record { alike = itself w; numbers = refl }
    by_running (Some counter) = by_request counter.state (bare_request 1 (function_code packet) (payload packet))

-- ---- orders to applications

-- what orders ask and do, by which application is named
abbrev pub runs_by : {Image : Type 0} → Bool → Bool → Bool → World Image → Bool
runs_by a b c w = if a then is_some w.lc.running else if b then is_some w.sch.running else if c then is_some w.counter.running else false

abbrev pub spares_by : {Image : Type 0} → Bool → Bool → Bool → World Image → ℕ
spares_by a b c w = if a then w.lc.spares else if b then w.sch.spares else if c then w.counter.spares else 0

abbrev pub left_by : {Image : Type 0} → Bool → Bool → Bool → World Image → World Image
left_by a b c w =
    if a then record w { lc = ended w.lc } else if b then record w { sch = ended w.sch } else if c then record w { counter = ended w.counter } else w

abbrev pub taken_by : {Image : Type 0} → Bool → Bool → Bool → World Image → World Image
taken_by a b c w =
    if a then record w { lc = with_one_spare_less w.lc } else if b then record w { sch = with_one_spare_less w.sch }
    else if c then record w { counter = with_one_spare_less w.counter } else w

abbrev pub started_by : {Image : Type 0} → Interpretation Image → Bool → Bool → Bool → World Image → Step Image
started_by images a b c w =
    if a then lc_begun w (lc_start by_lists images w.files)
    else if b then (record w { sch = begun 0 w.sch }, [])
    else if c then (record w { counter = begun 0 w.counter }, [])
    else (w, [])

abbrev pub ordered_by : {Image : Type 0} → Interpretation Image → Bool → Bool → Bool → Order → World Image → Result (Step Image) Refusal
ordered_by images a b c Start w =
    if runs_by a b c w then refused 123 else if spares_by a b c w == 0 then refused 122 else Ok (started_by images a b c (taken_by a b c w))
ordered_by images a b c Stop w = provided (runs_by a b c w) 121 (left_by a b c w, [])
ordered_by images a b c Restart w = provided (runs_by a b c w) 121 (started_by images a b c (left_by a b c w))
ordered_by images a b c Reload w =
    if not (runs_by a b c w) then refused 121
    else if spares_by a b c w == 0 then refused 122
    else Ok (started_by images a b c (taken_by a b c (left_by a b c w)))

pub by_names : {Image : Type 0} (images : Interpretation Image) (order : Order) (name : Name) (w : World Image) →
    ordered_by images (is_named name lc_name) (is_named name sch_name) (is_named name counter_name) order w ≡ ordered images order name w
by_names images Start name w = refl
by_names images Stop name w = refl
by_names images Restart name w = refl
by_names images Reload name w = refl

idle_unless : {Image : Type 0} (w : World Image) (test : Bool) (code : ℕ) (r : Result (Step Image) Refusal) → IdleIfDone w r → IdleIfDone w (if test then refused code else r)
idle_unless w true code r idle = tt
idle_unless w false code r idle = idle

idle_if : {Image : Type 0} (w : World Image) (test : Bool) (code : ℕ) (s : Step Image) → IsIdle w s → IdleIfDone w (provided test code s)
idle_if w true code s idle = idle
idle_if w false code s idle = tt

-- orders to another application
pub order_idle : {Image : Type 0} (images : Interpretation Image) (c : Bool) (order : Order) (w : World Image) → IdleIfDone w (ordered_by images false false c order w)
order_idle images true Start w =
    idle_unless w (is_some w.counter.running) 123 _ (idle_unless w (w.counter.spares == 0) 122 (Ok (started_by images false false true (taken_by false false true w)))
    (record { alike = record { core = refl; count = refl }; numbers = refl }))
order_idle images true Stop w =
    idle_if w (is_some w.counter.running) 121 (left_by false false true w, []) (record { alike = record { core = refl; count = refl }; numbers = refl })
order_idle images true Restart w =
    idle_if w (is_some w.counter.running) 121 (started_by images false false true (left_by false false true w)) (record { alike = record { core = refl; count = refl }; numbers = refl })
order_idle images true Reload w =
    idle_unless w (not (is_some w.counter.running)) 121 _ (idle_unless w (w.counter.spares == 0) 122 (Ok (started_by images false false true (taken_by false false true (left_by false false true w))))
    (record { alike = record { core = refl; count = refl }; numbers = refl }))
order_idle images false Start w = tt
order_idle images false Stop w = tt
order_idle images false Restart w = tt
order_idle images false Reload w = tt

no_name : (a b : Bool) → IsTrue (not a && not b) → (a ≡ false) × (b ≡ false)
no_name true b h = absurd (true≢false (sym h))
no_name false true h = absurd (true≢false (sym h))
no_name false false h = (refl, refl)

-- an order that names neither the Limit Checker nor the scheduler
pub another_idle : {Image : Type 0} (images : Interpretation Image) (packet : List ℕ) (w : World Image) →
    IsTrue (names_another (order_in packet)) →
    IsIdle w (answered executive_services packet w (executive_service images packet w))
another_idle {Image} images packet w other =
    answered_idle executive_services packet w (executive_service images packet w) (by_command (order_in packet) other)
  where
    by_command : (r : Result (Order × Name) Refusal) → IsTrue (names_another r) → IdleIfDone w (r >>= (λ (command : Order × Name). ordered images command.0 command.1 w))
    by_command (Err refusal) other = tt
    by_command (Ok order) other =
        let not_it = no_name (is_named order.1 lc_name) (is_named order.1 sch_name) other in
        subst (λ r. IdleIfDone w r)
        (ap₂ (λ a b. ordered_by images a b (is_named order.1 counter_name) order.0 w) (sym not_it.0) (sym not_it.1) ∙ by_names images order.0 order.1 w)
        (order_idle images (is_named order.1 counter_name) order.0 w)
