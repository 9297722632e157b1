-- The subscriptions of a pipe change, and what waits in it stays.
use Rattle.std.proofs.Common.{◌≡◌, refl, ap, sym, ◌∙◌, subst, ℕ, ◌+◌, ◌≤◌, ◌<◌, Bool, true, false, not, ◌&&◌, ◌||◌, ◌==◌, List, [], ◌∷◌, ◌++◌, length, arith, pos, if◌then◌else◌, Option, Some, None, Ok, true≢false, get_or}
use Rattle.std.specs.Prelude.{IfSome, IsSomeAnd, drop, filter, IsTrue, is_some, slice_set}
use Rattle.std.specs.List.{list_any}
use Rattle.std.proofs.lemmas.List.{get_or-set_same, set-get_or, set-set, drop_all, drop_more, get_or-map, length-map}
use Rattle.std.proofs.lemmas.List.Folds.{list_any-append}
use Rattle.std.proofs.lemmas.Map.Views.{any-filter_same}
use Rattle.lc_model.specs.declared.field.CmpOp.TheVariants.{Less}
use Rattle.lc_model.specs.declared.field.FieldType.TheVariants.{U8}
use Rattle.lc_model.specs.declared.field.Term.{Term}
use Rattle.lc_model.specs.Refusal.{◌>>=◌, found}
use Rattle.lc_model.specs.Kept.Call.{with_mid, with_mids}
use Rattle.lc_model.specs.Services.Bus.{Bus, Queue, pipe_at, with_pipe, unsubscribed, parted, after, refusal_of}
use Rattle.lc_model.proofs.Facts.{equal_itself, or_false, or_true, tested_equal, equal_either_way, or_assoc}
use Rattle.lc_model.proofs.Services.Subscriptions.{inside_of, is_there, still_there}
use Rattle.app_host.specs.Resubscribing.{mids_of, without_mids}
use Rattle.app_host.proofs.Seats.{with_mid_length}

-- ---- lists of message ids

abbrev among : ℕ → List ℕ → Bool
among m mids = list_any (λ other. m == other) mids

one_less : (m mid : ℕ) (mids : List ℕ) → among m (filter (λ other. not (mid == other)) mids) ≡ (not (m == mid) && among m mids)
one_less m mid mids =
    any-filter_same (λ other. m == other) (λ other. not (mid == other)) (not (m == mid))
    (λ k e. ap (λ n. not (mid == n)) (sym (tested_equal m k e)) ∙ ap not (equal_either_way mid m)) mids

nothing_twice : (a b c : Bool) → (not b && (not a && c)) ≡ (not (a || b) && c)
nothing_twice true true c = refl
nothing_twice true false c = refl
nothing_twice false true c = refl
nothing_twice false false c = refl

all_less : (m : ℕ) (ids mids : List ℕ) → among m (without_mids ids mids) ≡ (not (among m ids) && among m mids)
unfolding without_mids
all_less m [] mids = refl
all_less m (mid ∷ ids) mids =
    all_less m ids (filter (λ other. not (mid == other)) mids)
    ∙ ap (λ b. not (among m ids) && b) (one_less m mid mids)
    ∙ nothing_twice (m == mid) (among m ids) (among m mids)

one_more_among : (m mid : ℕ) (mids : List ℕ) → among m (with_mid mid mids) ≡ (among m mids || (m == mid))
one_more_among m mid mids = by_test (among mid mids) refl
  where
    there : (b : Bool) → (m == mid) ≡ b → among mid mids ≡ true → among m mids ≡ (among m mids || b)
    there true e is = ap (λ n. among n mids) (tested_equal m mid e) ∙ is ∙ sym (or_true (among m mids))
    there false e is = sym (or_false (among m mids))

    by_test : (b : Bool) → among mid mids ≡ b → among m (if b then mids else mids ++ mid ∷ []) ≡ (among m mids || (m == mid))
    by_test true is = there (m == mid) refl is
    by_test false is = list_any-append (λ other. m == other) mids (mid ∷ []) ∙ ap (λ b. among m mids || b) (or_false (m == mid))

all_more : (m : ℕ) (ids mids : List ℕ) → among m (with_mids ids mids) ≡ (among m mids || among m ids)
unfolding with_mids
all_more m [] mids = sym (or_false (among m mids))
all_more m (mid ∷ ids) mids =
    all_more m ids (with_mid mid mids) ∙ ap (λ b. b || among m ids) (one_more_among m mid mids) ∙ or_assoc (among m mids) (m == mid) (among m ids)

never_both : (b : Bool) → (not b && b) ≡ false
never_both true = refl
never_both false = refl

none_there : (mids : List ℕ) → ((m : ℕ) → among m mids ≡ false) → mids ≡ []
none_there [] none = refl
none_there (mid ∷ mids) none = absurd (true≢false (sym (ap (λ b. b || among mid mids) (equal_itself mid)) ∙ none mid))

-- what was subscribed to, without it
pub nothing_left : (ids : List ℕ) → without_mids ids (with_mids ids []) ≡ []
nothing_left ids = none_there (without_mids ids (with_mids ids [])) (λ m. all_less m ids (with_mids ids []) ∙ ap (λ b. not (among m ids) && b) (all_more m ids []) ∙ never_both (among m ids))

pub less_in_parts : (first second mids : List ℕ) → without_mids (first ++ second) mids ≡ without_mids second (without_mids first mids)
unfolding without_mids
less_in_parts [] second mids = refl
less_in_parts (mid ∷ first) second mids = less_in_parts first second (filter (λ other. not (mid == other)) mids)

pub more_in_parts : (first second mids : List ℕ) → with_mids (first ++ second) mids ≡ with_mids second (with_mids first mids)
unfolding with_mids
more_in_parts [] second mids = refl
more_in_parts (mid ∷ first) second mids = more_in_parts first second (with_mid mid mids)

-- ---- a pipe

-- with this list of subscriptions so far, the rest goes as all of them do
pub record UnsubscribedSoFar (seat : ℕ) (all left : List ℕ) (first now : Bus) (queue : Queue) : Type 0 where
  pub subscriptions : List ℕ
  pub bus : now ≡ with_pipe seat first (record queue { subscriptions = subscriptions })
  pub rest : without_mids left subscriptions ≡ without_mids all queue.subscriptions
  pub inside : seat < length first

abbrev less : ℕ → List ℕ → List ℕ
less mid mids = filter (λ other. not (mid == other)) mids

unsubscribed_next : (seat mid : ℕ) (all left : List ℕ) (first now : Bus) (queue : Queue) (far : UnsubscribedSoFar seat all (mid ∷ left) first now queue) →
    unsubscribed seat mid now ≡ Ok (with_pipe seat first (record queue { subscriptions = less mid far.subscriptions }))
unsubscribed_next seat mid all left first now queue far =
    let old : Queue = record queue { subscriptions = far.subscriptions } in
    let there : pipe_at seat now ≡ Some old = ap (pipe_at seat) far.bus ∙ get_or-set_same first seat (Some old) None far.inside in
    ap (λ (p : Option Queue). found p 93 >>= (λ q. Ok (with_pipe seat now (parted mid q)))) there
    ∙ ap (λ b. Ok (with_pipe seat b (parted mid old))) far.bus
    ∙ ap Ok (set-set first seat (Some old) (Some (parted mid old)))

one_subscription_less : (mid : ℕ) (left mids all : List ℕ) → without_mids (mid ∷ left) mids ≡ all → without_mids left (less mid mids) ≡ all
unfolding without_mids
one_subscription_less mid left mids all e = e

no_less : (mids : List ℕ) → without_mids [] mids ≡ mids
unfolding without_mids
no_less mids = refl

unsubscribed_after : (seat mid : ℕ) (all left : List ℕ) (first now new : Bus) (queue : Queue) → UnsubscribedSoFar seat all (mid ∷ left) first now queue →
    new ≡ after now (unsubscribed seat mid now) → UnsubscribedSoFar seat all left first new queue
unsubscribed_after seat mid all left first now new queue far is = record {
  subscriptions = less mid far.subscriptions;
  bus = is ∙ ap (after now) (unsubscribed_next seat mid all left first now queue far);
  rest = one_subscription_less mid left far.subscriptions (without_mids all queue.subscriptions) far.rest;
  inside = far.inside;
}

-- at the seat's pipe, so many of these subscriptions are gone
abbrev pub AreUnsubscribed : (seat k : ℕ) (all : List ℕ) (first now : Bus) → Type 0
AreUnsubscribed seat k all first now = IsSomeAnd (pipe_at seat first) (λ (queue : Queue). UnsubscribedSoFar seat all (drop k all) first now queue)

pub none_gone : (seat : ℕ) (all : List ℕ) (first : Bus) → IsTrue (is_some (pipe_at seat first)) → AreUnsubscribed seat 0 all first first
none_gone seat all first there = by_place (pipe_at seat first) refl there
  where
    by_place : (place : Option Queue) → pipe_at seat first ≡ place → IsTrue (is_some place) → IsSomeAnd place (λ (queue : Queue). UnsubscribedSoFar seat all all first first queue)
    by_place None e there = true≢false (sym there)
    by_place (Some queue) e some = record {
      subscriptions = queue.subscriptions;
      bus = sym (set-get_or first seat None) ∙ ap (slice_set first seat) e;
      rest = refl;
      inside = inside_of first seat there;
    }

pub goes_one_more : (seat k : ℕ) (all : List ℕ) (first now : Bus) → k < length all → AreUnsubscribed seat k all first now →
    refusal_of (unsubscribed seat (get_or all k 0) now) ≡ None
goes_one_more seat k all first now more far = by_place (pipe_at seat first) far
  where
    by_place : (place : Option Queue) → IsSomeAnd place (λ (queue : Queue). UnsubscribedSoFar seat all (drop k all) first now queue) →
        refusal_of (unsubscribed seat (get_or all k 0) now) ≡ None
    by_place None far = absurd far
    by_place (Some queue) far = ap refusal_of (unsubscribed_next seat (get_or all k 0) all (drop (k + 1) all) first now queue
        (subst (λ left. UnsubscribedSoFar seat all left first now queue) (drop_more all k 0 more) far))

pub one_less_left : (seat k : ℕ) (all : List ℕ) (first now new : Bus) → k < length all → AreUnsubscribed seat k all first now →
    new ≡ after now (unsubscribed seat (get_or all k 0) now) → AreUnsubscribed seat (k + 1) all first new
one_less_left seat k all first now new more far is = by_place (pipe_at seat first) far
  where
    by_place : (place : Option Queue) → IsSomeAnd place (λ (queue : Queue). UnsubscribedSoFar seat all (drop k all) first now queue) →
        IsSomeAnd place (λ (queue : Queue). UnsubscribedSoFar seat all (drop (k + 1) all) first new queue)
    by_place None far = absurd far
    by_place (Some queue) far = unsubscribed_after seat (get_or all k 0) all (drop (k + 1) all) first now new queue
        (subst (λ left. UnsubscribedSoFar seat all left first now queue) (drop_more all k 0 more) far) is

pub all_gone : (seat k : ℕ) (all : List ℕ) (first now : Bus) → drop k all ≡ [] → AreUnsubscribed seat k all first now →
    IfSome (pipe_at seat first) (λ (queue : Queue). now ≡ with_pipe seat first (record queue { subscriptions = without_mids all queue.subscriptions }))
all_gone seat k all first now none far = by_place (pipe_at seat first) far
  where
    by_place : (place : Option Queue) → IsSomeAnd place (λ (queue : Queue). UnsubscribedSoFar seat all (drop k all) first now queue) →
        IfSome place (λ (queue : Queue). now ≡ with_pipe seat first (record queue { subscriptions = without_mids all queue.subscriptions }))
    by_place None far = tt
    by_place (Some queue) far = far.bus
        ∙ ap (λ mids. with_pipe seat first (record queue { subscriptions = mids }))
        (sym (no_less far.subscriptions) ∙ ap (λ left. without_mids left far.subscriptions) (sym none) ∙ far.rest)

-- ---- watchpoints

-- in the place of a watchpoint that there isn't
abbrev pub no_term : Term
no_term = record { kind = U8; mid = 0; offset = 0; mask = 0; stale = 0; op = Less; value = pos 0 }

pub mid_there : (k : ℕ) (terms : List Term) → k < length terms → (get_or terms k no_term).mid ≡ get_or (mids_of terms) k 0
mid_there k terms more = sym (get_or-map (λ (t : Term). t.mid) terms k no_term 0 more)

pub as_many : (k : ℕ) (terms : List Term) → k < length terms → k < length (mids_of terms)
as_many k terms more = let same : length (mids_of terms) ≡ length terms = length-map terms (λ (t : Term). t.mid) in omega (arith, more, same)

pub all_done : (k : ℕ) (terms : List Term) → length terms ≤ k → drop k (mids_of terms) ≡ []
all_done k terms over = let same : length (mids_of terms) ≡ length terms = length-map terms (λ (t : Term). t.mid) in drop_all k (mids_of terms) (omega (arith, over, same))

-- ---- requests and watchpoints together

with_mids_length : (ids mids : List ℕ) → length (with_mids ids mids) ≤ length mids + length ids
unfolding with_mids
with_mids_length [] mids = omega arith
with_mids_length (mid ∷ ids) mids = let one = with_mid_length mid mids in let others = with_mids_length ids (with_mid mid mids) in omega (arith, one, others)

pub room_left : (seat : ℕ) (ids : List ℕ) (first between : Bus) (more : ℕ) →
    IsSomeAnd (pipe_at seat first) (λ (queue : Queue). length queue.subscriptions + length ids + more ≤ 256) →
    IfSome (pipe_at seat first) (λ (queue : Queue). between ≡ with_pipe seat first (record queue { subscriptions = with_mids ids queue.subscriptions })) →
    IsSomeAnd (pipe_at seat between) (λ (queue : Queue). length queue.subscriptions + more ≤ 256)
room_left seat ids first between more room was = by_place (pipe_at seat first) refl room
  where
    by_place : (place : Option Queue) → pipe_at seat first ≡ place → IsSomeAnd place (λ (queue : Queue). length queue.subscriptions + length ids + more ≤ 256) →
        IsSomeAnd (pipe_at seat between) (λ (queue : Queue). length queue.subscriptions + more ≤ 256)
    by_place None e has = absurd has
    by_place (Some queue) e has =
        subst (λ (place : Option Queue). IsSomeAnd place (λ (q : Queue). length q.subscriptions + more ≤ 256))
        (sym (still_there seat first between (λ q. with_mids ids q.subscriptions) (is_there _ (pipe_at seat first) room) was queue e))
        (let longer = with_mids_length ids queue.subscriptions in omega (arith, has, longer))

-- a pipe that hears these message ids and those hears nothing without them
pub nothing_heard : (seat : ℕ) (ids : List ℕ) (terms : List Term) (first last : Bus) →
    IsSomeAnd (pipe_at seat first) (λ (queue : Queue). queue.subscriptions ≡ with_mids (ids ++ mids_of terms) []) →
    IfSome (pipe_at seat first) (λ (queue : Queue). last ≡ with_pipe seat first (record queue { subscriptions = without_mids (mids_of terms) (without_mids ids queue.subscriptions) })) →
    IfSome (pipe_at seat first) (λ (queue : Queue). last ≡ with_pipe seat first (record queue { subscriptions = [] }))
nothing_heard seat ids terms first last heard is = by_place (pipe_at seat first) heard is
  where
    by_place : (place : Option Queue) → IsSomeAnd place (λ (queue : Queue). queue.subscriptions ≡ with_mids (ids ++ mids_of terms) []) →
        IfSome place (λ (queue : Queue). last ≡ with_pipe seat first (record queue { subscriptions = without_mids (mids_of terms) (without_mids ids queue.subscriptions) })) →
        IfSome place (λ (queue : Queue). last ≡ with_pipe seat first (record queue { subscriptions = [] }))
    by_place None heard is = tt
    by_place (Some queue) heard is = is
        ∙ ap (λ mids. with_pipe seat first (record queue { subscriptions = mids }))
        (ap (λ mids. without_mids (mids_of terms) (without_mids ids mids)) heard ∙ sym (less_in_parts ids (mids_of terms) (with_mids (ids ++ mids_of terms) [])) ∙ nothing_left (ids ++ mids_of terms))

-- all of them at once
pub all_heard : (seat : ℕ) (ids more : List ℕ) (first last : Bus) →
    IfSome (pipe_at seat first) (λ (queue : Queue). last ≡ with_pipe seat first (record queue { subscriptions = with_mids more (with_mids ids queue.subscriptions) })) →
    IfSome (pipe_at seat first) (λ (queue : Queue). last ≡ with_pipe seat first (record queue { subscriptions = with_mids (ids ++ more) queue.subscriptions }))
all_heard seat ids more first last is = by_place (pipe_at seat first) is
  where
    by_place : (place : Option Queue) → IfSome place (λ (queue : Queue). last ≡ with_pipe seat first (record queue { subscriptions = with_mids more (with_mids ids queue.subscriptions) })) →
        IfSome place (λ (queue : Queue). last ≡ with_pipe seat first (record queue { subscriptions = with_mids (ids ++ more) queue.subscriptions }))
    by_place None is = tt
    by_place (Some queue) is = is ∙ ap (λ mids. with_pipe seat first (record queue { subscriptions = mids })) (sym (more_in_parts ids more queue.subscriptions))
