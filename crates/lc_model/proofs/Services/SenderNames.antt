-- Senders at seats, and what is held under their names.
use Rattle.std.proofs.Common.{◌≡◌, ℕ, zero, suc, ◌+◌, ◌<◌, Bool, true, false, ◌||◌, List, [], ◌∷◌, length, refl, ap, sym, ◌∙◌, subst, arith, Option, Some, None, if◌then◌else◌, cond, IsTrue, IsFalse, true≢false}
use Rattle.std.specs.Prelude.{slice_index_or, slice_set}
use Rattle.std.specs.List.{list_any, position_from}
use Rattle.std.proofs.lemmas.Slice.Eq.{bytes_eq-Decides}
use Rattle.lc_model.specs.Name.{Name, is_named, AreDistinct}
use Rattle.lc_model.specs.Kept.Summary.{EventState}
use Rattle.lc_model.specs.Services.Events.{Sender, is_sender, events_among, names_of}
use Rattle.lc_model.proofs.Facts.{or_first, or_second}
use Rattle.lc_model.specs.Kept.Call.{with_at}

-- ---- names

pub same_name : (a b : Name) → IsTrue (is_named a b) → a ≡ b
same_name a b h = (bytes_eq-Decides a b).0 h

pub is_itself : (a : Name) → IsTrue (is_named a a)
is_itself a = (bytes_eq-Decides a a).1 refl

-- two names that are told apart aren't one
pub apart : {P : Type 0} (a b : Name) → IsFalse (is_named a b) → a ≡ b → P
apart {P} a b h e = absurd (true≢false (sym ((bytes_eq-Decides a b).1 e) ∙ h))

pub other_way : (a b : Name) → IsFalse (is_named a b) → IsFalse (is_named b a)
other_way a b h = by_test (is_named b a) refl
  where
    by_test : (t : Bool) → is_named b a ≡ t → t ≡ false
    by_test true e = apart a b h (sym (same_name b a e))
    by_test false e = refl

-- what is held under a name, put under it again; and the last of two puts counts
pub with_at_own : {X : Type 0} (name : Name) (x : X) (held : Name → X) → held name ≡ x → with_at name x held ≡ held
with_at_own {X} name x held is = λ i other. at other i
  where
    at : (other : Name) → (if is_named other name then x else held other) ≡ held other
    at other = by_test (is_named other name) refl
      where
        by_test : (test : Bool) → is_named other name ≡ test → (if test then x else held other) ≡ held other
        by_test true e = sym is ∙ ap held (sym ((bytes_eq-Decides other name).0 e))
        by_test false e = refl

pub with_at_twice : {X : Type 0} (name : Name) (x y : X) (held : Name → X) → with_at name x (with_at name y held) ≡ with_at name x held
with_at_twice {X} name x y held i other = choice (is_named other name) i
  where
    choice : (test : Bool) → (if test then x else (if test then y else held other)) ≡ (if test then x else held other)
    choice true = refl
    choice false = refl

-- ---- places

-- the name stands at no place
abbrev pub IsAbsent : Name → List (Option Sender) → Type 0
IsAbsent name places = IsFalse (list_any (is_named name) (names_of places))

-- the name stands at this place, and at none before it
abbrev pub IsFirst : Name → List (Option Sender) → ℕ → Type 0
IsFirst name [] k = ⊥
IsFirst name (place ∷ places) zero = IsTrue (is_sender name place)
IsFirst name (place ∷ places) (suc k) = IsFalse (is_sender name place) × IsFirst name places k

-- the name stands at this place alone
abbrev pub IsAlone : Name → List (Option Sender) → ℕ → Type 0
IsAlone name [] k = ⊥
IsAlone name (place ∷ places) zero = IsTrue (is_sender name place) × IsAbsent name places
IsAlone name (place ∷ places) (suc k) = IsFalse (is_sender name place) × IsAlone name places k

pub alone_is_first : (name : Name) (places : List (Option Sender)) (k : ℕ) → IsAlone name places k → IsFirst name places k
alone_is_first name [] k h = h
alone_is_first name (place ∷ places) zero h = h.0
alone_is_first name (place ∷ places) (suc k) h = (h.0, alone_is_first name places k h.1)

-- where a name is absent, another sender has another name
pub absent_here : (name : Name) (sender : Sender) (places : List (Option Sender)) → IsAbsent name (Some sender ∷ places) → IsFalse (is_named name sender.name)
absent_here name sender places h = or_first (is_named name sender.name) (list_any (is_named name) (names_of places)) h

pub absent_behind : (name : Name) (sender : Sender) (places : List (Option Sender)) → IsAbsent name (Some sender ∷ places) → IsAbsent name places
absent_behind name sender places h = or_second (is_named name sender.name) (list_any (is_named name) (names_of places)) h

pub absent_of : (name : Name) (sender : Sender) (places : List (Option Sender)) → IsFalse (is_named name sender.name) → IsAbsent name places → IsAbsent name (Some sender ∷ places)
absent_of name sender places here behind = either (is_named name sender.name) (list_any (is_named name) (names_of places)) here behind
  where
    either : (a b : Bool) → IsFalse a → IsFalse b → IsFalse (a || b)
    either true b p q = p
    either false b p q = q

pub absent_at : (name : Name) (sender : Sender) (places : List (Option Sender)) (k : ℕ) → IsAbsent name places → slice_index_or places k None ≡ Some sender → IsFalse (is_named name sender.name)
absent_at name sender [] k h e = cc
absent_at name sender (None ∷ places) zero h e = cc
absent_at name sender (Some other ∷ places) zero h e =
    let same : other ≡ sender = cc in
    let P : Sender → Type 0 = λ (s : Sender). IsFalse (is_named name s.name) in subst P same (absent_here name other places h)
absent_at name sender (None ∷ places) (suc k) h e = absent_at name sender places k h e
absent_at name sender (Some other ∷ places) (suc k) h e = absent_at name sender places k (absent_behind name other places h) e

pub alone : (sender : Sender) (places : List (Option Sender)) (k : ℕ) → AreDistinct (names_of places) → slice_index_or places k None ≡ Some sender → IsAlone sender.name places k
alone sender [] k h e = cc
alone sender (None ∷ places) zero h e = cc
alone sender (Some other ∷ places) zero h e =
    let same : other ≡ sender = cc in
    let P : Sender → Type 0 = λ (s : Sender). IsAlone s.name (Some other ∷ places) zero in subst P same (is_itself other.name, h.0)
alone sender (None ∷ places) (suc k) h e = (refl, alone sender places k h e)
alone sender (Some other ∷ places) (suc k) h e =
    (other_way other.name sender.name (absent_at other.name sender places k h.0 e), alone sender places k h.1 e)

-- ---- what is held under names, where a place changes

-- the first of a name has other types and filters
pub set_first : (name : Name) (events : EventState) (other : Name) (places : List (Option Sender)) (k : ℕ) → IsFirst name places k →
    events_among (slice_set places k (Some (record { name = name; events = events }))) other ≡ (if is_named other name then Some events else events_among places other)
set_first name events other [] k h = absurd h
set_first name events other (None ∷ places) zero h = absurd (true≢false (sym h))
set_first name events other (Some s ∷ places) zero h = by_test (is_named other name) refl
  where
    by_test : (t : Bool) → is_named other name ≡ t →
        (if t then Some events else events_among places other) ≡ (if t then Some events else if is_named other s.name then Some s.events else events_among places other)
    by_test true e = refl
    by_test false e =
        ap (λ t. if t then Some s.events else events_among places other) (sym e ∙ ap (is_named other) (same_name name s.name h))
set_first name events other (None ∷ places) (suc k) h = set_first name events other places k h.1
set_first name events other (Some s ∷ places) (suc k) h =
    ap (λ o. if is_named other s.name then Some s.events else o) (set_first name events other places k h.1) ∙ by_test (is_named other s.name) refl
  where
    by_test : (t : Bool) → is_named other s.name ≡ t →
        (if t then Some s.events else if is_named other name then Some events else events_among places other)
        ≡ (if is_named other name then Some events else if t then Some s.events else events_among places other)
    by_test false e = refl
    by_test true e =
        ap (λ u. if u then Some events else Some s.events) (sym (other_way name other (subst (λ n. IsFalse (is_named name n)) (sym (same_name other s.name e)) h.0)))

-- a free place has a sender of a name that stands nowhere
pub set_free : (name : Name) (events : EventState) (other : Name) (places : List (Option Sender)) (k : ℕ) → slice_index_or places k None ≡ None → k < length places →
    IsAbsent name places →
    events_among (slice_set places k (Some (record { name = name; events = events }))) other ≡ (if is_named other name then Some events else events_among places other)
set_free name events other [] k e within h = absurd (omega arith)
set_free name events other (None ∷ places) zero e within h = refl
set_free name events other (Some s ∷ places) zero e within h = cc
set_free name events other (None ∷ places) (suc k) e within h = set_free name events other places k e (omega arith) h
set_free name events other (Some s ∷ places) (suc k) e within h =
    ap (λ o. if is_named other s.name then Some s.events else o) (set_free name events other places k e (omega arith) (absent_behind name s places h))
    ∙ by_test (is_named other s.name) refl
  where
    by_test : (t : Bool) → is_named other s.name ≡ t →
        (if t then Some s.events else if is_named other name then Some events else events_among places other)
        ≡ (if is_named other name then Some events else if t then Some s.events else events_among places other)
    by_test false e = refl
    by_test true e =
        ap (λ u. if u then Some events else Some s.events)
        (sym (other_way name other (subst (λ n. IsFalse (is_named name n)) (sym (same_name other s.name e)) (absent_here name s places h))))

-- an absent name has nothing
pub absent_has_nothing : (name : Name) (places : List (Option Sender)) → IsAbsent name places → events_among places name ≡ None
absent_has_nothing name [] h = refl
absent_has_nothing name (None ∷ places) h = absent_has_nothing name places h
absent_has_nothing name (Some s ∷ places) h =
    ap (λ t. if t then Some s.events else events_among places name) (absent_here name s places h) ∙ absent_has_nothing name places (absent_behind name s places h)

-- the only place of a name becomes free
pub set_gone : (name other : Name) (places : List (Option Sender)) (k : ℕ) → IsAlone name places k →
    events_among (slice_set places k None) other ≡ (if is_named other name then None else events_among places other)
set_gone name other [] k h = absurd h
set_gone name other (None ∷ places) zero h = absurd (true≢false (sym h.0))
set_gone name other (Some s ∷ places) zero h = by_test (is_named other name) refl
  where
    by_test : (t : Bool) → is_named other name ≡ t →
        events_among places other ≡ (if t then None else if is_named other s.name then Some s.events else events_among places other)
    by_test true e = ap (events_among places) (same_name other name e) ∙ absent_has_nothing name places h.1
    by_test false e = ap (λ t. if t then Some s.events else events_among places other) (sym e ∙ ap (is_named other) (same_name name s.name h.0))
set_gone name other (None ∷ places) (suc k) h = set_gone name other places k h.1
set_gone name other (Some s ∷ places) (suc k) h =
    ap (λ o. if is_named other s.name then Some s.events else o) (set_gone name other places k h.1) ∙ by_test (is_named other s.name) refl
  where
    by_test : (t : Bool) → is_named other s.name ≡ t →
        (if t then Some s.events else if is_named other name then None else events_among places other)
        ≡ (if is_named other name then None else if t then Some s.events else events_among places other)
    by_test false e = refl
    by_test true e =
        ap (λ u. if u then None else Some s.events) (sym (other_way name other (subst (λ n. IsFalse (is_named name n)) (sym (same_name other s.name e)) h.0)))

-- ---- the first place of a name, as it is searched for

pub first_from : (name : Name) (i k : ℕ) (places : List (Option Sender)) → position_from (is_sender name) i places ≡ Some k → (d : ℕ) × (k ≡ i + d) × IsFirst name places d
first_from name i k [] e = cc
first_from name i k (place ∷ places) e = by_test (is_sender name place) refl (λ e. first_from name (i + 1) k places e)
  where
    by_test : (t : Bool) → is_sender name place ≡ t →
        (position_from (is_sender name) (i + 1) places ≡ Some k → (d : ℕ) × (k ≡ (i + 1) + d) × IsFirst name places d) →
        (d : ℕ) × (k ≡ i + d) × IsFirst name (place ∷ places) d
    by_test true h behind =
        let here : Some i ≡ Some k = sym (ap (λ t. cond t (Some i) (position_from (is_sender name) (i + 1) places)) h) ∙ e in
        let same : i ≡ k = cc in (zero, omega arith, h)
    by_test false h behind =
        let rest = behind (sym (ap (λ t. cond t (Some i) (position_from (is_sender name) (i + 1) places)) h) ∙ e) in
        let further : k ≡ (i + 1) + rest.0 = rest.1 in
        (suc rest.0, omega arith, (h, rest.2))

pub first : (name : Name) (k : ℕ) (places : List (Option Sender)) → position_from (is_sender name) 0 places ≡ Some k → IsFirst name places k
first name k places e =
    let found = first_from name 0 k places e in
    let same : found.0 ≡ k = omega (arith, found.1) in
    let P : ℕ → Type 0 = λ n. IsFirst name places n in subst P same found.2

pub not_found : (name : Name) (i : ℕ) (places : List (Option Sender)) → position_from (is_sender name) i places ≡ None → IsAbsent name places
not_found name i [] e = refl
not_found name i (None ∷ places) e = not_found name (i + 1) places e
not_found name i (Some s ∷ places) e = by_test (is_named name s.name) refl (λ e. not_found name (i + 1) places e)
  where
    by_test : (t : Bool) → is_named name s.name ≡ t → (position_from (is_sender name) (i + 1) places ≡ None → IsAbsent name places) →
        IsAbsent name (Some s ∷ places)
    by_test true h behind = let here : Some i ≡ None = sym (ap (λ t. cond t (Some i) (position_from (is_sender name) (i + 1) places)) h) ∙ e in cc
    by_test false h behind =
        absent_of name s places h (behind (sym (ap (λ t. cond t (Some i) (position_from (is_sender name) (i + 1) places)) h) ∙ e))

-- what stands at the first place of a name is held under it
pub first_has : (name : Name) (sender : Sender) (places : List (Option Sender)) (k : ℕ) → IsFirst name places k → slice_index_or places k None ≡ Some sender →
    (sender.name ≡ name) × (events_among places name ≡ Some sender.events)
first_has name sender [] k h e = absurd h
first_has name sender (None ∷ places) zero h e = cc
first_has name sender (Some s ∷ places) zero h e =
    let same : s ≡ sender = cc in
    let P : Sender → Type 0 = λ (x : Sender). (x.name ≡ name) × (events_among (Some s ∷ places) name ≡ Some x.events) in
    subst P same (sym (same_name name s.name h), ap (λ t. if t then Some s.events else events_among places name) h)
first_has name sender (None ∷ places) (suc k) h e = first_has name sender places k h.1 e
first_has name sender (Some s ∷ places) (suc k) h e =
    let rest = first_has name sender places k h.1 e in
    (rest.0, ap (λ t. if t then Some s.events else events_among places name) h.0 ∙ rest.1)

pub first_is_some : (name : Name) (places : List (Option Sender)) (k : ℕ) → IsFirst name places k → slice_index_or places k None ≡ None → ⊥
first_is_some name [] k h e = h
first_is_some name (None ∷ places) zero h e = true≢false (sym h)
first_is_some name (Some s ∷ places) zero h e = cc
first_is_some name (place ∷ places) (suc k) h e = first_is_some name places k h.1 e

-- ---- names stay apart

-- a sender with other events has its name
pub same_names : (sender : Sender) (events : EventState) (places : List (Option Sender)) (k : ℕ) → slice_index_or places k None ≡ Some sender →
    names_of (slice_set places k (Some (record { name = sender.name; events = events }))) ≡ names_of places
same_names sender events [] k e = cc
same_names sender events (None ∷ places) zero e = cc
same_names sender events (Some s ∷ places) zero e =
    let same : sender ≡ s = cc in ap (λ (x : Sender). x.name ∷ names_of places) same
same_names sender events (None ∷ places) (suc k) e = same_names sender events places k e
same_names sender events (Some s ∷ places) (suc k) e = ap (λ names. s.name ∷ names) (same_names sender events places k e)

pub absent_without : (name : Name) (places : List (Option Sender)) (k : ℕ) → IsAbsent name places → IsAbsent name (slice_set places k None)
absent_without name [] k h = h
absent_without name (None ∷ places) zero h = h
absent_without name (Some s ∷ places) zero h = absent_behind name s places h
absent_without name (None ∷ places) (suc k) h = absent_without name places k h
absent_without name (Some s ∷ places) (suc k) h =
    absent_of name s (slice_set places k None) (absent_here name s places h) (absent_without name places k (absent_behind name s places h))

pub distinct_without : (places : List (Option Sender)) (k : ℕ) → AreDistinct (names_of places) → AreDistinct (names_of (slice_set places k None))
distinct_without [] k h = h
distinct_without (None ∷ places) zero h = h
distinct_without (Some s ∷ places) zero h = h.1
distinct_without (None ∷ places) (suc k) h = distinct_without places k h
distinct_without (Some s ∷ places) (suc k) h = (absent_without s.name places k h.0, distinct_without places k h.1)

pub absent_with : (name : Name) (sender : Sender) (places : List (Option Sender)) (k : ℕ) → slice_index_or places k None ≡ None → IsFalse (is_named name sender.name) →
    IsAbsent name places → IsAbsent name (slice_set places k (Some sender))
absent_with name sender [] k e differ h = h
absent_with name sender (None ∷ places) zero e differ h = absent_of name sender places differ h
absent_with name sender (Some s ∷ places) zero e differ h = cc
absent_with name sender (None ∷ places) (suc k) e differ h = absent_with name sender places k e differ h
absent_with name sender (Some s ∷ places) (suc k) e differ h =
    absent_of name s (slice_set places k (Some sender)) (absent_here name s places h) (absent_with name sender places k e differ (absent_behind name s places h))

pub distinct_with : (sender : Sender) (places : List (Option Sender)) (k : ℕ) → slice_index_or places k None ≡ None → IsAbsent sender.name places →
    AreDistinct (names_of places) → AreDistinct (names_of (slice_set places k (Some sender)))
distinct_with sender [] k e absent h = h
distinct_with sender (None ∷ places) zero e absent h = (absent, h)
distinct_with sender (Some s ∷ places) zero e absent h = cc
distinct_with sender (None ∷ places) (suc k) e absent h = distinct_with sender places k e absent h
distinct_with sender (Some s ∷ places) (suc k) e absent h = (
  absent_with s.name sender places k e (other_way sender.name s.name (absent_here sender.name s places absent)) h.0,
  distinct_with sender places k e (absent_behind sender.name s places absent) h.1,
)
