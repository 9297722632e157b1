-- What is seated, where one place changes.
use Rattle.std.proofs.Common.{◌≡◌, ◌≢◌, refl, ap, sym, ◌∙◌, ℕ, ◌<◌, ◌==◌, Bool, true, false, List, ◌++◌, length, filter, arith, Option, Some, None}
use Rattle.std.specs.Prelude.{IfSome, option_map, slice_index_or, slice_set}
use Rattle.std.proofs.lemmas.List.{get_or-set_same, get_or-set_other, length-set}
use Rattle.lc_model.specs.Name.{Name}
use Rattle.lc_model.specs.Kept.Executive.{Pipe, hears}
use Rattle.lc_model.specs.Services.Bus.{Queue, seen_pipe, pipe_at}
use Rattle.lc_model.specs.Services.Events.{Sender, sender_at}
use Rattle.lc_model.specs.Laws.TablesByName.{TablesAreFound}
use Rattle.lc_model.specs.Services.Tables.{IsTableService, tables_at}
use Rattle.lc_model.specs.Services.Interface.{IsFreeSeat, LeavesOthersAlone, PipesHear, seen_at}
use Rattle.app_host.specs.declared.services.Services.{Services}
use Rattle.app_host.specs.Shared.{held_by}
use Rattle.app_host.specs.Telling.{name_of}
use Rattle.app_host.specs.Hosted.{Object, object_at}
use Rattle.app_host.specs.Whole.{IsRunning, AreSeated, name_at}
use Rattle.app_host.proofs.Rules.{seen_of_place}
use Rattle.app_host.proofs.Home.{home_still}

-- ---- one place changes

pub fact_at_set : {A : Type 0} (P : ℕ → A → Type 0) (xs : List A) (k j : ℕ) (y d : A) → k < length xs → P k y → ((i : ℕ) → i ≢ k → P i (slice_index_or xs i d)) → P j (slice_index_or (slice_set xs k y) j d)
fact_at_set P xs k j y d inside here others = by_test (j == k) refl
  where
    by_test : (b : Bool) → (j == k) ≡ b → P j (slice_index_or (slice_set xs k y) j d)
    by_test true is =
        let same : j ≡ k = grind (arith, is) in
        rw (same, get_or-set_same xs k y d inside) here
    by_test false is =
        let another : j ≢ k = grind (arith, is) in
        rw (get_or-set_other xs k j y d another) (others j another)

-- ---- a seat that stays as it was

-- what is at a seat stays, but for what its pipe hears
pub record StaysAt (seat : ℕ) (before after : Services) : Type 0 where
  pub sender : option_map name_of (sender_at (Some seat) after.events) ≡ option_map name_of (sender_at (Some seat) before.events)
  pub tables : tables_at seat after.tables.places ≡ tables_at seat before.tables.places
  pub subscriptions : option_map (λ (pipe : Pipe). pipe.subscriptions) (seen_at seat (held_by after)) ≡ option_map (λ (pipe : Pipe). pipe.subscriptions) (seen_at seat (held_by before))

no_pipe : (place place' : Option Queue) → option_map (λ (pipe : Pipe). pipe.subscriptions) (option_map seen_pipe place') ≡ option_map (λ (pipe : Pipe). pipe.subscriptions) (option_map seen_pipe place) →
    place ≡ None → place' ≡ None
no_pipe place None same none = refl
no_pipe None (Some queue) same none = cc
no_pipe (Some other) (Some queue) same none = cc

no_sender : (place place' : Option Sender) → option_map name_of place' ≡ option_map name_of place → place ≡ None → place' ≡ None
no_sender place None same none = refl
no_sender None (Some sender) same none = cc
no_sender (Some other) (Some sender) same none = cc

pub stays_free : (seat : ℕ) (before after : Services) → StaysAt seat before after → IsFreeSeat seat (held_by before) → IsFreeSeat seat (held_by after)
stays_free seat before after stays free = record {
  pipe = no_pipe (pipe_at seat before.bus) (pipe_at seat after.bus)
      (ap (option_map (λ (pipe : Pipe). pipe.subscriptions)) (sym (seen_of_place seat after.bus)) ∙ stays.subscriptions ∙ ap (option_map (λ (pipe : Pipe). pipe.subscriptions)) (seen_of_place seat before.bus))
      free.pipe;
  sender = no_sender (sender_at (Some seat) before.events) (sender_at (Some seat) after.events) stays.sender free.sender;
  tables = stays.tables ∙ free.tables;
}

pub stays_running : TablesAreFound → (seat : ℕ) (o : Object) (before after : Services) → IsTableService before.tables → IsTableService after.tables → StaysAt seat before after →
    IsRunning before seat o → IsRunning after seat o
stays_running law seat o before after was is stays running = record {
  holds = running.holds;
  named = running.named;
  home = home_still law seat before after was is stays.tables o.state o.called stays.sender stays.subscriptions running.home;
}

-- a call at one seat leaves each other seat so
pub others_stay : (seat : ℕ) (published : List (List ℕ)) (before after : Services) → LeavesOthersAlone seat (held_by before) (held_by after) → PipesHear seat published (held_by before) (held_by after) →
    (other : ℕ) → other ≢ seat → StaysAt other before after
others_stay seat published before after leaves hear other another = record {
  sender = ap (option_map name_of) (leaves.senders other another);
  tables = leaves.tables other another;
  subscriptions = ap (option_map (λ (pipe : Pipe). pipe.subscriptions)) (hear other another) ∙ same_subscriptions (seen_at other (held_by before));
}
  where
    same_subscriptions : (pipe : Option Pipe) →
        option_map (λ (pipe : Pipe). pipe.subscriptions) (option_map (λ (pipe : Pipe). record pipe { waiting = pipe.waiting ++ filter (λ packet. hears packet pipe) published }) pipe)
        ≡ option_map (λ (pipe : Pipe). pipe.subscriptions) pipe
    same_subscriptions None = refl
    same_subscriptions (Some pipe) = refl

-- ---- all seats

running_still : TablesAreFound → (seat : ℕ) (o : Option Object) (before after : Services) → IsTableService before.tables → IsTableService after.tables → StaysAt seat before after →
    IfSome o (IsRunning before seat) → IfSome o (IsRunning after seat)
running_still law seat None before after was is stays running = tt
running_still law seat (Some o) before after was is stays running = stays_running law seat o before after was is stays running

-- where nothing but what pipes hear changes
pub seated_still : TablesAreFound → (seats : List (Option Object)) (before after : Services) → IsTableService before.tables → IsTableService after.tables → ((seat : ℕ) → StaysAt seat before after) →
    AreSeated seats before → AreSeated seats after
seated_still law seats before after was is stays seated = record {
  eight = seated.eight;
  running = λ seat. running_still law seat (object_at seat seats) before after was is (stays seat) (seated.running seat);
  free = λ seat none. stays_free seat before after (stays seat) (seated.free seat none);
  own = seated.own;
}

module _ (law : TablesAreFound) (seats : List (Option Object)) (before after : Services) (was : IsTableService before.tables) (is : IsTableService after.tables) (seat : ℕ) (below : seat < 8)
    (stays : (other : ℕ) → other ≢ seat → StaysAt other before after) (seated : AreSeated seats before) where
  inside : seat < length seats
  inside = omega (arith, below, seated.eight)

  -- names are their objects' own, if the new one's is
  own_still : (o : Option Object) → ((name : Name) (other : ℕ) → other ≢ seat → option_map (λ (x : Object). x.called) o ≡ Some name → name_at other seats ≢ Some name) →
      (name : Name) (j k : ℕ) → name_at j (slice_set seats seat o) ≡ Some name → name_at k (slice_set seats seat o) ≡ Some name → j ≡ k
  own_still o alone name j k at_j at_k = by_tests (j == seat) (k == seat) refl refl
    where
      here : (i : ℕ) → i ≡ seat → name_at i (slice_set seats seat o) ≡ Some name → option_map (λ (x : Object). x.called) o ≡ Some name
      here i same at = sym (ap (option_map (λ (x : Object). x.called)) (get_or-set_same seats seat o None inside)) ∙ (rw same at at)

      there : (i : ℕ) → i ≢ seat → name_at i (slice_set seats seat o) ≡ Some name → name_at i seats ≡ Some name
      there i another at = sym (ap (option_map (λ (x : Object). x.called)) (get_or-set_other seats seat i o None another)) ∙ at

      by_tests : (a b : Bool) → (j == seat) ≡ a → (k == seat) ≡ b → j ≡ k
      by_tests true true is_j is_k = grind (arith, is_j, is_k)
      by_tests true false is_j is_k =
          absurd (alone name k (grind (arith, is_k)) (here j (grind (arith, is_j)) at_j) (there k (grind (arith, is_k)) at_k))
      by_tests false true is_j is_k =
          absurd (alone name j (grind (arith, is_j)) (here k (grind (arith, is_k)) at_k) (there j (grind (arith, is_j)) at_j))
      by_tests false false is_j is_k = seated.own name j k (there j (grind (arith, is_j)) at_j) (there k (grind (arith, is_k)) at_k)

  -- the object of a seat is another
  pub seated_with : (o : Object) → IsRunning after seat o → ((name : Name) (other : ℕ) → other ≢ seat → Some o.called ≡ Some name → name_at other seats ≢ Some name) →
      AreSeated (slice_set seats seat (Some o)) after
  seated_with o running alone = record {
    eight = length-set seats seat (Some o) ∙ seated.eight;
    running = λ other. fact_at_set (λ i (x : Option Object). IfSome x (IsRunning after i)) seats seat other (Some o) None inside running
        (λ i another. running_still law i (object_at i seats) before after was is (stays i another) (seated.running i));
    free = λ other. fact_at_set (λ i (x : Option Object). x ≡ None → IsFreeSeat i (held_by after)) seats seat other (Some o) None inside (λ none. cc)
        (λ i another none. stays_free i before after (stays i another) (seated.free i none));
    own = own_still (Some o) alone;
  }

  -- the seat is free
  pub seated_without : IsFreeSeat seat (held_by after) → AreSeated (slice_set seats seat None) after
  seated_without free = record {
    eight = length-set seats seat None ∙ seated.eight;
    running = λ other. fact_at_set (λ i (x : Option Object). IfSome x (IsRunning after i)) seats seat other None None inside tt
        (λ i another. running_still law i (object_at i seats) before after was is (stays i another) (seated.running i));
    free = λ other. fact_at_set (λ i (x : Option Object). x ≡ None → IsFreeSeat i (held_by after)) seats seat other None None inside (λ none. free)
        (λ i another none. stays_free i before after (stays i another) (seated.free i none));
    own = own_still None (λ name other another none. cc);
  }

-- a name that stays at its seat is that seat's alone
pub alone_still : (seats : List (Option Object)) (s : Services) (seat : ℕ) (old new : Object) → AreSeated seats s → object_at seat seats ≡ Some old → new.called ≡ old.called →
    (name : Name) (other : ℕ) → other ≢ seat → Some new.called ≡ Some name → name_at other seats ≢ Some name
alone_still seats s seat old new seated at same name other another named there =
    another (seated.own name other seat there (ap (option_map (λ (x : Object). x.called)) at ∙ ap Some (sym same) ∙ named))
