-- The records of a stream are shown to an observer, one by one.
use Rattle.std.proofs.Common.{◌≡◌, ℕ, ◌+◌, Bool, false, List, [], ◌∷◌, ◌++◌, length, length-append, Option, refl, ap, sym, ◌∙◌, subst, arith}
use Rattle.std.proofs.lemmas.Bool.{false≢true}
use Rattle.std.specs.Io.KnownBytes.{IsAtEnd}
use Rattle.flight_core.specs.Feeding.{Feeding}
use Rattle.flight_core.specs.Records.{Held}
use Rattle.run_stepper.specs.Stepping.{GoesOn, HandlesAlone, HandlesRecord, MeetsNoRecord, Waits, holding_none}
use Rattle.run_stepper.specs.Steps.{Step}
use Rattle.run_stepper.specs.Watching.{Arrives, EndsThere, GoesThrough, IsNew, MeetsEnd, Took, Watched, ending_at}
use Rattle.run_stepper.specs.declared.ending.Ending.{Ending}
use Rattle.run_stepper.specs.declared.ending.Ending.TheVariants as ended
use Rattle.run_stepper.specs.declared.handled.Handled.{Handled}
use Rattle.run_stepper.specs.declared.handled.Handled.TheVariants as handled
use Rattle.run_stepper.proofs.Passing.{Laws, SoFar, bytes_come, ends_badly, ends_there, nothing_so_far, record_goes}
use Rattle.run_stepper.proofs.Pieces.{took_more, took_none}

-- this many records were handled, of the bytes that were taken from a source, and the observer has seen them
pub record ShownSoFar (first now : Feeding) (before left : Option (List ℕ)) (is : Bool) (has : List ℕ → List Step → Type 0) (number : ℕ) : Type 0 where
  pub taken : List ℕ
  pub took : Took before left false is taken
  pub steps : List Step
  pub host : SoFar first now taken steps
  pub count : length steps ≡ number
  pub seen : has taken steps

pub nothing_shown : Laws → (first : Feeding) (known : Option (List ℕ)) (has : List ℕ → List Step → Type 0) → IsNew first → has [] [] → ShownSoFar first first known known false has 0
nothing_shown laws first known has new seen = record {
  taken = [];
  took = took_none known false;
  steps = [];
  host = nothing_so_far laws first new;
  count = refl;
  seen = seen;
}

-- a host to which nothing has come goes on
pub new_goes_on : (first : Feeding) → IsNew first → GoesOn first
new_goes_on first new = record {
  is_open = new.is_open;
  good = ap (λ (held : Held). held.is_bad) new.held;
  few = omega (arith, ap (λ (held : Held). length held.bytes) new.held);
}

-- after a record a host goes on
pub goes_on : {O : Type 0} (has_seen : O → O → List ℕ → List Step → Type 0) (before now : Option (List ℕ)) (was is : Bool) (had has : O) (first last : Feeding) (written : List ℕ) (found : Handled) →
    Arrives has_seen before now was is had has first last written found → found ≡ handled.Whole → GoesOn last
goes_on has_seen before now was is had has first last written found arrives whole = (subst (HandlesAlone arrives.host last written) whole arrives.handles).goes_on

module _ {O : Type 0} (has_seen : O → O → List ℕ → List Step → Type 0) (laws : Laws) (first old last : Feeding) (before between left : Option (List ℕ)) (were is : Bool) (begins had has : O) (number : ℕ)
    (so : ShownSoFar first old before between were (has_seen begins had) number) (written : List ℕ) (found : Handled) (arrives : Arrives has_seen between left were is had has old last written found) where
  abbrev all : List ℕ
  all = so.taken ++ arrives.taken

  took : Took before left false is all
  took = took_more before between left false were is so.taken arrives.taken so.took arrives.took

  host : SoFar first arrives.host all so.steps
  host = bytes_come laws first old arrives.host so.taken arrives.taken so.steps so.host arrives.fed

  seen : has_seen begins has all so.steps
  seen = arrives.sees begins so.taken so.steps so.seen

  -- ---- a record more

  abbrev shown : Step
  shown = record { bytes = last.held.last; host = holding_none last; written = written }

  record_of : found ≡ handled.Whole → HandlesRecord arrives.host last written
  record_of whole = subst (HandlesAlone arrives.host last written) whole arrives.handles

  pub one_more : found ≡ handled.Whole → (now : List ℕ → List Step → Type 0) →
      ((taken : List ℕ) (steps : List Step) → has_seen begins has taken steps → now taken (steps ++ record { bytes = last.held.last; host = holding_none last; written = written } ∷ [])) →
      ShownSoFar first last before left is now (number + 1)
  one_more whole now shows = record {
    taken = all;
    took = took;
    steps = so.steps ++ shown ∷ [];
    host = record_goes laws first arrives.host last all so.steps written host (record_of whole);
    count = omega (arith, length-append so.steps (shown ∷ []), so.count);
    seen = shows all so.steps seen;
  }

  -- ---- how it ends

  watched : (ending : Ending) → MeetsEnd ending left → ((behind : List ℕ) → EndsThere ending behind → GoesThrough first (all ++ behind) so.steps ending) →
      Watched first before left (has_seen begins has) ending
  watched ending meets through = record {
    taken = all;
    consumes = took.consumes;
    at_end = meets;
    steps = so.steps;
    seen = seen;
    through = through;
  }

  pub ends_in_none : found ≡ handled.NoRecord → (n : ℕ) → n ≡ number + 1 → Watched first before left (has_seen begins has) (ended.NoRecord n)
  ends_in_none none n is_next =
      let meets : MeetsNoRecord arrives.host written = subst (HandlesAlone arrives.host last written) none arrives.handles in
      watched (ended.NoRecord n) tt
      (λ behind _. subst (λ ending. GoesThrough first (all ++ behind) so.steps ending) (ap ended.NoRecord (ap (λ count. count + 1) so.count ∙ sym is_next))
      (ends_badly laws first arrives.host last all so.steps written host meets behind))

  -- nothing or a part of a record is left at the stream's end
  module _ (part : found ≡ handled.Part) where
    waits : Waits arrives.host last written
    waits = subst (HandlesAlone arrives.host last written) part arrives.handles

    at_end : IsAtEnd left
    at_end = took.at_end (λ was. absurd (false≢true was)) (arrives.ended part)

    by_left : (bytes : List ℕ) → bytes ≡ arrives.host.held.bytes → Watched first before left (has_seen begins has) (ending_at bytes number)
    by_left [] same =
        watched (ended.Whole number) at_end
        (λ behind none. subst (λ ending. GoesThrough first (all ++ behind) so.steps ending) (ap (λ bytes. ending_at bytes (length so.steps)) (sym same) ∙ ap ended.Whole so.count)
        (ends_there laws first arrives.host last all so.steps written host waits behind none))
    by_left (byte ∷ bytes) same =
        watched (ended.Cut (number + 1)) at_end
        (λ behind none. subst (λ ending. GoesThrough first (all ++ behind) so.steps ending) (ap (λ bytes. ending_at bytes (length so.steps)) (sym same) ∙ ap (λ count. ended.Cut (count + 1)) so.count)
        (ends_there laws first arrives.host last all so.steps written host waits behind none))

    pub ends_in_part : (ending : Ending) → ending ≡ ending_at last.held.bytes number → Watched first before left (has_seen begins has) ending
    ends_in_part ending is_so =
        subst (Watched first before left (has_seen begins has)) (sym is_so) (by_left last.held.bytes (ap (λ (it : Feeding). it.held.bytes) waits.same))
