-- What is read of a stream comes to a host and an observer, piece by piece.
use Rattle.std.proofs.Common.{◌≡◌, ℕ, ◌+◌, ◌-◌, ◌≤◌, Bool, true, List, [], ◌++◌, length, length-append, Option, refl, ap, sym, ◌∙◌, subst, arith}
use Rattle.std.proofs.lemmas.List.{append_assoc, append-nil, take_all}
use Rattle.std.proofs.KnownBytes.{Consumes-nil, Consumes-trans}
use Rattle.flight_core.specs.Feeding.{Feeding, fed_with}
use Rattle.flight_core.specs.Records.{most_held, piece_size}
use Rattle.run_stepper.specs.Stepping.{GoesOn, HandlesAlone, Waits}
use Rattle.run_stepper.specs.Steps.{Step}
use Rattle.run_stepper.specs.Watching.{Arrives, IsFed, SeesMore, Took, without_bytes}
use Rattle.run_stepper.specs.declared.handled.Handled.{Handled}
use Rattle.run_stepper.specs.declared.handled.Handled.TheVariants.{Part}

-- ---- what is taken

-- nothing
pub took_none : (known : Option (List ℕ)) (is : Bool) → Took known known is is []
took_none known is = record {
  consumes = Consumes-nil known;
  at_end = λ start ended. start ended;
  none_behind = λ ended. (refl, ended);
}

-- one after the other
pub took_more : (first then last : Option (List ℕ)) (was between is : Bool) (ahead behind : List ℕ) → Took first then was between ahead → Took then last between is behind →
    Took first last was is (ahead ++ behind)
took_more first then last was between is ahead behind one other = record {
  consumes = Consumes-trans first then last ahead behind one.consumes other.consumes;
  at_end = λ start ended. other.at_end (one.at_end start) ended;
  none_behind = λ ended.
      let none = one.none_behind ended in
      let no_more = other.none_behind none.1 in
      ((λ i. none.0 i ++ no_more.0 i), no_more.1);
}

module _ {O : Type 0} (has_seen : O → O → List ℕ → List Step → Type 0) where
  pub sees_none : (it : O) → SeesMore has_seen it it []
  sees_none it first taken steps seen = subst (λ bytes. has_seen first it bytes steps) (sym (append-nil taken)) seen

  pub sees_both : (old then new : O) (ahead behind : List ℕ) → SeesMore has_seen old then ahead → SeesMore has_seen then new behind → SeesMore has_seen old new (ahead ++ behind)
  sees_both old then new ahead behind one other first taken steps seen =
      subst (λ bytes. has_seen first new bytes steps) (append_assoc taken ahead behind) (other first (taken ++ ahead) steps (one first taken steps seen))

-- ---- a host

none_fed : (it : Feeding) → IsFed [] it it
none_fed it = record { holds = sym (append-nil it.held.bytes); same = refl }

-- bytes came to a host and an observer
pub record HasFed {O : Type 0} (has_seen : O → O → List ℕ → List Step → Type 0) (before now : Option (List ℕ)) (was is : Bool) (observer observes : O) (first last : Feeding) : Type 0 where
  pub taken : List ℕ
  pub took : Took before now was is taken
  pub sees : SeesMore has_seen observer observes taken
  pub fed : IsFed taken first last

module _ {O : Type 0} (has_seen : O → O → List ℕ → List Step → Type 0) where
  pub nothing_fed : (known : Option (List ℕ)) (is : Bool) (it : O) (host : Feeding) → HasFed has_seen known known is is it it host host
  nothing_fed known is it host = record { taken = []; took = took_none known is; sees = sees_none has_seen it; fed = none_fed host }

  -- after a part of a record that waits a piece comes, all of which is taken
  pub more_fed : (before between now : Option (List ℕ)) (was were is : Bool) (had then has : O) (first old last next : Feeding) (piece written : List ℕ) →
      HasFed has_seen before between was were had then first old → GoesOn old → Waits old last written → length piece ≤ piece_size → Took between now were is piece → SeesMore has_seen then has piece →
      next ≡ fed_with piece last → HasFed has_seen before now was is had has first next × GoesOn next
  more_fed before between now was were is had then has first old last next piece written came goes waits few took sees is_fed =
      let grown : next ≡ fed_with piece old = is_fed ∙ ap (fed_with piece) waits.same in
      let fits : length old.held.bytes + length piece ≤ most_held = omega (arith, waits.few, few) in
      let all : (fed_with piece old).held.bytes ≡ old.held.bytes ++ piece =
      rw goes.good (ap (λ bytes. old.held.bytes ++ bytes) (take_all (most_held - length old.held.bytes) piece (omega (arith, fits)))) in
      let holds : next.held.bytes ≡ old.held.bytes ++ piece = ap (λ (it : Feeding). it.held.bytes) grown ∙ all in (
        record {
          taken = came.taken ++ piece;
          took = took_more before between now was were is came.taken piece came.took took;
          sees = sees_both has_seen had then has came.taken piece came.sees sees;
          fed = record {
            holds = holds ∙ ap (λ bytes. bytes ++ piece) came.fed.holds ∙ append_assoc first.held.bytes came.taken piece;
            same = ap without_bytes grown ∙ came.fed.same;
          };
        },
        record {
          is_open = ap (λ (it : Feeding). it.host.is_closed) grown ∙ goes.is_open;
          good = ap (λ (it : Feeding). it.held.is_bad) grown ∙ goes.good;
          few = omega (arith, fits, ap length holds, length-append old.held.bytes piece);
        },
      )

  pub arrived : (before now : Option (List ℕ)) (was is : Bool) (had has : O) (first host last : Feeding) (written : List ℕ) (found : Handled) →
      HasFed has_seen before now was is had has first host → HandlesAlone host last written found → (found ≡ Part → is ≡ true) → Arrives has_seen before now was is had has first last written found
  arrived before now was is had has first host last written found came handles ended = record {
    taken = came.taken;
    took = came.took;
    sees = came.sees;
    host = host;
    fed = came.fed;
    handles = handles;
    ended = ended;
  }
