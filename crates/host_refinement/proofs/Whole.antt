-- What is asked of a world: its images are fine, what is in use is sound, and there is one point for each rule in force.
use Rattle.std.proofs.Common.{◌≡◌, ℕ, Bool, true, false, List, [], ◌∷◌, refl, ap, sym, ◌∙◌, subst, Option, Some, None, is_some, unwrap_or, if◌then◌else◌, IsTrue, IfSome, true≢false}
use Rattle.std.specs.List.{AllZip}
use Rattle.lc_model.specs.declared.record.Moment.{Moment}
use Rattle.lc_model.specs.declared.kind.Kind.{Kind}
use Rattle.lc_model.specs.declared.kind.Kind.TheVariants.{Wdt, Adt}
use Rattle.lc_model.specs.Tables.Interpretation.{Interpretation, Pair}
use Rattle.lc_model.specs.LimitChecker.Steps.{by_lists, is_short, paired, lc_packet}
use Rattle.lc_model.specs.Host.Schedule.{Schedule}
use Rattle.lc_model.specs.Host.World.{World, Running, Lc}
use Rattle.lc_model.specs.Laws.LimitChecker.{IsSettled}
use Rattle.lc_model.specs.Laws.Tables.{IsReworded}
use Rattle.lc_model.specs.Laws.Correspondence.{BothOrNone, SoundAlike, Agrees, LcAlike}
use Rattle.lc_model.proofs.LimitChecker.StepLaws.{stays_settled}
use Rattle.lc_model.proofs.LimitChecker.LimitCheckerOfTwo.{States, packet_alike}
use Rattle.lc_model.proofs.LimitChecker.Reordered.{as_worded}
use Rattle.host_refinement.specs.Statements.{IsOne, PairsAreSensible, IsWhole}
use Rattle.host_refinement.proofs.PacketRecords.{LcFits, Fits}

module _ {Image : Type 0} (images : Interpretation Image) (IsFine : Image → Type 0) (agree : Agrees (IsOne images IsFine) images images) (pairs : PairsAreSensible images IsFine) where
  -- a Limit Checker whose images are fine and that is settled
  pub record Good (lc : Lc Image) : Type 0 where
    pub states : States (IsOne images IsFine) images images agree lc lc
    pub settled : IsSettled images lc

  pub stays_good : (packet : List ℕ) (lc : Lc Image) → Good lc → Good (lc_packet by_lists images packet lc).0
  stays_good packet lc good = record {
    states = (packet_alike (IsOne images IsFine) images images agree packet lc lc good.states).0;
    settled = stays_settled images packet lc good.settled;
  }

  -- what is in use is fine and sound
  record InUse (kind : Kind) (image : Image) : Type 0 where
    fine : IsFine image
    sound : images.fault_of kind image ≡ None

  in_use : (kind : Kind) (o : Option Image) (image : Image) → o ≡ Some image → BothOrNone (λ x y. IsOne images IsFine x y × (images.fault_of kind x ≡ None)) o o → InUse kind image
  in_use kind None image e h = absurd (true≢false (sym (ap is_some e)))
  in_use kind (Some other) image e h = subst (InUse kind) (ap (λ o. unwrap_or o other) e) (record { fine = h.0.1; sound = h.1 })

  record Parts (wdt adt : Option Image) (pair : Pair Image) : Type 0 where
    first : wdt ≡ Some pair.wdt
    second : adt ≡ Some pair.adt
    match : IsTrue (images.matches pair)

  parts : (wdt adt : Option Image) (pair : Pair Image) → paired images wdt adt ≡ Some pair → Parts wdt adt pair
  parts None adt pair e = absurd (true≢false (sym (ap is_some e)))
  parts (Some a) None pair e = absurd (true≢false (sym (ap is_some e)))
  parts (Some a) (Some b) pair e = by_test (images.matches both) refl e
    where
      both : Pair Image
      both = record { wdt = a; adt = b }

      by_test : (test : Bool) → images.matches both ≡ test → (if test then Some both else None) ≡ Some pair → Parts (Some a) (Some b) pair
      by_test false m e = absurd (true≢false (sym (ap is_some e)))
      by_test true m e =
          let same : both ≡ pair = ap (λ o. unwrap_or o both) e in
          record { first = ap (λ (p : Pair Image). Some p.wdt) same; second = ap (λ (p : Pair Image). Some p.adt) same; match = ap images.matches (sym same) ∙ m }

  pub fits_of : (schedule : Schedule) (moment : Moment) (lc : Lc Image) → Good lc → LcFits images schedule moment lc
  fits_of schedule moment lc good = record {
    settled = good.settled;
    sensible = λ pair e. let p = parts lc.wdt.active lc.adt.active pair e in
        let a = in_use Wdt lc.wdt.active pair.wdt p.first good.states.wdt.active in
        let b = in_use Adt lc.adt.active pair.adt p.second good.states.adt.active in
        pairs.sensible pair a.fine b.fine a.sound b.sound p.match;
    telemetry = λ pair e. let p = parts lc.wdt.active lc.adt.active pair e in
        let a = in_use Wdt lc.wdt.active pair.wdt p.first good.states.wdt.active in
        let b = in_use Adt lc.adt.active pair.adt p.second good.states.adt.active in
        pairs.telemetry pair a.fine b.fine a.sound b.sound p.match;
  }

  pub good_in : (w : World Image) → IsWhole images IsFine w → IfSome w.lc.running (λ (r : Running (Lc Image)). Good r.state)
  good_in w whole = by_running w.lc.running whole.images_fit.lc whole.settled
    where
      by_running : (o : Option (Running (Lc Image))) → BothOrNone (LcAlike (IsOne images IsFine) images images) o o → IfSome o (λ (r : Running (Lc Image)). IsSettled images r.state) →
          IfSome o (λ (r : Running (Lc Image)). Good r.state)
      by_running None h settled = tt
      by_running (Some r) h settled = record {
        states = record { mode = h.mode; wdt = h.wdt; adt = h.adt; watch = h.watch; points = h.points };
        settled = settled;
      }

  pub fits_in : (schedule : Schedule) (moment : Moment) (w : World Image) → IsWhole images IsFine w → Fits images schedule moment w
  fits_in schedule moment w whole = by_running w.lc.running (good_in w whole)
    where
      by_running : (o : Option (Running (Lc Image))) → IfSome o (λ (r : Running (Lc Image)). Good r.state) → IfSome o (λ (r : Running (Lc Image)). LcFits images schedule moment r.state)
      by_running None h = tt
      by_running (Some r) h = fits_of schedule moment r.state h

-- an interpretation agrees with itself
module _ {Image : Type 0} (images : Interpretation Image) (IsFine : Image → Type 0) where
  pub agrees : Agrees (IsOne images IsFine) images images
  agrees = record {
    sizes = λ kind size. refl;
    faults = λ kind a b h. ap (images.fault_of kind) h.0;
    matches = λ p q h. ap images.matches (one p q h);
    short = λ p q h match packet. ap (λ (p : Pair Image). is_short (images.terms p) packet) (one p q h);
    rules = λ p q h match. subst (λ (q : Pair Image). AllZip IsReworded (images.rules p) (images.rules q)) (one p q h) (as_worded (images.rules p));
  }
    where
      one : (p q : Pair Image) → SoundAlike (IsOne images IsFine) images images p q → p ≡ q
      one p q h i = record { wdt = h.wdt.0 i; adt = h.adt.0 i }
