-- Where `run` stops, and what it has done.
use Rattle.std.proofs.Common.{◌≡◌, ◌∙◌, refl, sym, ap, subst, inl, ◌⊎◌, ℕ, false, List, [], ◌∷◌, ◌++◌, map, length, Option, Some, None, Bor, Result, Ok, Err, IfErr, IfOk, append_assoc, append-nil}
use Rattle.std.proofs.lemmas.List.{map-append}
use Rattle.lc_model.specs.Device.{Source, Sink}
use Rattle.lc_model.specs.Host.Schedule.{Schedule}
use Rattle.flight_run.specs.declared.done.Done.{Done}
use Rattle.flight_run.specs.declared.fault.Fault.{Fault}
use Rattle.flight_run.specs.declared.fault.Fault.TheVariants.{File, Memory}
use Rattle.lc_model.specs.Host.ScheduleText.{schedule_in}
use Rattle.lc_model.specs.Host.Outcome.{devices}
use Rattle.flight_profile.specs.Stock.{own_mission}
use Rattle.flight_run.specs.Flown.{Flies}
use Rattle.program_io.specs.FileCall.{FileCall, Compares, Makes, Opens, Reads, all_apart, all_read, asked, followed_by}
use Rattle.program_io.proofs.Calls.{asked_apart, asked_read, none_yet, then_more}
use Rattle.program_io.proofs.Stopping.{last_of}
use Rattle.flight_run.specs.Commands.{IsEnded, IsRunDone, last_call, mission_of, run_order}
use Rattle.flight_run.specs.Stops.{StopsIn}
use Rattle.flight_run.proofs.Stopping.{one, stops_later}

module _ (schedule : List ℕ) (stream out : Bor (List ℕ)) (rules : List (List ℕ)) (before : Option (List FileCall)) where
  abbrev whole : List FileCall
  whole = run_order schedule stream.now out.now rules

  -- the order of what is read at first, of what comes then, and of what is made
  abbrev texts_asked : List FileCall
  texts_asked = map (λ name. Reads name None) rules

  abbrev second : List FileCall
  second = (Opens stream.now None ∷ Compares out.now schedule false ∷ Compares out.now stream.now false ∷ []) ++ all_apart out.now rules

  abbrev third : List FileCall
  third = Makes out.now None ∷ []

  -- all texts were read
  abbrev pub first : List ℕ → List (List ℕ) → List FileCall
  first text texts = (Reads schedule (Some text) ∷ []) ++ all_read rules texts

  asked_first : (text : List ℕ) (texts : List (List ℕ)) → length texts ≡ length rules → map asked (first text texts) ≡ (Reads schedule None ∷ []) ++ texts_asked
  asked_first text texts same = ap (λ calls. Reads schedule None ∷ calls) (asked_read rules texts same)

  pub at_schedule : (now : Option (List FileCall)) (fault : Fault) → StopsIn (Reads schedule None ∷ []) before now fault → StopsIn whole before now fault
  at_schedule now fault stops = stops_later whole (Reads schedule None ∷ []) ((texts_asked ++ second) ++ third) [] before before now fault refl (none_yet before) stops

  pub at_texts : (text : List ℕ) (mid now : Option (List FileCall)) (fault : Fault) → mid ≡ followed_by before (Reads schedule (Some text) ∷ []) → StopsIn texts_asked mid now fault → StopsIn whole before now fault
  at_texts text mid now fault e stops =
      stops_later whole texts_asked (second ++ third) (Reads schedule (Some text) ∷ []) before mid now fault (ap (λ calls. Reads schedule None ∷ calls) (append_assoc texts_asked second third)) e stops

  pub all_texts : (text : List ℕ) (texts : List (List ℕ)) (mid next : Option (List FileCall)) → mid ≡ followed_by before (Reads schedule (Some text) ∷ []) → next ≡ followed_by mid (all_read rules texts) → next ≡ followed_by before (first text texts)
  all_texts text texts mid next e f = then_more before mid next (Reads schedule (Some text) ∷ []) (all_read rules texts) e f

  pub at_slices : (text : List ℕ) (texts : List (List ℕ)) (now : Option (List FileCall)) → length texts ≡ length rules → now ≡ followed_by before (first text texts) → StopsIn whole before now Memory
  at_slices text texts now same e = record {
    calls = first text texts;
    rest = second ++ third;
    made = e;
    fault_is = tt;
    in_order = append_assoc ((Reads schedule None ∷ []) ++ texts_asked) second third ∙ ap (λ calls. calls ++ (second ++ third)) (sym (asked_first text texts same));
  }

  -- after the texts, where these calls come next
  at_later : (text : List ℕ) (texts : List (List ℕ)) (order tail done : List FileCall) (mid now : Option (List FileCall)) (fault : Fault) → length texts ≡ length rules →
      second ++ third ≡ map asked done ++ (order ++ tail) → mid ≡ followed_by before (first text texts ++ done) → StopsIn order mid now fault → StopsIn whole before now fault
  at_later text texts order tail done mid now fault same next e stops =
      stops_later whole order tail (first text texts ++ done) before mid now fault
      (append_assoc ((Reads schedule None ∷ []) ++ texts_asked) second third ∙ ap (λ calls. ((Reads schedule None ∷ []) ++ texts_asked) ++ calls) next
      ∙ sym (append_assoc ((Reads schedule None ∷ []) ++ texts_asked) (map asked done) (order ++ tail))
      ∙ ap (λ calls. (calls ++ map asked done) ++ (order ++ tail)) (sym (asked_first text texts same))
      ∙ ap (λ calls. calls ++ (order ++ tail)) (sym (map-append asked (first text texts) done)))
      e stops

  pub at_stream : (text : List ℕ) (texts : List (List ℕ)) (mid now : Option (List FileCall)) → length texts ≡ length rules → mid ≡ followed_by before (first text texts) → now ≡ followed_by mid (Opens stream.now None ∷ []) →
      StopsIn whole before now (File stream)
  at_stream text texts mid now same e f =
      at_later text texts (Opens stream.now None ∷ []) ((Compares out.now schedule false ∷ Compares out.now stream.now false ∷ all_apart out.now rules) ++ third) [] mid now (File stream) same refl
      (e ∙ ap (followed_by before) (sym (append-nil (first text texts)))) (one (Opens stream.now None) mid now (File stream) f (last_of _ _ refl))

  pub at_out : (text : List ℕ) (texts : List (List ℕ)) (source : Source) (mid next now : Option (List FileCall)) (fault : Fault) → length texts ≡ length rules → mid ≡ followed_by before (first text texts) →
      next ≡ followed_by mid (Opens stream.now (Some source) ∷ []) → StopsIn (all_apart out.now (schedule ∷ stream.now ∷ [])) next now fault → StopsIn whole before now fault
  at_out text texts source mid next now fault same e f stops =
      at_later text texts (Compares out.now schedule false ∷ Compares out.now stream.now false ∷ []) (all_apart out.now rules ++ third) (Opens stream.now (Some source) ∷ []) next now fault same refl
      (then_more before mid next (first text texts) (Opens stream.now (Some source) ∷ []) e f) stops

  -- the stream is opened, and apart from what is written
  abbrev opened : Source → List FileCall
  opened source = Opens stream.now (Some source) ∷ Compares out.now schedule false ∷ Compares out.now stream.now false ∷ []

  pub is_opened : (text : List ℕ) (texts : List (List ℕ)) (source : Source) (mid next last : Option (List FileCall)) → mid ≡ followed_by before (first text texts) → next ≡ followed_by mid (Opens stream.now (Some source) ∷ []) →
      last ≡ followed_by next (all_apart out.now (schedule ∷ stream.now ∷ [])) → last ≡ followed_by before (first text texts ++ opened source)
  is_opened text texts source mid next last e f h =
      then_more before mid last (first text texts) (opened source) e (then_more mid next last (Opens stream.now (Some source) ∷ []) (all_apart out.now (schedule ∷ stream.now ∷ [])) f h)

  pub at_rules : (text : List ℕ) (texts : List (List ℕ)) (source : Source) (mid now : Option (List FileCall)) (fault : Fault) → length texts ≡ length rules → mid ≡ followed_by before (first text texts ++ opened source) →
      StopsIn (all_apart out.now rules) mid now fault → StopsIn whole before now fault
  at_rules text texts source mid now fault same e stops = at_later text texts (all_apart out.now rules) third (opened source) mid now fault same refl e stops

  pub all_there : (text : List ℕ) (texts : List (List ℕ)) (source : Source) (mid next : Option (List FileCall)) → mid ≡ followed_by before (first text texts ++ opened source) → next ≡ followed_by mid (all_apart out.now rules) →
      next ≡ followed_by before (first text texts ++ (opened source ++ all_apart out.now rules))
  all_there text texts source mid next e f =
      then_more before mid next (first text texts ++ opened source) (all_apart out.now rules) e f ∙ ap (followed_by before) (append_assoc (first text texts) (opened source) (all_apart out.now rules))

  pub at_create : (text : List ℕ) (texts : List (List ℕ)) (source : Source) (mid now : Option (List FileCall)) → length texts ≡ length rules →
      mid ≡ followed_by before (first text texts ++ (opened source ++ all_apart out.now rules)) → now ≡ followed_by mid (Makes out.now None ∷ []) → StopsIn whole before now (File out)
  at_create text texts source mid now same e f =
      at_later text texts (Makes out.now None ∷ []) [] (opened source ++ all_apart out.now rules) mid now (File out) same
      (ap (λ calls. (Opens stream.now None ∷ Compares out.now schedule false ∷ Compares out.now stream.now false ∷ calls) ++ third) (sym (asked_apart out.now rules))) e
      (one (Makes out.now None) mid now (File out) f (last_of _ _ refl))

  pub is_run : (text : List ℕ) (plan : Schedule) (texts : List (List ℕ)) (slices : List (Bor (List ℕ))) (source source_after : Source) (sink sink_after : Sink) (mid next now : Option (List FileCall)) (ran answer : Result Done Fault) →
      schedule_in text ≡ Ok plan → length texts ≡ length rules → map (λ (x : Bor (List ℕ)). x.now) slices ≡ texts →
      mid ≡ followed_by before (first text texts ++ (opened source ++ all_apart out.now rules)) → next ≡ followed_by mid (Makes out.now (Some sink) ∷ []) → IsEnded out.now sink_after next now ran answer →
      Flies (own_mission slices plan) (devices source source_after sink sink_after) ran → IsRunDone schedule stream.now out.now rules before now answer
  is_run text plan texts slices source source_after sink sink_after mid next now ran answer says same lent e f ended flies = record {
    text = text;
    plan = plan;
    texts = texts;
    devices = devices source source_after sink sink_after;
    says = says;
    each = same;
    ran = ran;
    is_done = ended.is_done;
    calls = then_more before mid now (first text texts ++ (opened source ++ all_apart out.now rules)) (Makes out.now (Some sink) ∷ last_call ran sink_after ended.is_done ∷ []) e
        (then_more mid next now (Makes out.now (Some sink) ∷ []) (last_call ran sink_after ended.is_done ∷ []) f ended.closed);
    flies = subst (λ these. Flies (mission_of these plan) (devices source source_after sink sink_after) ran) lent flies;
    answers = ended.answers;
  }

  pub run_ends : (now : Option (List FileCall)) (outcome : Result Done Fault) → IsRunDone schedule stream.now out.now rules before now outcome → IfOk outcome (λ done. IsRunDone schedule stream.now out.now rules before now (Ok done))
  run_ends now (Ok done) ran = ran
  run_ends now (Err fault) ran = tt

  pub run_stops : (now : Option (List FileCall)) (outcome : Result Done Fault) → IsRunDone schedule stream.now out.now rules before now outcome →
      IfErr outcome (λ fault. IsRunDone schedule stream.now out.now rules before now (Err fault) ⊎ StopsIn whole before now fault)
  run_stops now (Ok done) ran = tt
  run_stops now (Err fault) ran = inl ran
