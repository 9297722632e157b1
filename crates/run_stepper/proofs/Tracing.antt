-- A run over a stream, record by record, and what is left of it.
use Rattle.std.proofs.Common.{◌≡◌, refl, sym, ◌∙◌, ap, subst, ℕ, ◌+◌, ◌≤◌, false, List, [], ◌∷◌, ◌++◌, length, take, drop, map, length-append, length-take, append_assoc, append-nil, Option, Some, None, option_map, Result, Ok, Err, arith}
use Rattle.std.specs.Option.{option_or}
use Rattle.std.specs.List.{concat}
use Rattle.std.proofs.lemmas.List.{take-append-drop}
use Rattle.lc_model.specs.Device.{Sink}
use Rattle.lc_model.specs.Tables.Interpretation.{FileMeanings}
use Rattle.lc_model.specs.Host.Run.{input_of}
use Rattle.lc_model.specs.Host.Schedule.{Schedule}
use Rattle.lc_model.specs.Host.Stream.{StreamEntry, End, Front, Record, all_kinds, front, records_by_front, records_numbered, records_of}
use Rattle.lc_model.specs.Kept.Executive.{Executive, Member, first_executive, step_by}
use Rattle.lc_model.specs.Kept.Stations as model
use Rattle.lc_model.specs.Kept.Stations.{first_host}
use Rattle.lc_model.proofs.Host.Streams.{front_decides}
use Rattle.host_refinement.specs.Statements.{executive_after}
use Rattle.rpn_compiler.specs.declared.files.TablePair.{TablePair}
use Rattle.app_host.specs.Shared.{on_board}
use Rattle.app_host.specs.Delivered.{executive_in}
use Rattle.app_host.specs.Hosted.{Hosted, Object, member_of}
use Rattle.app_host.specs.Step.{StepsSo, party_of}
use Rattle.flight_core.specs.declared.halt.Halt.{Halt}
use Rattle.flight_core.specs.declared.halt.Halt.TheVariants as halt
use Rattle.flight_core.specs.Brought.{meanings_of}
use Rattle.flight_core.specs.Feeding.{Feeding, HandlesOne, fed_with}
use Rattle.flight_core.specs.Flight.{AreAllKnown}
use Rattle.flight_core.specs.Going.{IsHandled}
use Rattle.flight_core.specs.Records.{Held}
use Rattle.flight_core.specs.Run.{members_of}
use Rattle.flight_core.proofs.Known.{all_not_other, known_first, party_known, still_known}
use Rattle.flight_profile.specs.Stock.{names_of}
use Rattle.run_stepper.specs.declared.ending.Ending.{Ending}
use Rattle.run_stepper.specs.declared.handled.Handled.TheVariants as handled
use Rattle.flight_profile.specs.Checkers.{engine_among, engine_of}
use Rattle.run_stepper.specs.Stepping.{HasStepped, BeginsWith, sink_with, told_of}
use Rattle.run_stepper.specs.Trace.{HasRun, Part, Traced, ending_by, engine_in, moment_in, parts_from, size_in_front}
use Rattle.run_stepper.proofs.InFront.{IsAllOf, all_of}

-- ---- so far

module _ (pairs : List TablePair) (first : Executive (List ℕ)) (stream : List ℕ) where
  abbrev texts : ℕ
  texts = length pairs

  abbrev pub left : ℕ → List ℕ → List StreamEntry × End
  left done rest = records_numbered all_kinds texts (1 + done) rest

  -- these parts are written, and those of the records that are left come behind them
  pub record Tracing (it : Feeding) (done : List Part) (rest : List ℕ) : Type 0 where
    pub held : it.held.bytes ≡ []
    pub good : it.held.is_bad ≡ false
    pub of_texts : it.held.texts ≡ texts
    pub files : it.files ≡ pairs
    pub is_open : it.host.is_closed ≡ false
    pub known : AreAllKnown it.host
    pub writes : done ++ parts_from (meanings_of pairs) (executive_in it.host) (left (length done) rest).0 ≡ parts_from (meanings_of pairs) first (records_of texts stream).0
    pub ends : (left (length done) rest).1 ≡ (records_of texts stream).1
    pub stands : executive_after on_board (executive_in it.host) (meanings_of pairs) (left (length done) rest).0 ≡ executive_after on_board first (meanings_of pairs) (records_of texts stream).0

  -- where it ends
  pub record Finishes (h : Hosted) (done : List Part) (ending : Ending) : Type 0 where
    pub writes : done ≡ parts_from (meanings_of pairs) first (records_of texts stream).0
    pub ends : ending ≡ ending_by (length done) (records_of texts stream).1
    pub stands : executive_in h ≡ executive_after on_board first (meanings_of pairs) (records_of texts stream).0

  -- no whole record is in front of what is left
  pub ends_there : (it : Feeding) (done : List Part) (rest : List ℕ) (e : End) → Tracing it done rest → left (length done) rest ≡ ([], e) → Finishes it.host done (ending_by (length done) e)
  unfolding parts_from executive_after
  ends_there it done rest e far none = record {
    writes =
        sym (append-nil done)
        ∙ ap (λ (r : List StreamEntry × End). done ++ parts_from (meanings_of pairs) (executive_in it.host) r.0) (sym none)
        ∙ far.writes;
    ends = ap (ending_by (length done)) (ap (λ (r : List StreamEntry × End). r.1) (sym none) ∙ far.ends);
    stands = ap (λ (r : List StreamEntry × End). executive_after on_board (executive_in it.host) (meanings_of pairs) r.0) (sym none) ∙ far.stands;
  }

  -- ---- what is taken of the record in front

  module _ (it : Feeding) (done : List Part) (rest : List ℕ) (far : Tracing it done rest) (given behind : List ℕ)
      (is : given ≡ take (size_in_front rest) rest) (past : behind ≡ drop (size_in_front rest) rest) where
    abbrev piece : List ℕ
    piece = (fed_with given it).held.bytes

    piece_is : piece ≡ take 73739 given
    piece_is = rw (far.held, far.good) refl

    parted : rest ≡ piece ++ (drop 73739 given ++ behind)
    parted =
        sym (take-append-drop (size_in_front rest) rest)
        ∙ (λ i. sym is i ++ sym past i)
        ∙ ap (λ (front : List ℕ). front ++ behind) (sym (take-append-drop 73739 given))
        ∙ append_assoc (take 73739 given) (drop 73739 given) behind
        ∙ ap (λ (front : List ℕ). front ++ (drop 73739 given ++ behind)) (sym piece_is)

    few : length piece ≤ size_in_front rest
    few = omega (arith, ap length piece_is, length-take 73739 given, ap length is, length-take (size_in_front rest) rest)

    in_texts : (f : Front) → front all_kinds (fed_with given it).held.texts piece ≡ f → front all_kinds texts piece ≡ f
    in_texts f there = ap (λ n. front all_kinds n piece) (sym far.of_texts) ∙ there

    decided : (f : Front) → front all_kinds texts rest ≡ f → left (length done) rest ≡ records_by_front (left (1 + length done)) (1 + length done) f
    decided f there =
        front_decides all_kinds texts (1 + length done) rest
        ∙ (let next : 1 + length done + 1 ≡ 1 + (1 + length done) = omega arith in
        λ i. records_by_front (records_numbered all_kinds texts (next i)) (1 + length done) (there i))

    -- ---- one record more

    -- what the record called for is what the definitions say of it
    more : (new : Feeding) (part : Part) (entry : StreamEntry) → entry.moment ≡ part.moment → new.held.bytes ≡ [] → new.held.is_bad ≡ false → new.held.texts ≡ texts → new.files ≡ pairs → new.host.is_closed ≡ false → AreAllKnown new.host →
        front all_kinds texts rest ≡ Record entry behind → StepsSo entry.moment (input_of (meanings_of pairs) entry.contents) it.host new.host (Some []) (Some part.packets) →
        Tracing new (done ++ part ∷ []) behind
    unfolding parts_from executive_after
    more new part entry moment held good of_texts files is_open known there so =
        let m : FileMeanings (List ℕ) = meanings_of pairs in
        let e : Executive (List ℕ) = executive_in it.host in
        let number : length (done ++ part ∷ []) ≡ 1 + length done = omega (arith, length-append done (part ∷ [])) in
        let executive : executive_in new.host ≡ (step_by on_board entry.moment e (input_of m entry.contents)).0 = ap (λ (h : model.Host (List ℕ)). h.executive) so.host in
        let wrote : part.packets ≡ concat (step_by on_board entry.moment e (input_of m entry.contents)).1 = so.gains in
        let is : part ≡ record { moment = entry.moment; packets = concat (step_by on_board entry.moment e (input_of m entry.contents)).1 } =
        λ i. record { moment = sym moment i; packets = wrote i } in
        record {
          held = held;
          good = good;
          of_texts = of_texts;
          files = files;
          is_open = is_open;
          known = known;
          writes =
              append_assoc done (part ∷ []) (parts_from m (executive_in new.host) (left (length (done ++ part ∷ [])) behind).0)
              ∙ (λ i. done ++ (is i ∷ parts_from m (executive i) (left (number i) behind).0))
              ∙ ap (λ (r : List StreamEntry × End). done ++ parts_from m e r.0) (sym (decided (Record entry behind) there))
              ∙ far.writes;
          ends =
              ap (λ n. (left n behind).1) number
              ∙ ap (λ (r : List StreamEntry × End). r.1) (sym (decided (Record entry behind) there))
              ∙ far.ends;
          stands =
              (λ i. executive_after on_board (executive i) m (left (number i) behind).0)
              ∙ ap (λ (r : List StreamEntry × End). executive_after on_board e m r.0) (sym (decided (Record entry behind) there))
              ∙ far.stands;
        }

    pub one_more : (new : Feeding) (part : Part) → part.moment ≡ moment_in rest → HasStepped given it new part.packets (Ok handled.Whole) → Tracing new (done ++ part ∷ []) behind
    one_more new part moment step = by_answer step.answer step.one step.told
      where
        goes : (before now : Sink) (total : ℕ) → before.gained ≡ Some [] → now.gained ≡ Some part.packets → new.files ≡ it.files →
            IsHandled (meanings_of it.files) (fed_with given it).held new.held it.host new.host before now total → Tracing new (done ++ part ∷ []) behind
        goes before now total begins gains files is =
            let entry : StreamEntry = is.next.entry in
            let there : front all_kinds texts piece ≡ Record entry is.next.rest = in_texts (Record entry is.next.rest) is.next.front in
            let found : IsAllOf texts rest piece (drop 73739 given ++ behind) parted entry is.next.rest = all_of texts rest piece (drop 73739 given ++ behind) parted entry is.next.rest few there in
            let party = party_known (party_of (input_of (meanings_of it.files) entry.contents)) it.host far.known in
            let so : StepsSo entry.moment (input_of (meanings_of it.files) entry.contents) it.host new.host (Some []) (Some part.packets) =
            subst (λ (b : Option (List ℕ)). StepsSo entry.moment (input_of (meanings_of it.files) entry.contents) it.host new.host b (Some part.packets)) begins
            (subst (λ (a : Option (List ℕ)). StepsSo entry.moment (input_of (meanings_of it.files) entry.contents) it.host new.host before.gained a) gains (is.steps.exact party)) in
            more new part entry (found.moment ∙ sym moment) (ap (λ (h : Held). h.bytes) is.next.goes ∙ found.none_left) (ap (λ (h : Held). h.is_bad) is.next.goes ∙ far.good)
            (ap (λ (h : Held). h.texts) is.next.goes ∙ far.of_texts) (files ∙ far.files) is.steps.is_open
            (record { spares = still_known it.host.stock new.host.stock far.known.spares is.steps.stock; seated = is.steps.known far.known.seated party })
            (found.there ∙ ap (Record entry) (sym past))
            (subst (λ (all : List TablePair). StepsSo entry.moment (input_of (meanings_of all) entry.contents) it.host new.host (Some []) (Some part.packets)) far.files so)

        by_answer : (answer : Result (Option ℕ) Halt) → HandlesOne (fed_with given it) new (sink_with [] step.failed step.retried) (sink_with part.packets step.fails step.retries) answer →
            Ok handled.Whole ≡ told_of answer → Tracing new (done ++ part ∷ []) behind
        by_answer (Ok (Some total)) one told = goes _ _ total refl refl one.files (one.where_open far.is_open)
        by_answer (Ok None) one told = absurd (cc told)
        by_answer (Err halt.NoRecord) one told = absurd (cc told)
        by_answer (Err (halt.Unsent sent)) one told = absurd (cc told)
        by_answer (Err halt.Fault) one told = absurd (cc told)
        by_answer (Err halt.Bound) one told = absurd (cc told)

-- ---- the beginning and the end

pub begun : (sources : List (List ℕ)) (schedule : Schedule) (stream : List ℕ) (it : Feeding) → BeginsWith sources schedule it → Tracing it.files (executive_in it.host) stream it [] stream
begun sources schedule stream it is = record {
  held = ap (λ (h : Held). h.bytes) is.begun.held;
  good = ap (λ (h : Held). h.is_bad) is.begun.held;
  of_texts = ap (λ (h : Held). h.texts) is.begun.held;
  files = refl;
  is_open = is.begun.is_open;
  known = known_first it.host (members_of is.stock) is.begun.host (all_not_other schedule (members_of is.stock) is.profile);
  writes = refl;
  ends = refl;
  stands = refl;
}

called : (stock : List Object) → map (λ (member : Member). member.called) (members_of stock) ≡ names_of stock
called [] = refl
called (o ∷ stock) = ap (λ names. o.called ∷ names) (called stock)

pub has_run : (sources : List (List ℕ)) (schedule : Schedule) (stream : List ℕ) (it : Feeding) (h : Hosted) (t : Traced) → BeginsWith sources schedule it →
    Finishes it.files (executive_in it.host) stream h t.parts t.ending → HasRun sources schedule stream t (executive_in h)
has_run sources schedule stream it h t is done =
    let first : executive_in it.host ≡ first_executive (members_of is.stock) = ap (λ (h : model.Host (List ℕ)). h.executive) is.begun.host in
    record {
      pairs = it.files;
      compiled = is.begun.compiled;
      members = members_of is.stock;
      profile = is.profile;
      named = called is.stock ∙ is.names;
      parts = done.writes ∙ ap (λ e. parts_from (meanings_of it.files) e (records_of (length it.files) stream).0) first;
      ends = done.ends;
      stands = done.stands ∙ ap (λ e. executive_after on_board e (meanings_of it.files) (records_of (length it.files) stream).0) first;
    }

-- ---- the Limit Checker that runs

pub same_engine : (seats : List (Option Object)) → engine_among seats ≡ engine_in (map (option_map member_of) seats)
same_engine [] = refl
same_engine (None ∷ seats) = same_engine seats
same_engine (Some o ∷ seats) = ap (λ own. option_or (engine_of (Some o)) own) (same_engine seats)
