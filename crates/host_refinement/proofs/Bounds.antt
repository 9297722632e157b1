-- One call of an application asks for 65,536 bytes at most.
use Rattle.std.proofs.Common.{◌≡◌, ℕ, zero, suc, ◌+◌, ◌*◌, ◌≤◌, ◌<◌, ◌^◌, Bool, true, false, not, ◌&&◌, ◌==◌, nat_le, List, [], ◌∷◌, ◌++◌, length, map, flat_map, codes, min, take, drop, length-append, slice_get, refl, sym, subst, arith, Option, Some, None, Result, Ok, Err, IfSome, IfOk, if◌then◌else◌}
use Rattle.std.specs.Option.{option_map_or}
use Rattle.std.specs.List.{AllByRecursion, concat, slice_range}
use Rattle.std.specs.Fmt.{decimal}
use Rattle.std.proofs.lemmas.List.{length-map}
use Rattle.lc_model.specs.declared.kind.Kind.{Kind}
use Rattle.lc_model.specs.declared.kind.Kind.TheVariants.{Wdt, Adt}
use Rattle.lc_model.specs.declared.field.Term.{Term}
use Rattle.lc_model.specs.declared.mode.LcMode.{LcMode}
use Rattle.lc_model.specs.declared.mode.LcMode.TheVariants as mode
use Rattle.lc_model.specs.declared.mode.ApMode.{ApMode}
use Rattle.lc_model.specs.declared.mode.ApMode.TheVariants as state
use Rattle.lc_model.specs.declared.mode.ApResult.{ApResult}
use Rattle.lc_model.specs.declared.mode.ApResult.TheVariants.{Pass, Fail}
use Rattle.lc_model.specs.declared.rule.EventKind.{EventKind}
use Rattle.lc_model.specs.declared.record.Moment.{Moment}
use Rattle.lc_model.specs.Name.{Name, lc_name, counter_name, name_in}
use Rattle.lc_model.specs.Packet.{function_code, payload, is_telemetry_mid, message_id, lc_command_mid, lc_housekeeping_request_mid, sample_mid, counter_mid, tick_mid}
use Rattle.lc_model.specs.Refusal.{Refusal, ◌>>=◌, found, provided}
use Rattle.lc_model.specs.Count.{capped}
use Rattle.lc_model.specs.Condition.{Condition}
use Rattle.lc_model.specs.Rule.{Actionpoint}
use Rattle.lc_model.specs.Codes.{kind_code, table_entries}
use Rattle.lc_model.specs.Tables.Image.{Layout, ImageFault, own_count, numbers_below, entry_at, all_words, words_before_equal, layout_of}
use Rattle.lc_model.specs.Tables.Spelled.{spelled_condition, spelled_rule_if, spelled_terms, spelled_by_layout, spelled_rules}
use Rattle.lc_model.specs.Tables.Slot.{Slot, Asked, waiting_at}
use Rattle.lc_model.specs.Tables.Interpretation.{FileMeaning, Interpretation, Pair}
use Rattle.lc_model.specs.Tables.HalvesAndBytes.{as_bytes}
use Rattle.lc_model.specs.Events.Request.{Request, Event, Sequence, numbered, hex_word, turned_to_fail, turned_to_pass, failed_passive, failed_lc_passive, rule_failed, lc_command_done, lc_command_refused, short_packet, counted, counter_refused}
use Rattle.lc_model.specs.Command.{LcCommand, NoOperation, SetMode, SetState, TurnPermanentlyOff, lc_command, mode_numbered, state_numbered, all_points, bare_request, sample_request, is_range, takes, lc_command_in}
use Rattle.lc_model.specs.declared.command.SampleRequest.{SampleRequest}
use Rattle.lc_model.specs.LimitChecker.Past.{is_result}
use Rattle.lc_model.specs.LimitChecker.Reaction.{Reaction}
use Rattle.lc_model.specs.LimitChecker.Steps.{Point, in_force, paired, is_disabled, is_sampled, is_permanently_off, is_state_disabled, settable, turned_permanently_off, one_set, states_set, lc_obeyed, lc_commanded, unless_refused, told_verdict, validated, pair_to_adopt, default_pair, started_with, lc_start, is_short, watched, lc_telemetry, sampled_point, sampled_points, sampled_by, lc_sample, standing, housekeeping_of, adopted, lc_housekeeping, lc_packet}
use Rattle.lc_model.specs.Kept.Summary.{WatchResult, Tally, LcNow, rules_in, LcState, SchState, CounterState, Other, EventState}
use Rattle.lc_model.specs.Kept.Next.{is_last, next_turn_reports, next_on_failure, next_reaction, by_counts, next_answer, next_count, next_tick, next_all_delivered}
use Rattle.lc_model.specs.Kept.Call.{ServicesNow, Called, lc_with, with_tables, registered, accounted, sent_by, silent, sch_told, counter_told, sch_subscriptions, counter_subscriptions, next_lc_packet}
use Rattle.lc_model.specs.Kept.GoesWith.{IsInStep}
use Rattle.lc_model.proofs.Tables.SaidLaws.{all_append}
use Rattle.lc_model.proofs.Tables.SoundImages.{SoundParts, sound_parts}
use Rattle.lc_model.proofs.Tables.ImageParts.{SoundPreamble, sound_preamble, length_numbers}
use Rattle.host_refinement.specs.Calls.{WritesLittle, StartsWriteLittle}
use Rattle.host_refinement.proofs.Sizes.{Bounded, nothing, wider, one_more, both, either, all_size, decimal_few, numbered_one, behind_text, five_digits}
use Rattle.host_refinement.proofs.InStep.{housekeeping_in_step}
use Rattle.host_refinement.proofs.Keeps.{either_called, copies_serve}

-- ---- single requests

one_event : (sender : Name) (id : ℕ) (kind : EventKind) (text : List ℕ) (most : ℕ) → length sender ≤ 20 → length text ≤ most → 124 ≤ most → Bounded (44 + most) (Event sender id kind text ∷ [])
one_event sender id kind text most short few enough = record { fit = (short, tt); size = omega (arith, few, enough) }

-- with a rule's number
point_event : (id : ℕ) (kind : EventKind) (point : ℕ) (more : List ℕ) → length more ≤ 40 → Bounded 168 (Event lc_name id kind (numbered (codes "actionpoint") (point ∷ []) ++ more) ∷ [])
point_event id kind point more short =
    let first : length (numbered (codes "actionpoint") (point ∷ [])) ≤ 11 + 65 = numbered_one (codes "actionpoint") point 64 (decimal_few point) in
    let text : length (numbered (codes "actionpoint") (point ∷ []) ++ more) ≤ 76 + 40 = behind_text (numbered (codes "actionpoint") (point ∷ [])) more 76 40 (omega (arith, first)) short in
    one_event lc_name id kind (numbered (codes "actionpoint") (point ∷ []) ++ more) 124 (omega arith) (omega (arith, text)) (omega arith)

-- ---- what a sample leads to

-- a rule's text has its place
abbrev IsShortRule : Actionpoint → Type 0
IsShortRule rule = length rule.text ≤ 32

failed_bounded : (rule : Actionpoint) (point run : ℕ) → IsShortRule rule → point < 2 ^ 16 → Bounded 179 (rule_failed rule point (capped run) ∷ [])
failed_bounded rule point run short small =
    let named : length (rule.text ++ codes ": AP =") ≤ 32 + 6 = behind_text rule.text (codes ": AP =") 32 6 short (omega arith) in
    let a : List ℕ = numbered (rule.text ++ codes ": AP =") (point ∷ []) in
    let a_few : length a ≤ length (rule.text ++ codes ": AP =") + 6 = numbered_one (rule.text ++ codes ": AP =") point 5 (five_digits point small) in
    let b : List ℕ = numbered (codes ", FailCount =") (capped run ∷ []) in
    let b_few : length b ≤ 13 + 6 = numbered_one (codes ", FailCount =") (capped run) 5 (five_digits (capped run) (omega arith)) in
    let c : List ℕ = numbered (codes ", RTS =") (rule.sequence ∷ []) in
    let c_few : length c ≤ 7 + 65 = numbered_one (codes ", RTS =") rule.sequence 64 (decimal_few rule.sequence) in
    let ab : length (a ++ b) ≤ 44 + 19 = behind_text a b 44 19 (omega (arith, named, a_few)) (omega (arith, b_few)) in
    let abc : length ((a ++ b) ++ c) ≤ 63 + 72 = behind_text (a ++ b) c 63 72 (omega (arith, ab)) (omega (arith, c_few)) in
    one_event lc_name rule.event_id rule.event_kind ((a ++ b) ++ c) 135 (omega arith) (omega (arith, abc)) (omega arith)

turns_bounded : (rule : Actionpoint) (point : ℕ) (last : Option ApResult) (result : ApResult) (now : Tally) → Bounded 168 (next_turn_reports rule point last result now)
turns_bounded rule point last result now =
    either 168 (is_last Pass last && is_result Fail result && nat_le now.to_fail rule.report.pass_to_fail) (turned_to_fail point ∷ []) _ (point_event 5 _ point (codes " pass to fail") (omega arith))
    (either 168 (is_last Fail last && is_result Pass result && nat_le now.to_pass rule.report.fail_to_pass) (turned_to_pass point ∷ []) [] (point_event 6 _ point (codes " fail to pass") (omega arith)) (nothing 168))

failure_bounded : (rule : Actionpoint) (point : ℕ) (mode : LcMode) (s : ApMode) (now : Tally) → IsShortRule rule → point < 2 ^ 16 → Bounded 191 (next_on_failure rule point mode s now).requests
failure_bounded rule point mode.Active state.Active now short small = one_more 179 (Sequence rule.sequence) (rule_failed rule point (capped now.run) ∷ []) tt (failed_bounded rule point now.run short small)
failure_bounded rule point mode.Passive state.Active now short small = wider 168 191 (failed_lc_passive point ∷ []) (omega arith) (point_event 3 _ point (codes " failed, LC passive") (omega arith))
failure_bounded rule point mode.Disabled state.Active now short small = nothing 191
failure_bounded rule point mode state.Passive now short small =
    either 191 (nat_le now.quiet rule.report.passive) (failed_passive point ∷ []) [] (wider 168 191 (failed_passive point ∷ []) (omega arith) (point_event 4 _ point (codes " failed, passive") (omega arith))) (nothing 191)
failure_bounded rule point mode state.Disabled now short small = nothing 191
failure_bounded rule point mode state.PermOff now short small = nothing 191

reaction_bounded : (rule : Actionpoint) (point : ℕ) (mode : LcMode) (last : Option ApResult) (result : ApResult) (s : ApMode) (now : Tally) → IsShortRule rule → point < 2 ^ 16 →
    Bounded 359 (next_reaction rule point mode last result s now).requests
reaction_bounded rule point mode last result s now short small =
    both 168 191 (next_turn_reports rule point last result now) _ (turns_bounded rule point last result now) (by_test (nat_le rule.fails now.run))
  where
    by_test : (test : Bool) → Bounded 191 (let failure : Reaction = if test then next_on_failure rule point mode s now else record { requests = []; state = s } in failure.requests)
    by_test true = failure_bounded rule point mode s now short small
    by_test false = nothing 191

samples_bounded : (request : SampleRequest) (terms : List Term) (mode : LcMode) (watch : List WatchResult) (n : ℕ) (rules : List Actionpoint) (points : List (Point Tally)) →
    AllByRecursion IsShortRule rules → n + length rules ≤ 2 ^ 16 → Bounded (359 * length rules) (sampled_points by_counts request terms mode watch n rules points).1
samples_bounded request terms mode watch n [] points short few = nothing (359 * 0)
samples_bounded request terms mode watch n (rule ∷ rules) [] short few = nothing (359 * suc (length rules))
samples_bounded request terms mode watch n (rule ∷ rules) (point ∷ points) short few =
    let others : List (Point Tally) × List Request = sampled_points by_counts request terms mode watch (n + 1) rules points in
    let behind : Bounded (359 * length rules) others.1 = samples_bounded request terms mode watch (n + 1) rules points short.1 (omega (arith, few)) in
    wider (359 + 359 * length rules) (359 * suc (length rules)) _ (omega arith) (both 359 (359 * length rules) _ others.1 (here (takes request n && is_sampled point.state)) behind)
  where
    here : (test : Bool) → Bounded 359 (let p : Point Tally × List Request = if test then sampled_point by_counts terms mode watch n rule point else (point, []) in p.1)
    here true = reaction_bounded rule n mode point.past.last (by_counts.result terms watch rule.condition) point.state _ short.0 (omega (arith, few))
    here false = nothing 359

-- ---- refusals

-- a refusal is one number
abbrev IsOne : {A : Type 0} → Result A Refusal → Type 0
IsOne (Ok x) = Unit {0}
IsOne (Err refusal) = (code : ℕ) × (refusal ≡ code ∷ [])

then_one : {A B : Type 0} (r : Result A Refusal) (f : A → Result B Refusal) → IsOne r → ((x : A) → IsOne (f x)) → IsOne (r >>= f)
then_one (Ok x) f h k = k x
then_one (Err refusal) f h k = h

found_one : {A : Type 0} (o : Option A) (code : ℕ) → IsOne (found o code)
found_one (Some x) code = tt
found_one None code = (code, refl)

provided_one : {A : Type 0} (test : Bool) (code : ℕ) (x : A) → IsOne (provided test code x)
provided_one true code x = tt
provided_one false code x = (code, refl)

either_one : {A : Type 0} (test : Bool) (r q : Result A Refusal) → IsOne r → IsOne q → IsOne (if test then r else q)
either_one true r q h k = h
either_one false r q h k = k

command_one : (code : ℕ) (bytes : List ℕ) → IsOne (lc_command code bytes)
command_one code bytes =
    either_one (code == 0) _ _ (provided_one (length bytes == 0) 152 NoOperation)
    (either_one (code == 2) _ _ (provided_one (length bytes == 4) 152 _)
    (either_one (code == 3) _ _ (provided_one (length bytes == 4) 152 _) (either_one (code == 4) _ _ (provided_one (length bytes == 4) 152 _) (151, refl))))

bare_one : (expected code : ℕ) (bytes : List ℕ) → IsOne (bare_request expected code bytes)
bare_one expected code bytes = either_one (code == expected) _ _ (provided_one (length bytes == 0) 152 tt) (151, refl)

sample_one : (code : ℕ) (bytes : List ℕ) → IsOne (sample_request code bytes)
sample_one code bytes =
    then_one _ (λ (request : SampleRequest). provided (is_range request.first request.last) 153 request)
    (either_one (code == 0) _ _ (provided_one (length bytes == 8) 152 _) (151, refl)) (λ request. provided_one (is_range request.first request.last) 153 request)

one_set_one : (index : ℕ) (change : ApMode → Result ApMode Refusal) (points : List (Point Tally)) → ((s : ApMode) → IsOne (change s)) → IsOne (one_set index change points)
one_set_one index change points h =
    then_one (found (slice_get points index) 153) _ (found_one (slice_get points index) 153) (λ (point : Point Tally). then_one (change point.state) _ (h point.state) (λ s. tt))

settable_one : (number : ℕ) (old : ApMode) → IsOne (settable number old)
settable_one number old = then_one (found (state_numbered number) 154) _ (found_one (state_numbered number) 154) (λ (s : ApMode). provided_one (not (is_permanently_off old)) 155 s)

obeyed_one : {Image : Type 0} (command : LcCommand) (lc : LcNow Image) → IsOne (lc_obeyed command lc)
obeyed_one NoOperation lc = tt
obeyed_one (SetMode number) lc = then_one (found (mode_numbered number) 154) _ (found_one (mode_numbered number) 154) (λ mode. tt)
obeyed_one (SetState index number) lc =
    then_one (states_set index number lc.points) _
    (either_one (index == all_points) _ _ (then_one (found (state_numbered number) 154) _ (found_one (state_numbered number) 154) (λ s. tt)) (one_set_one index (settable number) lc.points (settable_one number)))
    (λ points. tt)
obeyed_one (TurnPermanentlyOff index) lc =
    then_one (one_set index turned_permanently_off lc.points) _ (one_set_one index turned_permanently_off lc.points (λ s. provided_one (is_state_disabled s) 155 _)) (λ points. tt)

refusal_event : (sender : Name) (id : ℕ) (kind : EventKind) (refusal : Refusal) → length sender ≤ 20 → (code : ℕ) × (refusal ≡ code ∷ []) → Bounded 168 (Event sender id kind (numbered (codes "command refused") refusal) ∷ [])
refusal_event sender id kind refusal short one =
    let few : length (numbered (codes "command refused") (one.0 ∷ [])) ≤ 15 + 65 = numbered_one (codes "command refused") one.0 64 (decimal_few one.0) in
    subst (λ refusal. Bounded 168 (Event sender id kind (numbered (codes "command refused") refusal) ∷ [])) (sym one.1)
    (one_event sender id kind (numbered (codes "command refused") (one.0 ∷ [])) 124 short (omega (arith, few)) (omega arith))

-- ---- the Limit Checker

-- the rules of sound pairs are few, and have short texts
pub record HasShortRules {Image : Type 0} (images : Interpretation Image) : Type 0 where
  pub short : (pair : Pair Image) → AllByRecursion IsShortRule (images.rules pair)
  pub few : (pair : Pair Image) → images.fault_of Adt pair.adt ≡ None → length (images.rules pair) ≤ table_entries

module _ {Image : Type 0} (images : Interpretation Image) (has : HasShortRules images) where
  -- the most bytes of a step
  abbrev most : ℕ
  most = 63184

  abbrev StepBounded : LcNow Image × List Request → Type 0
  StepBounded step = Bounded 63184 step.1

  few_by : (a b : Option Image) → IfSome b (λ image. images.fault_of Adt image ≡ None) → length (option_map_or images.rules (paired images a b) []) ≤ table_entries
  few_by None b sound = omega arith
  few_by (Some a) None sound = omega arith
  few_by (Some a) (Some b) sound = by_test (images.matches (record { wdt = a; adt = b }))
    where
      by_test : (test : Bool) → length (option_map_or images.rules (let o : Option (Pair Image) = if test then Some (record { wdt = a; adt = b }) else None in o) []) ≤ table_entries
      by_test true = has.few (record { wdt = a; adt = b }) sound
      by_test false = omega arith

  few_rules : (lc : LcNow Image) → IsInStep images lc → length (rules_in images lc) ≤ table_entries
  few_rules lc h = few_by lc.wdt.active lc.adt.active h.adt.active

  few_points : (lc : LcNow Image) → IsInStep images lc → length lc.points ≤ table_entries
  few_points lc h = let few : length (rules_in images lc) ≤ table_entries = few_rules lc h in omega (arith, h.points, few)

  unless_bounded : (lc : LcNow Image) (r : Result (LcNow Image × List Request) Refusal) → IsOne r → IfOk r StepBounded → StepBounded (unless_refused lc r)
  unless_bounded lc (Ok step) one h = h
  unless_bounded lc (Err refusal) one h = wider 168 63184 (lc_command_refused refusal ∷ []) (omega arith) (refusal_event lc_name 9 _ refusal (omega arith) one)

  either_step : (test : Bool) (x y : LcNow Image × List Request) → StepBounded x → StepBounded y → StepBounded (if test then x else y)
  either_step true x y h k = h
  either_step false x y h k = k

  command_bounded : (packet : List ℕ) (lc : LcNow Image) → StepBounded (unless_refused lc (lc_commanded packet lc))
  command_bounded packet lc = by_command (lc_command_in packet) (command_one (function_code packet) (payload packet))
    where
      done : Bounded 63184 (lc_command_done (function_code packet) ∷ [])
      done =
          let a : List ℕ = numbered (codes "command") (function_code packet ∷ []) in
          let a_few : length a ≤ 7 + 65 = numbered_one (codes "command") (function_code packet) 64 (decimal_few (function_code packet)) in
          let few : length (a ++ codes " done") ≤ 72 + 5 = behind_text a (codes " done") 72 5 (omega (arith, a_few)) (omega arith) in
          wider 168 63184 (lc_command_done (function_code packet) ∷ []) (omega arith) (one_event lc_name 8 _ (a ++ codes " done") 124 (omega arith) (omega (arith, few)) (omega arith))

      by_after : (r : Result (LcNow Image) Refusal) → IsOne r → StepBounded (unless_refused lc (r >>= (λ after. Ok (after, lc_command_done (function_code packet) ∷ []))))
      by_after (Ok after) one = done
      by_after (Err refusal) one = unless_bounded lc (Err refusal) one tt

      by_command : (r : Result LcCommand Refusal) → IsOne r →
          StepBounded (unless_refused lc (r >>= (λ command. lc_obeyed command lc >>= (λ after. Ok (after, lc_command_done (function_code packet) ∷ [])))))
      by_command (Ok command) one = by_after (lc_obeyed command lc) (obeyed_one command lc)
      by_command (Err refusal) one = unless_bounded lc (Err refusal) one tt

  telemetry_bounded : (packet : List ℕ) (lc : LcNow Image) → StepBounded (lc_telemetry by_counts images packet lc)
  telemetry_bounded packet lc = either_step (is_disabled lc.mode) (lc, []) _ (nothing 63184) (by_force (in_force images lc))
    where
      by_force : (o : Option (Pair Image)) → StepBounded (option_map_or (watched by_counts images packet lc) o (lc, []))
      by_force None = nothing 63184
      by_force (Some pair) =
          either 63184 (is_short (images.terms pair) packet) (short_packet (message_id packet) ∷ []) []
          (wider 168 63184 (short_packet (message_id packet) ∷ []) (omega arith) (one_event lc_name 7 _ (codes "short packet " ++ hex_word (message_id packet)) 124 (omega arith) (omega arith) (omega arith))) (nothing 63184)

  sample_bounded : (packet : List ℕ) (lc : LcNow Image) → IsInStep images lc → StepBounded (unless_refused lc (lc_sample by_counts images packet lc))
  sample_bounded packet lc h = by_request (sample_request (function_code packet) (payload packet)) (sample_one (function_code packet) (payload packet))
    where
      by_force : (request : SampleRequest) (o : Option (Pair Image)) → in_force images lc ≡ o → StepBounded (option_map_or (sampled_by by_counts images request lc) o (lc, []))
      by_force request None e = nothing 63184
      by_force request (Some pair) e =
          let all : length (rules_in images lc) ≤ table_entries = few_rules lc h in
          let few : length (images.rules pair) ≤ table_entries = subst (λ o. length (option_map_or images.rules o []) ≤ table_entries) e all in
          wider (359 * length (images.rules pair)) 63184 _ (omega (arith, few))
          (samples_bounded request (images.terms pair) lc.mode lc.watch 0 (images.rules pair) lc.points (has.short pair) (omega (arith, few)))

      by_request : (r : Result SampleRequest Refusal) → IsOne r →
          StepBounded (unless_refused lc (r >>= (λ request. Ok (if is_disabled lc.mode then (lc, []) else option_map_or (sampled_by by_counts images request lc) (in_force images lc) (lc, [])))))
      by_request (Err refusal) one = unless_bounded lc (Err refusal) one tt
      by_request (Ok request) one = either_step (is_disabled lc.mode) (lc, []) _ (nothing 63184) (by_force request (in_force images lc) refl)

  verdict_bounded : (kind : Kind) (fault : Option ImageFault) (slot : Slot Image) → Bounded 300 (told_verdict images kind fault slot).1
  verdict_bounded kind None slot =
      let a : List ℕ = numbered (codes "table") (kind_code kind ∷ []) in
      let a_few : length a ≤ 5 + 65 = numbered_one (codes "table") (kind_code kind) 64 (decimal_few (kind_code kind)) in
      let few : length (a ++ codes " valid") ≤ 70 + 6 = behind_text a (codes " valid") 70 6 (omega (arith, a_few)) (omega arith) in
      wider 168 300 _ (omega arith) (one_event lc_name 10 _ (a ++ codes " valid") 124 (omega arith) (omega (arith, few)) (omega arith))
  verdict_bounded kind (Some fault) slot =
      let a : List ℕ = numbered (codes "table") (kind_code kind ∷ []) in
      let a_few : length a ≤ 5 + 65 = numbered_one (codes "table") (kind_code kind) 64 (decimal_few (kind_code kind)) in
      let second : List ℕ = codes " " ++ decimal fault.entry in
      let tail_few : length (second ++ []) ≤ 65 + 0 = behind_text second [] 65 0 (let n : length (decimal fault.entry) ≤ 64 = decimal_few fault.entry in omega (arith, n)) (omega arith) in
      let first : List ℕ = codes " " ++ decimal fault.code in
      let both_few : length (first ++ (second ++ [])) ≤ 65 + 65 = behind_text first (second ++ []) 65 65 (let n : length (decimal fault.code) ≤ 64 = decimal_few fault.code in omega (arith, n)) (omega (arith, tail_few)) in
      let b : List ℕ = numbered (codes " invalid") (fault.code ∷ fault.entry ∷ []) in
      let b_few : length b ≤ 8 + 130 = behind_text (codes " invalid") (first ++ (second ++ [])) 8 130 (omega arith) (omega (arith, both_few)) in
      let few : length (a ++ b) ≤ 70 + 138 = behind_text a b 70 138 (omega (arith, a_few)) (omega (arith, b_few)) in
      wider 252 300 _ (omega arith) (one_event lc_name 11 _ (a ++ b) 208 (omega arith) (omega (arith, few)) (omega arith))

  validated_bounded : (kind : Kind) (slot : Slot Image) → Bounded 300 (validated images kind slot).1
  validated_bounded kind slot = by_waiting (waiting_at Asked slot)
    where
      by_waiting : (o : Option Image) → Bounded 300 (option_map_or (λ image. told_verdict images kind (images.fault_of kind image) slot) o (slot, [])).1
      by_waiting None = nothing 300
      by_waiting (Some image) = verdict_bounded kind (images.fault_of kind image) slot

  housekeeping_bounded : (packet : List ℕ) (lc : LcNow Image) → IsInStep images (unless_refused lc (lc_housekeeping by_counts images packet lc)).0 →
      StepBounded (unless_refused lc (lc_housekeeping by_counts images packet lc))
  housekeeping_bounded packet lc after = by_request (bare_request 0 (function_code packet) (payload packet)) (bare_one 0 (function_code packet) (payload packet)) after
    where
      wdt : Slot Image × List Request
      wdt = validated images Wdt lc.wdt

      adt : Slot Image × List Request
      adt = validated images Adt lc.adt

      now : LcNow Image
      now = record lc { wdt = wdt.0; adt = adt.0 }

      adoption : LcNow Image × List Request
      adoption = option_map_or (adopted by_counts images now) (pair_to_adopt images wdt.0 adt.0) (now, [])

      adoption_bounded : (o : Option (Pair Image)) → Bounded 168 (option_map_or (adopted by_counts images now) o (now, [])).1
      adoption_bounded None = nothing 168
      adoption_bounded (Some pair) = one_event lc_name 2 _ (codes "tables adopted") 124 (omega arith) (omega arith) (omega arith)

      told : IsInStep images adoption.0 → Bounded 192 (housekeeping_of by_counts adoption.0 ∷ [])
      told h = record {
        fit = (
          let n : length adoption.0.points ≤ table_entries = few_points adoption.0 h in
              let same : length (map (standing by_counts) adoption.0.points) ≡ length adoption.0.points = length-map adoption.0.points (standing by_counts) in omega (arith, n, same),
          tt,
        );
        size = omega arith;
      }

      by_request : (r : Result (Unit {0}) Refusal) → IsOne r →
          IsInStep images (unless_refused lc (r >>= (λ _. let after : LcNow Image × List Request = option_map_or (adopted by_counts images now) (pair_to_adopt images wdt.0 adt.0) (now, []) in Ok (after.0, wdt.1 ++ adt.1 ++ after.1 ++ housekeeping_of by_counts after.0 ∷ [])))).0 →
          StepBounded (unless_refused lc (r >>= (λ _. let after : LcNow Image × List Request = option_map_or (adopted by_counts images now) (pair_to_adopt images wdt.0 adt.0) (now, []) in Ok (after.0, wdt.1 ++ adt.1 ++ after.1 ++ housekeeping_of by_counts after.0 ∷ []))))
      by_request (Err refusal) one h = unless_bounded lc (Err refusal) one tt
      by_request (Ok request) one h =
          wider (((300 + 300) + 168) + 192) 63184 _ (omega arith)
          (both ((300 + 300) + 168) 192 ((wdt.1 ++ adt.1) ++ adoption.1) (housekeeping_of by_counts adoption.0 ∷ [])
          (both (300 + 300) 168 (wdt.1 ++ adt.1) adoption.1 (both 300 300 wdt.1 adt.1 (validated_bounded Wdt lc.wdt) (validated_bounded Adt lc.adt)) (adoption_bounded (pair_to_adopt images wdt.0 adt.0))) (told h))

  packet_bounded : (packet : List ℕ) (lc : LcNow Image) → IsInStep images lc → StepBounded (lc_packet by_counts images packet lc)
  packet_bounded packet lc h =
      let mid : ℕ = message_id packet in
      either_step (mid == lc_command_mid) _ _ (command_bounded packet lc)
      (either_step (mid == lc_housekeeping_request_mid) _ _ (housekeeping_bounded packet lc (housekeeping_in_step images lc h packet))
      (either_step (mid == sample_mid) _ _ (sample_bounded packet lc h) (either_step (is_telemetry_mid mid) _ (lc, []) (telemetry_bounded packet lc) (nothing 63184))))

  -- ---- calls

  within : (n : ℕ) → n ≤ 63184 → n ≤ 65536
  within n few = omega (arith, few)

  sent_size : (moment : Moment) (sender : Name) (requests : List Request) (services : ServicesNow Image) → Bounded 63184 requests →
      length (concat (sent_by moment sender requests services).1) ≤ 65536
  sent_size moment sender requests services b = by_sender (services.events sender)
    where
      by_sender : (o : Option EventState) →
          length (concat (option_map_or (λ (events : EventState). accounted sender services (next_all_delivered moment requests (record { events = events; counts = services.counts }))) o (services, [])).1) ≤ 65536
      by_sender None = omega arith
      by_sender (Some events) = within _ (all_size 63184 moment requests (record { events = events; counts = services.counts }) b)

  counter_bounded : (packet : List ℕ) (count : ℕ) → Bounded 63184 (next_count packet count).1
  counter_bounded packet count = by_request (bare_request 1 (function_code packet) (payload packet)) (bare_one 1 (function_code packet) (payload packet))
    where
      by_request : (r : Result (Unit {0}) Refusal) → IsOne r → Bounded 63184 (next_answer count r).1
      by_request (Ok command) one =
          let n : ℕ = min (count + 1) 4294967295 in
          let few : length (numbered (codes "count") (n ∷ [])) ≤ 5 + 65 = numbered_one (codes "count") n 64 (decimal_few n) in
          wider 168 63184 (counted (count + 1) ∷ []) (omega arith) (one_event counter_name 1 _ (numbered (codes "count") (n ∷ [])) 124 (omega arith) (omega (arith, few)) (omega arith))
      by_request (Err refusal) one = wider 168 63184 (counter_refused refusal ∷ []) (omega arith) (refusal_event counter_name 2 _ refusal (omega arith) one)

  pub writes_little : WritesLittle images
  writes_little moment (LcState own) packet services g =
      sent_size moment lc_name (next_lc_packet images packet own (lc_with own services)).1 (with_tables (next_lc_packet images packet own (lc_with own services)).0 services)
      (subst StepBounded (sym (copies_serve images packet own services g)) (packet_bounded packet (lc_with own services) g.in_step))
  writes_little moment (SchState schedule slot) packet services g =
      either_called (λ (called : Called Image). length (concat called.outgoing) ≤ 65536) (message_id packet == tick_mid)
      (sch_told (next_tick schedule slot) schedule services) (silent (SchState schedule slot) sch_subscriptions [] services) (omega arith) (omega arith)
  writes_little moment (CounterState count) packet services g =
      either_called (λ (called : Called Image). length (concat called.outgoing) ≤ 65536) (message_id packet == counter_mid)
      (counter_told moment (next_count packet count) services) (silent (CounterState count) counter_subscriptions [] services)
      (sent_size moment counter_name (next_count packet count).1 services (counter_bounded packet count)) (omega arith)
  writes_little moment Other packet services g = tt

  start_bounded : (files : List (Name × FileMeaning Image)) → StepBounded (lc_start by_counts images files)
  start_bounded files = by_pair (default_pair images files)
    where
      by_pair : (o : Option (Pair Image)) → StepBounded (started_with by_counts images o)
      by_pair None = wider 168 63184 _ (omega arith) (one_event lc_name 1 _ (codes "started " ++ codes "without tables") 124 (omega arith) (omega arith) (omega arith))
      by_pair (Some pair) = wider 168 63184 _ (omega arith) (one_event lc_name 1 _ (codes "started " ++ codes "with tables") 124 (omega arith) (omega arith) (omega arith))

  pub starts_write_little : StartsWriteLittle images
  starts_write_little moment (LcState own) services =
      let step : LcNow Image × List Request = lc_start by_counts images services.files in
      sent_size moment lc_name step.1 (with_tables step.0 (registered lc_name services)) (start_bounded services.files)
  starts_write_little moment (SchState schedule slot) services = omega arith
  starts_write_little moment (CounterState count) services = omega arith
  starts_write_little moment Other services = tt

-- ---- bytes

take_few : (n : ℕ) (bytes : List ℕ) → length (take n bytes) ≤ n
take_few zero bytes = omega arith
take_few (suc n) [] = omega arith
take_few (suc n) (b ∷ bytes) = let others : length (take n bytes) ≤ n = take_few n bytes in omega (arith, others)

take_less : (n : ℕ) (bytes : List ℕ) → length (take n bytes) ≤ length bytes
take_less zero bytes = omega arith
take_less (suc n) [] = omega arith
take_less (suc n) (b ∷ bytes) = let others : length (take n bytes) ≤ length bytes = take_less n bytes in omega (arith, others)

name_few : (field : List ℕ) → length (name_in field) ≤ length field
name_few field = take_less _ field

all_of : {A B : Type 0} (P : B → Type 0) (f : A → List B) → ((x : A) → AllByRecursion P (f x)) → (xs : List A) → AllByRecursion P (flat_map f xs)
all_of P f each [] = tt
all_of P f each (x ∷ xs) = all_append P (f x) (flat_map f xs) (each x) (all_of P f each xs)

few_of : {A B : Type 0} (f : A → List B) → ((x : A) → length (f x) ≤ 1) → (xs : List A) → length (flat_map f xs) ≤ length xs
few_of f each [] = omega arith
few_of f each (x ∷ xs) =
    let first : length (f x) ≤ 1 = each x in
    let others : length (flat_map f xs) ≤ length xs = few_of f each xs in
    let whole : length (f x ++ flat_map f xs) ≡ length (f x) + length (flat_map f xs) = length-append (f x) (flat_map f xs) in
    omega (arith, first, others, whole)

module _ (layouts : List Layout) where
  abbrev rule_at : List ℕ → List ℕ → Layout → ℕ → List Actionpoint
  rule_at wdt adt l n = let e : List ℕ = entry_at l adt n in spelled_rule_if e (spelled_condition (spelled_terms wdt) (words_before_equal (all_words e)))

  short_rules : (wdt adt : List ℕ) → AllByRecursion IsShortRule (spelled_rules layouts wdt adt)
  short_rules wdt adt = by_layout (layout_of layouts Adt adt)
    where
      one : (e : List ℕ) (o : Option Condition) → AllByRecursion IsShortRule (spelled_rule_if e o)
      one e None = tt
      one e (Some c) =
          let text : length (name_in (slice_range e 14 46)) ≤ length (slice_range e 14 46) = name_few (slice_range e 14 46) in
          let field : length (slice_range e 14 46) ≤ 32 = take_few 32 (drop 14 e) in
          (omega (arith, text, field), tt)

      by_layout : (o : Option Layout) → AllByRecursion IsShortRule (spelled_by_layout o (spelled_terms wdt) adt)
      by_layout None = tt
      by_layout (Some l) = all_of IsShortRule (rule_at wdt adt l) (λ n. one (entry_at l adt n) _) (numbers_below (own_count adt))

  few_spelled : (wdt adt : List ℕ) → own_count adt ≤ table_entries → length (spelled_rules layouts wdt adt) ≤ table_entries
  few_spelled wdt adt few = by_layout (layout_of layouts Adt adt)
    where
      one : (e : List ℕ) (o : Option Condition) → length (spelled_rule_if e o) ≤ 1
      one e None = omega arith
      one e (Some c) = omega arith

      by_layout : (o : Option Layout) → length (spelled_by_layout o (spelled_terms wdt) adt) ≤ table_entries
      by_layout None = omega arith
      by_layout (Some l) =
          let all : length (flat_map (rule_at wdt adt l) (numbers_below (own_count adt))) ≤ length (numbers_below (own_count adt)) =
          few_of (rule_at wdt adt l) (λ n. one (entry_at l adt n) _) (numbers_below (own_count adt)) in
          let many : length (numbers_below (own_count adt)) ≡ own_count adt = length_numbers (own_count adt) in
          omega (arith, all, many, few)

  pub bytes_have_short_rules : HasShortRules (as_bytes layouts)
  bytes_have_short_rules = record {
    short = λ pair. short_rules pair.wdt pair.adt;
    few = λ pair sound.
        let parts : SoundParts layouts Adt pair.adt = sound_parts layouts Adt pair.adt sound in
        let p : SoundPreamble parts.layout pair.adt = sound_preamble parts.layout pair.adt parts.preamble in
        few_spelled pair.wdt pair.adt p.own;
  }
