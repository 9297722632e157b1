use Rattle.std.proofs.Common.{◌∙◌, ap, List, ℕ, map, inr, Bor, Vec, Global}
use Rattle.program_io.proofs.Calls.{each_text}
use Rattle.program_io.proofs.Stopping.{passes}
use Rattle.flight_run.specs.Cause.{fault_of_file}
use Rattle.flight_run.proofs.RunCalls.{all_texts, all_there, at_create, at_out, at_rules, at_schedule, at_slices, at_stream, at_texts, is_opened, is_run, run_ends, run_stops}
use Rattle.flight_run.proofs.Stopping.{lifted}
use Rattle.flight_run.proofs.running.run_files.Goals as goal

pub returns-in_err-plan-clause-stops : goal.returns-in_err-plan-clause-stops
returns-in_err-plan-clause-stops g c =
    passes _ _ _ c.from_residual.ensures.1 (inr (at_schedule c.args.schedule.now c.args.stream c.args.out _ _ _ c.in_err-plan.field-0.0 c.in_err-plan.ensures.stops))

pub returns-in_err-texts-clause-stops : goal.returns-in_err-texts-clause-stops
returns-in_err-texts-clause-stops g c =
    passes _ _ _ c.from_residual-in_err-texts.ensures.1
    (inr (at_texts c.args.schedule.now c.args.stream c.args.out _ _ c.in_ok-plan.ensures.said.0 _ _ (fault_of_file c.in_err-texts.field-0.0) c.in_ok-plan.ensures.said.2 (lifted _ _ _ c.in_err-texts.field-0.0 c.in_err-texts.ensures.stops)))

pub returns-in_err-slices-clause-stops : goal.returns-in_err-slices-clause-stops
returns-in_err-slices-clause-stops g c =
    let text = c.in_ok-plan.ensures.said.0 in
    let texts = map (λ (x : Vec ℕ Global). x.items) c.in_ok-texts.texts.items in
    let same = each_text c.in_ok-texts.texts.items c.args.rules.now c.in_ok-texts.ensures.each in
    let read = all_texts c.args.schedule.now c.args.stream c.args.out _ _ text texts _ _ c.in_ok-plan.ensures.said.2 c.in_ok-texts.ensures.read in
    passes _ _ _ c.from_residual-in_err-slices.ensures.1 (inr (at_slices c.args.schedule.now c.args.stream c.args.out _ _ text texts _ same read))

pub returns-in_default-clause-stops : goal.returns-in_default-clause-stops
returns-in_default-clause-stops g c =
    let text = c.in_ok-plan.ensures.said.0 in
    let texts = map (λ (x : Vec ℕ Global). x.items) c.in_ok-texts.texts.items in
    let same = each_text c.in_ok-texts.texts.items c.args.rules.now c.in_ok-texts.ensures.each in
    let read = all_texts c.args.schedule.now c.args.stream c.args.out _ _ text texts _ _ c.in_ok-plan.ensures.said.2 c.in_ok-texts.ensures.read in
    inr (at_stream c.args.schedule.now c.args.stream c.args.out _ _ text texts _ _ same read c.in_default.ensures.noted)

pub returns-in_err-check_apart-clause-stops : goal.returns-in_err-check_apart-clause-stops
returns-in_err-check_apart-clause-stops g c =
    let text = c.in_ok-plan.ensures.said.0 in
    let texts = map (λ (x : Vec ℕ Global). x.items) c.in_ok-texts.texts.items in
    let same = each_text c.in_ok-texts.texts.items c.args.rules.now c.in_ok-texts.ensures.each in
    let read = all_texts c.args.schedule.now c.args.stream c.args.out _ _ text texts _ _ c.in_ok-plan.ensures.said.2 c.in_ok-texts.ensures.read in
    passes _ _ _ c.from_residual-in_err-check_apart.ensures.1 (inr (at_out c.args.schedule.now c.args.stream c.args.out _ _ text texts _ _ _ _ (fault_of_file c.in_err-check_apart.field-0.0) same read c.in-Ok.ensures.noted (lifted _ _ _ c.in_err-check_apart.field-0.0 c.in_err-check_apart.ensures.refused)))

pub returns-in_err-check_apart-2-clause-stops : goal.returns-in_err-check_apart-2-clause-stops
returns-in_err-check_apart-2-clause-stops g c =
    let text = c.in_ok-plan.ensures.said.0 in
    let texts = map (λ (x : Vec ℕ Global). x.items) c.in_ok-texts.texts.items in
    let same = each_text c.in_ok-texts.texts.items c.args.rules.now c.in_ok-texts.ensures.each in
    let read = all_texts c.args.schedule.now c.args.stream c.args.out _ _ text texts _ _ c.in_ok-plan.ensures.said.2 c.in_ok-texts.ensures.read in
    let opened = is_opened c.args.schedule.now c.args.stream c.args.out _ _ text texts _ _ _ _ read c.in-Ok.ensures.noted c.in_ok-check_apart.ensures.apart in
    passes _ _ _ c.from_residual-in_err-check_apart-2.ensures.1 (inr (at_rules c.args.schedule.now c.args.stream c.args.out _ _ text texts _ _ _ (fault_of_file c.in_err-check_apart-2.field-0.0) same opened (lifted _ _ _ c.in_err-check_apart-2.field-0.0 c.in_err-check_apart-2.ensures.refused)))

pub returns-in_default-create-clause-stops : goal.returns-in_default-create-clause-stops
returns-in_default-create-clause-stops g c =
    let text = c.in_ok-plan.ensures.said.0 in
    let texts = map (λ (x : Vec ℕ Global). x.items) c.in_ok-texts.texts.items in
    let same = each_text c.in_ok-texts.texts.items c.args.rules.now c.in_ok-texts.ensures.each in
    let read = all_texts c.args.schedule.now c.args.stream c.args.out _ _ text texts _ _ c.in_ok-plan.ensures.said.2 c.in_ok-texts.ensures.read in
    let opened = is_opened c.args.schedule.now c.args.stream c.args.out _ _ text texts _ _ _ _ read c.in-Ok.ensures.noted c.in_ok-check_apart.ensures.apart in
    let there = all_there c.args.schedule.now c.args.stream c.args.out _ _ text texts _ _ _ opened c.in_ok-check_apart-2.ensures.apart in
    inr (at_create c.args.schedule.now c.args.stream c.args.out _ _ text texts _ _ _ same there c.in_default-create.ensures.noted)

pub returns-clause-done : goal.returns-clause-done
returns-clause-done g c =
    let text = c.in_ok-plan.ensures.said.0 in
    let texts = map (λ (x : Vec ℕ Global). x.items) c.in_ok-texts.texts.items in
    let same = each_text c.in_ok-texts.texts.items c.args.rules.now c.in_ok-texts.ensures.each in
    let read = all_texts c.args.schedule.now c.args.stream c.args.out _ _ text texts _ _ c.in_ok-plan.ensures.said.2 c.in_ok-texts.ensures.read in
    let opened = is_opened c.args.schedule.now c.args.stream c.args.out _ _ text texts _ _ _ _ read c.in-Ok.ensures.noted c.in_ok-check_apart.ensures.apart in
    let there = all_there c.args.schedule.now c.args.stream c.args.out _ _ text texts _ _ _ opened c.in_ok-check_apart-2.ensures.apart in
    let lent = ap (map (λ (x : Bor (List ℕ)). x.now)) c.as_slice-2.ensures.value ∙ c.in_ok-slices.ensures ∙ ap (map (λ (x : Vec ℕ Global). x.items)) c.as_slice.ensures.value in
    let ran = is_run c.args.schedule.now c.args.stream c.args.out _ _ text _ texts c.as_slice-2.result.now _ _ _ _ _ _ _ c.run_devices-ran.result.0 c.end_output.result c.in_ok-plan.ensures.said.1 same lent there c.in-Ok-create.ensures.noted c.end_output.ensures c.run_devices-ran.ensures.flies in
    run_ends c.args.schedule.now c.args.stream c.args.out _ _ _ c.end_output.result ran

pub returns-clause-stops : goal.returns-clause-stops
returns-clause-stops g c =
    let text = c.in_ok-plan.ensures.said.0 in
    let texts = map (λ (x : Vec ℕ Global). x.items) c.in_ok-texts.texts.items in
    let same = each_text c.in_ok-texts.texts.items c.args.rules.now c.in_ok-texts.ensures.each in
    let read = all_texts c.args.schedule.now c.args.stream c.args.out _ _ text texts _ _ c.in_ok-plan.ensures.said.2 c.in_ok-texts.ensures.read in
    let opened = is_opened c.args.schedule.now c.args.stream c.args.out _ _ text texts _ _ _ _ read c.in-Ok.ensures.noted c.in_ok-check_apart.ensures.apart in
    let there = all_there c.args.schedule.now c.args.stream c.args.out _ _ text texts _ _ _ opened c.in_ok-check_apart-2.ensures.apart in
    let lent = ap (map (λ (x : Bor (List ℕ)). x.now)) c.as_slice-2.ensures.value ∙ c.in_ok-slices.ensures ∙ ap (map (λ (x : Vec ℕ Global). x.items)) c.as_slice.ensures.value in
    let ran = is_run c.args.schedule.now c.args.stream c.args.out _ _ text _ texts c.as_slice-2.result.now _ _ _ _ _ _ _ c.run_devices-ran.result.0 c.end_output.result c.in_ok-plan.ensures.said.1 same lent there c.in-Ok-create.ensures.noted c.end_output.ensures c.run_devices-ran.ensures.flies in
    run_stops c.args.schedule.now c.args.stream c.args.out _ _ _ c.end_output.result ran
