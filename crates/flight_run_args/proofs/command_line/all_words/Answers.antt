use Rattle.std.proofs.Common.{◌∙◌, ap, ap₂, ◌||◌}
use Rattle.std.proofs.lemmas.Result.{IfOk-weaker}
use Rattle.clap.specs.Words.{App, with_rule, with_subcommand}
use Rattle.flight_run_args.proofs.command_line.all_words.Goals as goal

pub returns : goal.returns
returns c =
    let rules_is = c.in_ok-arg.ensures.shape c.file_word.ensures.local ∙ ap₂ with_rule c.new.ensures.app c.file_word.ensures.rule in
    let wdt_is = c.in_ok-arg-2.ensures.shape c.file_word-2.ensures.local ∙ ap₂ with_rule rules_is c.file_word-2.ensures.rule in
    let compile_is = c.in_ok-compile.ensures.shape c.file_word-3.ensures.local ∙ ap₂ with_rule wdt_is c.file_word-3.ensures.rule in
    let compile_local = c.in_ok-compile.ensures.globals ∙ ap₂ (λ a b. a || b) (c.in_ok-arg-2.ensures.globals ∙ ap₂ (λ a b. a || b) (c.in_ok-arg.ensures.globals
    ∙ ap₂ (λ a b. a || b) c.new.ensures.local c.file_word.ensures.local) c.file_word-2.ensures.local) c.file_word-3.ensures.local in
    let schedule_is = c.in_ok-arg-3.ensures.shape c.option_word.ensures.local ∙ ap₂ with_rule c.new-2.ensures.app c.option_word.ensures.rule in
    let stream_is = c.in_ok-arg-4.ensures.shape c.option_word-2.ensures.local ∙ ap₂ with_rule schedule_is c.option_word-2.ensures.rule in
    let out_is = c.in_ok-arg-5.ensures.shape c.option_word-3.ensures.local ∙ ap₂ with_rule stream_is c.option_word-3.ensures.rule in
    let run_is = c.in_ok-run.ensures.shape c.file_words.ensures.local ∙ ap₂ with_rule out_is c.file_words.ensures.rule in
    let run_local = c.in_ok-run.ensures.globals ∙ ap₂ (λ a b. a || b) (c.in_ok-arg-5.ensures.globals ∙ ap₂ (λ a b. a || b) (c.in_ok-arg-4.ensures.globals ∙ ap₂ (λ a b. a || b) (c.in_ok-arg-3.ensures.globals
    ∙ ap₂ (λ a b. a || b) c.new-2.ensures.local c.option_word.ensures.local) c.option_word-2.ensures.local) c.option_word-3.ensures.local) c.file_words.ensures.local in
    let first_is = c.in_ok-subcommand.ensures.shape compile_local ∙ ap₂ with_subcommand c.new-3.ensures.app (ap (λ (a : App). a.top) compile_is) in
    IfOk-weaker c.subcommand-2.result _ _ (λ command adds. adds.shape run_local ∙ ap₂ with_subcommand first_is (ap (λ (a : App). a.top) run_is)) c.subcommand-2.ensures
