use Rattle.std.proofs.Common.{rules, ◌∙◌}
use Rattle.clap.specs.Words.{found_of}
use Rattle.clap.proofs.WalkLemmas.{raw_values-rows}
use Rattle.flight_run_args.proofs.command_line.files_of.Goals as goal

pub returns : goal.returns
returns c =
    let read = c.get_strs.ensures ∙ raw_values-rows (found_of c.args.found.now) c.args.name.now in
    search (rules, read)

pub returns-in_err-words-clause-none : goal.returns-in_err-words-clause-none
returns-in_err-words-clause-none c =
    let read = c.get_strs.ensures ∙ raw_values-rows (found_of c.args.found.now) c.args.name.now in
    search (rules, read)
