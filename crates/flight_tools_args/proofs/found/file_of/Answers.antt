use Rattle.std.proofs.Common.{rules, ◌∙◌}
use Rattle.clap.specs.Words.{found_of}
use Rattle.clap.proofs.WalkLemmas.{first_value-rows}
use Rattle.flight_tools_args.proofs.found.file_of.Goals as goal

pub returns : goal.returns
returns c =
    let read = c.get_str.ensures ∙ first_value-rows (found_of c.args.found.now) c.args.name.now in
    search (rules, read)
