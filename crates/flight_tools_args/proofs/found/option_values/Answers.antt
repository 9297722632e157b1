use Rattle.std.proofs.Common.{rules, sym, ap, ◌∙◌, List, [], Option}
use Rattle.std.specs.Prelude.{unwrap_or}
use Rattle.clap.specs.Words.{Text, found_of}
use Rattle.clap.proofs.WalkLemmas.{raw_values-rows}
use Rattle.flight_tools_args.proofs.found.option_values.Goals as goal

pub returns-in_ok-from_slice-in-Some : goal.returns-in_ok-from_slice-in-Some
returns-in_ok-from_slice-in-Some c =
    let read = c.get_strs.ensures ∙ raw_values-rows (found_of c.args.found.now) _ in
    search (rules, ap (λ (words : Option (List Text)). unwrap_or words []) (sym read))

pub returns-in-None : goal.returns-in-None
returns-in-None c =
    let read = c.get_strs.ensures ∙ raw_values-rows (found_of c.args.found.now) _ in
    search (rules, ap (λ (words : Option (List Text)). unwrap_or words []) (sym read))
