use Rattle.std.proofs.Common.{sym, ◌∙◌}
use Rattle.clap.specs.Words.{found_of}
use Rattle.clap.proofs.WalkLemmas.{one_text-rows}
use Rattle.flight_tools_args.proofs.found.flag.Goals as goal

pub returns : goal.returns
returns c =
    let same = sym (one_text-rows (found_of c.args.found.now) c.args.name.now) in (
      λ is. c.get_flag.ensures.value (sym same ∙ is),
      λ is. c.get_flag.ensures.other (sym same ∙ is),
      λ is. c.get_flag.ensures.none (sym same ∙ is),
    )
