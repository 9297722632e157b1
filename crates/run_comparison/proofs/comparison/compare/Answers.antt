use Rattle.std.proofs.Common.{◌≡◌, ◌∙◌, ap, rules, subst}
use Rattle.std.specs.Prelude.{IfOk}
use Rattle.flight_core.specs.Compiled.{sources_of}
use Rattle.run_comparison.specs.Comparing.{IsComparison, sources_in}
use Rattle.run_comparison.proofs.Runs.{as_long}
use Rattle.run_comparison.proofs.comparison.compare.Goals as goal

pub returns : goal.returns
returns g c =
    let olds_are : sources_of c.as_slice.result.now ≡ sources_in c.args.sides.old.texts.now = ap sources_of c.as_slice.ensures.value ∙ c.in_ok-olds.ensures in
    let news_are : sources_of c.as_slice-2.result.now ≡ sources_in c.args.sides.new.texts.now = ap sources_of c.as_slice-2.ensures.value ∙ c.in_ok-news.ensures in
    subst (λ olds. IfOk c.compare_beside-compared.result (IsComparison olds (sources_in c.args.sides.new.texts.now) c.args.schedule.now c.args.keeps_all (g.R.ByteSource.source c.args.reader.now).rest
    (g.R.ByteSource.source c.compare_beside-compared.new.reader).rest)) olds_are
    (subst (λ news. IfOk c.compare_beside-compared.result (IsComparison (sources_of c.as_slice.result.now) news c.args.schedule.now c.args.keeps_all (g.R.ByteSource.source c.args.reader.now).rest
    (g.R.ByteSource.source c.compare_beside-compared.new.reader).rest)) news_are
    (c.compare_beside-compared.ensures.compared (sources_of c.as_slice.result.now) (as_long c.as_slice.result.now c.as_slice-2.result.now (search rules)) c.in_ok-old.ensures.begun))
