use Rattle.std.proofs.Common.{ap, ◌∙◌}
use Rattle.lc_model.specs.Tables.Image.{all_words, words_before_equal}
use Rattle.table_listing.specs.Formula.{formula_of}
use Rattle.analysis_listing.proofs.OverLaws.{all_spelled, means_by}
use Rattle.analysis_listing.proofs.tables.condition_at.Goals as goal

pub over-requires : goal.over-requires
over-requires c =
    let means = means_by c.trees_mean_as_their_words.ensures c.args.terms.now c.deref.result.now c.in_ok-words.words.items c.actionpoint.result
    (formula_of c.in_ok-equation.equation) _ c.requires.few c.deref.ensures.value c.in_ok-words.ensures c.requires.watchpoints c.actionpoint.ensures.sound
    c.in_ok-equation.ensures in
    (means.condition, means.over)

pub returns : goal.returns
returns c =
    all_spelled c.over.result c.args.terms.now _ c.deref.result.now (formula_of c.in_ok-equation.equation)
    (c.deref.ensures.value ∙ c.in_ok-words.ensures ∙ ap (λ e. words_before_equal (all_words e)) c.actionpoint.ensures.entry)
    (means_by c.trees_mean_as_their_words.ensures c.args.terms.now c.deref.result.now c.in_ok-words.words.items c.actionpoint.result
    (formula_of c.in_ok-equation.equation) _ c.requires.few c.deref.ensures.value c.in_ok-words.ensures c.requires.watchpoints c.actionpoint.ensures.sound
    c.in_ok-equation.ensures)
    c.over.ensures
