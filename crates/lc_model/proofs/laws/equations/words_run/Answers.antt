use Rattle.lc_model.specs.Tables.Equation.{need, words}
use Rattle.lc_model.specs.Laws.Equations.{WordsSpell}
use Rattle.lc_model.proofs.Tables.SoundWords.{sound_words_spell}
use Rattle.lc_model.proofs.Tables.SpellsOnce.{computed}
use Rattle.lc_model.proofs.Tables.WordsSpell.{words_spell}
use Rattle.lc_model.proofs.laws.equations.words_run.Goals as goal
use Rattle.std.proofs.Common.{length, arith}

pub returns : goal.returns
returns c terms condition few over light =
    let spelled : WordsSpell terms condition = words_spell terms condition over in
    record {
      sound = (sound_words_spell (length terms) (words terms condition) few).1 (need condition, light, spelled.equation);
      spelled = computed terms (omega (arith, few)) spelled.spell;
    }
