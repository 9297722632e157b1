use Rattle.std.proofs.Common.{sym, ◌∙◌}
use Rattle.limit_checker.proofs.DefaultTables.{is_pair, no_pair, matching_so}
use Rattle.limit_checker.proofs.starting.default_pair.Goals as goal

pub returns-then-belong_together-clause-pair : goal.returns-then-belong_together-clause-pair
returns-then-belong_together-clause-pair c =
    is_pair c.args.tables.now c.in-Some.wdt c.in-Some-default_image.adt c.in-Some.ensures.image c.in-Some-default_image.ensures.image (sym c.belong_together.ensures ∙ c.if-belong_together.true)

pub returns-then-belong_together-clause-sound : goal.returns-then-belong_together-clause-sound
returns-then-belong_together-clause-sound c = record {
  wdt = c.in-Some.ensures.kind;
  adt = c.in-Some-default_image.ensures.kind;
  matching = matching_so c.args.tables.now c.in-Some.wdt c.in-Some-default_image.adt c.in-Some.ensures.image c.in-Some-default_image.ensures.image (sym c.belong_together.ensures ∙ c.if-belong_together.true);
}

pub returns-else-belong_together-clause-pair : goal.returns-else-belong_together-clause-pair
returns-else-belong_together-clause-pair c =
    no_pair c.args.tables.now c.in-Some.wdt c.in-Some-default_image.adt c.in-Some.ensures.image c.in-Some-default_image.ensures.image (sym c.belong_together.ensures ∙ c.if-belong_together.false)
