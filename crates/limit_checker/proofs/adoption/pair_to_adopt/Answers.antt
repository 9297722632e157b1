use Rattle.lc_model.specs.Services.Tables.{slot_at}
use Rattle.limit_checker.proofs.Adopting.{pair_found, pair_refused, they_match}
use Rattle.limit_checker.proofs.adoption.pair_to_adopt.Goals as goal

pub returns-then-belong_together-clause-pair : goal.returns-then-belong_together-clause-pair
returns-then-belong_together-clause-pair c =
    pair_found (slot_at c.args.wdt c.args.tables.now) (slot_at c.args.adt c.args.tables.now) c.in-Some.wdt_image c.in-Some-sound_candidate.adt_image c.if-not-is_one_activated.ensures
    c.in-Some.ensures.image c.in-Some-sound_candidate.ensures.image c.if-belong_together.ensures

pub returns-then-belong_together-clause-sound : goal.returns-then-belong_together-clause-sound
returns-then-belong_together-clause-sound c = record {
  wdt = c.in-Some.ensures.kind;
  adt = c.in-Some-sound_candidate.ensures.kind;
  matching = they_match c.in-Some.wdt_image.bytes c.in-Some-sound_candidate.adt_image.bytes c.if-belong_together.ensures;
}

pub returns-else-belong_together-clause-pair : goal.returns-else-belong_together-clause-pair
returns-else-belong_together-clause-pair c =
    pair_refused (slot_at c.args.wdt c.args.tables.now) (slot_at c.args.adt c.args.tables.now) c.in-Some.wdt_image c.in-Some-sound_candidate.adt_image c.if-not-is_one_activated.ensures
    c.in-Some.ensures.image c.in-Some-sound_candidate.ensures.image c.if-belong_together.ensures
