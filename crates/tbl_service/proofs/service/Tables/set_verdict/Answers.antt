use Rattle.std.proofs.Common.{rules}
use Rattle.lc_model.specs.Tables.Slot.{judged}
use Rattle.tbl_service.proofs.Sound.{changed_sound}
use Rattle.tbl_service.proofs.service.Tables.set_verdict.Goals as goal

pub invariant_of-self : goal.invariant_of-self
invariant_of-self c = (
  changed_sound c.self.inside.files c.self.inside.places.items c.as_mut_slice.result.now c.judge.new.places c.self.inside.places.len (search rules) (search rules) (search rules)
      (judged c.args.valid) c.args.slot c.judge.ensures.judged c.self.invariant.0,
  search rules,
)
