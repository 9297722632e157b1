use Rattle.std.proofs.Common.{◌∙◌, ◌+◌, ◌*◌, ◌≤◌, length, arith}
use Rattle.table_file.proofs.Words.{word_is, word_within}
use Rattle.table_file.proofs.actionpoint.ActionpointEntry.word.Goals as goal

pub overflow_mul-number : goal.overflow_mul-number
overflow_mul-number c =
    let within : 46 + 2 * c.args.number + 2 ≤ length c.self.inside.bytes.now = rw c.self.view_is (word_within c.args.self.now c.args.number c.requires) in
    omega (arith, c.self.told.0)

pub overflow_add-number : goal.overflow_add-number
overflow_add-number c =
    let within : 46 + 2 * c.args.number + 2 ≤ length c.self.inside.bytes.now = rw c.self.view_is (word_within c.args.self.now c.args.number c.requires) in
    omega (arith, c.self.told.0)

pub u16_at-requires : goal.u16_at-requires
u16_at-requires c = rw c.self.view_is (word_within c.args.self.now c.args.number c.requires)

pub returns : goal.returns
returns c = c.u16_at.ensures ∙ rw c.self.view_is (word_is c.args.self.now c.args.number c.requires)
