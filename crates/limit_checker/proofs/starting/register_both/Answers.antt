use Rattle.limit_checker.proofs.TablesBegun.{first_is_taken, second_is_taken, both_registered}
use Rattle.limit_checker.proofs.starting.register_both.Goals as goal

pub unwrap-requires : goal.unwrap-requires
unwrap-requires c =
    first_is_taken c.args.seat c.args.tables.now c.is_service.ensures c.requires.seat c.requires.free c.requires.unused _ _ c.table_name.ensures.bytes c.image_length.ensures c.register.result _
    c.register.ensures.answer

pub unwrap-requires-2 : goal.unwrap-requires-2
unwrap-requires-2 c =
    second_is_taken c.args.seat c.args.tables.now c.is_service.ensures c.requires.seat c.requires.free c.requires.unused _ _ c.table_name.ensures.bytes c.image_length.ensures c.register.result _
    c.register.ensures.answer _ _ _ c.table_name-2.ensures.bytes c.image_length-2.ensures c.image_length-3.ensures c.register-2.result _ c.register-2.ensures.answer

pub returns : goal.returns
returns c =
    both_registered c.args.seat c.args.tables.now c.is_service.ensures c.requires.seat c.requires.free c.requires.unused _ _ c.table_name.ensures.bytes c.image_length.ensures c.register.result _
    c.register.ensures.answer _ _ _ c.table_name-2.ensures.bytes c.image_length-2.ensures c.image_length-3.ensures c.register-2.result _ c.register-2.ensures.answer
