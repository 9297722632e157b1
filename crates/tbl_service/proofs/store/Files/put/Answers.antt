use Rattle.std.proofs.Common.{rules}
use Rattle.tbl_service.proofs.StoredFiles.{no_room, replaced, added}
use Rattle.tbl_service.proofs.store.Files.put.Goals as goal

pub returns-in_default-clause-answer : goal.returns-in_default-clause-answer
returns-in_default-clause-answer c =
    no_room c.args.name.now c.args.bytes.now c.as_slice.result.now c.args.self.now (search rules) (search rules) c.in-None.ensures.place (search rules)

pub returns-in-Some-clause-answer : goal.returns-in-Some-clause-answer
returns-in-Some-clause-answer c =
    replaced c.args.name.now c.args.bytes.now c.as_slice.result.now c.args.self.now _ c.in-Some.place c.index_mut.result.now c.replace.new.self c.index_mut.result.now
    (search rules) (search rules) c.in-Some.ensures.place (search rules) (search rules) (search rules)

pub returns-in-Some-pop-clause-answer : goal.returns-in-Some-pop-clause-answer
returns-in-Some-pop-clause-answer c =
    added c.args.name.now c.args.bytes.now c.as_slice.result.now c.args.self.now c.push_reserved.new.self.items c.new.result
    (search rules) (search rules) c.in-None.ensures.place (search rules) (search rules) (search rules)
