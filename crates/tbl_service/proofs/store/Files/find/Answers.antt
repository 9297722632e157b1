use Rattle.std.proofs.Common.{rules}
use Rattle.tbl_service.proofs.StoredFiles.{not_there, there}
use Rattle.tbl_service.proofs.store.Files.find.Goals as goal

pub returns-in-None-clause-bytes : goal.returns-in-None-clause-bytes
returns-in-None-clause-bytes c = not_there c.args.name.now c.as_slice.result.now c.args.self.now (search rules) c.in-None.ensures.place

pub returns-in-Some-clause-bytes : goal.returns-in-Some-clause-bytes
returns-in-Some-clause-bytes c =
    there c.args.name.now c.as_slice.result.now c.args.self.now c.in-Some.place c.index.result.now c.index.result.now c.bytes.result.now
    (search rules) c.in-Some.ensures.place (search rules) c.bytes.ensures.bytes
