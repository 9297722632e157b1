use Rattle.std.proofs.Common.{◌∙◌, sym, ap, length}
use Rattle.lc_model.specs.Tables.File.{TableFile}
use Rattle.table_file.proofs.HeaderFields.{offset_is}
use Rattle.table_file.proofs.file.TableFile.offset.Goals as goal

pub returns : goal.returns
returns c = sym (offset_is c.args.self.now (ap (λ (f : TableFile). length f.description) (sym c.self.view_is) ∙ c.self.invariant.description_size))
