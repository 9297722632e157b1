use Rattle.std.proofs.Common.{◌∙◌, sym, ap, length, arith}
use Rattle.lc_model.specs.Tables.File.{TableFile}
use Rattle.table_file.proofs.HeaderFields.{number_is}
use Rattle.table_file.proofs.file.TableFile.number_of_bytes.Goals as goal

pub returns-clause-field : goal.returns-clause-field
returns-clause-field c =
    let image = ap (λ (f : TableFile). length f.image) c.self.view_is in
    let description = ap (λ (f : TableFile). length f.description) (sym c.self.view_is) ∙ c.self.invariant.description_size in
    image ∙ sym (number_is c.args.self.now description (omega (arith, image, c.self.invariant.image_size)))
