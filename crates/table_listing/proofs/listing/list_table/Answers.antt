use Rattle.std.proofs.Common.{◌≡◌, true, IfOk, subst, rules}
use Rattle.table_listing.specs.Listed.{Adds, IsImageListed}
use Rattle.table_listing.proofs.Listed.{adds_file}
use Rattle.table_listing.proofs.listing.list_table.Goals as goal

pub returns-in_ok-list_headers-in-Ok-clause-listed : goal.returns-in_ok-list_headers-in-Ok-clause-listed
returns-in_ok-list_headers-in-Ok-clause-listed g c = adds_file c.args.file.now c.in-Ok.file c.list_image.result _ _ _ (search rules) c.in_ok-list_headers-in-Ok.ensures
    (subst (λ image. IfOk c.list_image.result (λ sound. sound ≡ true → Adds (IsImageListed image) (g.W.Write.contents c.list_headers.new.out) (g.W.Write.contents c.list_image.new.out))) c.image.ensures c.list_image.ensures.listed)
