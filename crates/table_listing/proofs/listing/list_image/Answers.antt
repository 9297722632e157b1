use Rattle.table_listing.proofs.Listed.{adds_image}
use Rattle.table_listing.proofs.listing.list_image.Goals as goal

pub returns-in_ok-list_entries-in-Ok-clause-listed : goal.returns-in_ok-list_entries-in-Ok-clause-listed
returns-in_ok-list_entries-in-Ok-clause-listed g c = λ yes. adds_image c.args.image.now c.in-Ok.valid c.kind_of_image.result _ _ _
    c.in-Ok.ensures.lends c.kind_of_image.ensures c.in_ok-list_preamble.ensures c.in_ok-list_entries-in-Ok.ensures
