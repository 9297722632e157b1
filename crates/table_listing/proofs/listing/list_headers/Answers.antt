use Rattle.table_listing.proofs.Listed.{adds_headers}
use Rattle.table_listing.proofs.listing.list_headers.Goals as goal

pub returns : goal.returns
returns g c = adds_headers c.args.file.now c.of.result c.of-2.result.name.now c.of-2.result.description.now c.of-2.result.reserved c.of-2.result.size _ _ _
    c.of.ensures c.of-2.ensures.name c.of-2.ensures.description c.of-2.ensures.reserved c.of-2.ensures.size
    c.in_ok-writeln.ensures.bytes c.in_ok-writeln-2.ensures.bytes
