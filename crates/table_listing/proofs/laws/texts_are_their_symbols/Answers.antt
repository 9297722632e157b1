use Rattle.table_listing.proofs.Letters.{texts_are_their_symbols}
use Rattle.table_listing.proofs.laws.texts_are_their_symbols.Goals as goal

pub returns : goal.returns
returns c = texts_are_their_symbols
