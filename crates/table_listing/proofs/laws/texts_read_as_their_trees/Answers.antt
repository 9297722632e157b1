use Rattle.table_listing.proofs.Reading.{texts_read_as_their_trees}
use Rattle.table_listing.proofs.laws.texts_read_as_their_trees.Goals as goal

pub returns : goal.returns
returns c = texts_read_as_their_trees
