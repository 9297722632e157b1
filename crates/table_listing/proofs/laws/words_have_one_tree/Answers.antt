use Rattle.table_listing.proofs.Trees.{one_tree}
use Rattle.table_listing.proofs.laws.words_have_one_tree.Goals as goal

pub returns : goal.returns
returns c = one_tree
