use Rattle.table_listing.proofs.Meaning.{trees_mean_as_their_words}
use Rattle.table_listing.proofs.laws.trees_mean_as_their_words.Goals as goal

pub returns : goal.returns
returns c = trees_mean_as_their_words
