use Rattle.table_listing.proofs.Again.{compiled_again_means_the_same}
use Rattle.table_listing.proofs.laws.compiled_again_means_the_same.Goals as goal

pub returns : goal.returns
returns c = compiled_again_means_the_same
