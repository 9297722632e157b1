use Rattle.std.proofs.Common.{◌≡◌, map}
use Rattle.lc_model.specs.Tables.Image.{Watchpoints, entry_at, numbers_below}
use Rattle.lc_model.specs.Tables.Spelled.{spelled_term}
use Rattle.analysis_listing.proofs.tables.terms_of.Given as goal

abbrev pub invariant-loop-number : goal.invariant-loop-number
invariant-loop-number l = l.terms.items ≡ map (λ n. spelled_term (entry_at Watchpoints l.fn.watchpoints.bytes n)) (numbers_below l.number)
