use Rattle.lc_model.specs.declared.kind.Kind.TheVariants.{Adt}
use Rattle.table_listing.specs.Listed.{Adds, AreListed, IsEntryListed}
use Rattle.table_listing.proofs.listing.list_actionpoints.Given as goal

abbrev pub invariant-loop-number : goal.invariant-loop-number
invariant-loop-number g l = Adds (AreListed (IsEntryListed Adt l.valid.bytes) l.number) (g.W.Write.contents l.initial.out) (g.W.Write.contents l.out)
