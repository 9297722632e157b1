use Rattle.std.proofs.Common.{rules}
use Rattle.lc_model.specs.declared.kind.Kind.TheVariants.{Adt}
use Rattle.table_listing.specs.Listed.{IsEntryListed}
use Rattle.table_listing.proofs.Listed.{adds_nothing, adds_line, adds_all}
use Rattle.table_listing.proofs.listing.list_actionpoints.Goals as goal

pub loop-number-init : goal.loop-number-init
loop-number-init g c = adds_nothing _ _

pub loop-number-preserved : goal.loop-number-preserved
loop-number-preserved g c = adds_line (IsEntryListed Adt c.args.valid.now.bytes) c.loop-number.number _ _ _ c.loop-number.invariant
    c.in_ok-list_actionpoint.ensures

pub returns : goal.returns
returns g c = adds_all (IsEntryListed Adt c.args.valid.now.bytes) c.loop-number.number _ _ _ (search rules) c.loop-number.invariant
