use Rattle.std.proofs.Common.{rules, refl}
use Rattle.lc_model.specs.declared.kind.Kind.TheVariants.{Wdt}
use Rattle.table_listing.specs.Listed.{IsEntryListed}
use Rattle.table_listing.proofs.Listed.{adds_nothing, adds_line, adds_all}
use Rattle.table_listing.proofs.listing.list_watchpoints.Goals as goal

pub loop-number-init : goal.loop-number-init
loop-number-init g c = adds_nothing _ _

pub loop-number-preserved : goal.loop-number-preserved
loop-number-preserved g c = adds_line (IsEntryListed Wdt c.args.valid.now.bytes) c.loop-number.number _ _ _ c.loop-number.invariant
    (record { text = _; is = refl; appends = c.in_ok-list_watchpoint.ensures })

pub returns : goal.returns
returns g c = adds_all (IsEntryListed Wdt c.args.valid.now.bytes) c.loop-number.number _ _ _ (search rules) c.loop-number.invariant
