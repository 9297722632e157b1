-- The line of what stands in front, and the lines of what follows it.
use Rattle.std.proofs.Common.{sym, refl}
use Rattle.std.specs.Prelude.{codes, decimal, ◌++◌}
use Rattle.stream_script.specs.declared.front.Front.TheVariants.{Cut, NoRecord}
use Rattle.stream_script.proofs.Lines.{last_line, no_line, one_record}
use Rattle.stream_script.proofs.listing.with_next.Goals as goal

pub returns-in-End-clause-said : goal.returns-in-End-clause-said
returns-in-End-clause-said c = no_line c.args.number c.args.text.items c.args.bytes.now (sym c.in-End.ensures.stands)

pub returns-in_ok-text-in-NoRecord-clause-said : goal.returns-in_ok-text-in-NoRecord-clause-said
returns-in_ok-text-in-NoRecord-clause-said c =
    last_line c.args.number c.args.text.items c.args.bytes.now c.in_ok-text-in-NoRecord.text.items (decimal c.args.number ++ codes " is no record\n") NoRecord (sym c.in-NoRecord.ensures.stands) refl c.in_ok-text-in-NoRecord.ensures

pub returns-in_ok-text-in-Cut-clause-said : goal.returns-in_ok-text-in-Cut-clause-said
returns-in_ok-text-in-Cut-clause-said c =
    last_line c.args.number c.args.text.items c.args.bytes.now c.in_ok-text-in-Cut.text.items (decimal c.args.number ++ codes " is cut short\n") Cut (sym c.in-Cut.ensures.stands) refl c.in_ok-text-in-Cut.ensures

pub returns-in_ok-text-in-Record-clause-said : goal.returns-in_ok-text-in-Record-clause-said
returns-in_ok-text-in-Record-clause-said c =
    one_record c.args.number c.args.text.items c.args.bytes.now c.split_at.result.1.now c.in_ok-text-in-Record.text.items c.in-Record.kind c.in-Record.size
    (sym c.in-Record.ensures.stands) c.in-Record.ensures.inside.0 c.split_at.ensures.back c.in_ok-text-in-Record.ensures
