-- The members so far and those of the cells that are left are the members of all cells.
use Rattle.std.proofs.Common.{◌≡◌, ◌++◌, drop}
use Rattle.packet_rows.specs.Object.{members_text}
use Rattle.packet_rows.proofs.objects.push_members.Given as goal

abbrev pub invariant-loop-number : goal.invariant-loop-number
invariant-loop-number l =
    l.out.items ++ members_text (drop l.number l.keys) (drop l.number l.cells) ≡ l.initial.out.items ++ members_text l.keys l.cells
