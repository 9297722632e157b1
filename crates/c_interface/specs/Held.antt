-- What a handle owns.
use Rattle.std.specs.Prelude.{Option, Some, None}
use base.Fml.{Fml, ftrue}
use denote.RawPtr.{Ptr}
use denote.RattleType.{RattleType}
use Rattle.std_alloc.specs.Box.Ownership.{box_owns}
use Rattle.std.specs.declared.alloc.Global.{Global}
use Rattle.std.specs.contracts.impls.GlobalAllocator.TheImpl.{ghosts}
use Rattle.c_interface.specs.contracts.handle.Fed.{the_row}
use Rattle.c_interface.specs.declared.handle.Fed.{Fed}

-- the box at the pointer, with what is in it; nothing where it holds nothing
abbrev pub held : Global → Ptr → Option Fed → Fml
held alloc at None = ftrue
held alloc at (Some fed) = box_owns (ghosts.dealloc_token alloc) the_row at fed

abbrev pub fed_row : RattleType
fed_row = the_row
