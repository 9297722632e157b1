-- What a handle lends. This project's own.
use Rattle.std.specs.Prelude.{Some}
use Rattle.std.specs.Borrow.{Lends, MutBor, Fml}
use Rattle.c_interface.specs.declared.handle.Fed.{Fed}
use Rattle.c_interface.specs.declared.handle.Handle.{Handle}
use Rattle.c_interface.specs.contracts.handle.Handle.{the_row as handle_row}
use Rattle.c_interface.specs.contracts.handle.Fed.{the_row as fed_row}

-- the handle with this in it
abbrev pub with_fed : Handle → Fed → Handle
with_fed handle fed = record handle { value = Some fed }

-- once the loan ends, the handle holds what the borrower left in it
abbrev pub LendsFed : MutBor Handle → MutBor Fed → Fml
LendsFed handle fed = Lends handle_row fed_row handle fed (with_fed handle.now)
