use Rattle.std.proofs.Common.{length}
use Rattle.lc_model.specs.Tables.HalvesAndBytes.{as_bytes, as_halves, byte_meanings, text_meanings}
use Rattle.lc_model.specs.Host.Stream.{records_of}
use Rattle.lc_model.proofs.Host.AsideLaws.{asides_do_not_count}
use Rattle.lc_model.proofs.laws.isolation.asides_call_for_nothing.Goals as goal

pub returns-clause-texts : goal.returns-clause-texts
returns-clause-texts c layouts texts schedule stock stream other =
    asides_do_not_count (as_halves layouts) schedule stock (text_meanings layouts texts) (records_of (length texts) stream).0 (records_of (length texts) other).0

pub returns-clause-bytes : goal.returns-clause-bytes
returns-clause-bytes c layouts compiled texts schedule stock stream other =
    asides_do_not_count (as_bytes layouts) schedule stock (byte_meanings compiled) (records_of texts stream).0 (records_of texts other).0
