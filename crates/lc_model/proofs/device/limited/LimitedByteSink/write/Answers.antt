use Rattle.std.proofs.Common.{rules}
use Rattle.std.proofs.lemmas.Slice.{drop-put_mid}
use Rattle.lc_model.proofs.device.limited.LimitedByteSink.write.Goals as goal

pub returns-clause-behind : goal.returns-clause-behind
returns-clause-behind c = search (rules, drop-put_mid)
