use Rattle.std.proofs.Common.{arith}
use Rattle.rule_analysis.proofs.Halves.{odd_none, even_none, odd_below, odd_there, even_there}
use Rattle.rule_analysis.proofs.numbers.+next_bits.Goals as goal

pub returns-in-None : goal.returns-in-None
returns-in-None t c = odd_none c.args.mask c.args.from c.in-None.ensures

pub returns-then-even-from : goal.returns-then-even-from
returns-then-even-from t c = odd_below c.args.mask c.args.from c.in-Some.half (omega arith) (omega arith) c.in-Some.ensures

pub returns-else-even-from : goal.returns-else-even-from
returns-else-even-from t c = odd_there c.args.mask c.args.from c.in-Some.half (omega arith) (omega arith) c.in-Some.ensures

pub returns-in-None-next_bits : goal.returns-in-None-next_bits
returns-in-None-next_bits t c = even_none c.args.mask c.args.from (omega arith) c.in-None-next_bits.ensures

pub returns-in-Some-next_bits : goal.returns-in-Some-next_bits
returns-in-Some-next_bits t c = even_there c.args.mask c.args.from c.in-Some-next_bits.half (omega arith) c.in-Some-next_bits.ensures
