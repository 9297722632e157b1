use Rattle.std.proofs.Common.{◌∙◌, arith}
use Rattle.limit_checker.proofs.Stands.{one_more_stands}
use Rattle.limit_checker.proofs.standings.standings.Goals as goal

pub loop-index-preserved : goal.loop-index-preserved
loop-index-preserved c = record {
  bytes = c.push.ensures.items
      ∙ one_more_stands c.args.engine.now.points c.loop-index.index c.standing.result c.byte_of.result c.loop-index.bytes.items
      (let more = c.loop-index-test.true in let count = c.rule_count-count.ensures.points in omega (arith, more, count))
      c.standing.ensures.state c.standing.ensures.last c.byte_of.ensures c.loop-index.invariant.bytes;
  len = let one = c.push.ensures.len in let so_many = c.loop-index.invariant.len in omega (arith, one, so_many);
}
