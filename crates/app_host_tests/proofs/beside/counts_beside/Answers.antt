use Rattle.std.proofs.Common.{arith, rules}
use Rattle.app_host_tests.proofs.Besides.{known_first, spare_first, as_beside}
use Rattle.app_host_tests.proofs.beside.counts_beside.Goals as goal

pub count-answer-requires : goal.count-answer-requires
count-answer-requires g c = (
  omega arith,
  (
    record { whole = c.in-Ok.ensures.whole; quiet = λ is. c.in-Ok.ensures.quiet },
    (
      search rules,
      (
        known_first _ _ c.in-Ok.ensures.first,
        spare_first _ _ _ _ c.in-Ok.ensures.first c.in_ok-stock.ensures.items c.requires.named c.requires.counts,
      ),
    ),
  ),
)

pub returns : goal.returns
returns g c =
    as_beside _ _ _ _ c.in-Ok.ensures.first c.in_ok-stock.ensures.items c.requires.named c.requires.counts _ _ c.count-answer.result c.count-answer.ensures.written
