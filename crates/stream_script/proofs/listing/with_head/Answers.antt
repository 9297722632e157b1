-- The number, the moment and the kind, one behind the other.
use Rattle.std.proofs.Common.{◌≡◌, subst, rules, List, ℕ}
use Rattle.std.specs.Prelude.{IfOk}
use Rattle.stream_script.proofs.Lines.{head_is_shown}
use Rattle.stream_script.proofs.listing.with_head.Goals as goal

pub returns : goal.returns
returns c =
    subst (λ (all : List ℕ). IfOk c.with_text.result (λ after. after.items ≡ all))
    (head_is_shown c.args.number c.from.result c.from-2.result c.args.moment c.args.kind c.word.result.now c.args.text.items c.in_ok-text.text.items c.in_ok-text-2.text.items c.in_ok-text-3.text.items
    (search rules) (search rules) c.word.ensures c.in_ok-text.ensures c.in_ok-text-2.ensures c.in_ok-text-3.ensures)
    c.with_text.ensures
