use Rattle.std.proofs.Common.{rules, ◌≡◌, ◌∙◌, ap, sym, subst, length, ◌≤◌, ◌<◌, ◌++◌, ◌∷◌, [], get_or}
use Rattle.rule_analysis.proofs.LaidLaws.{one_pair_more, no_pair_more, pair_of}
use Rattle.rule_analysis.proofs.packets.pair.Goals as goal

pub returns-then-bits-next : goal.returns-then-bits-next
returns-then-bits-next c = λ before so_far.
    let past : length c.args.bits.now ≤ length c.args.chosen.now.items = (search rules) in
    so_far ∙ sym (no_pair_more before c.args.bits.now c.args.field.now (subst (λ xs. length c.args.bits.now ≤ length xs) so_far past))

pub returns : goal.returns
returns c = λ before so_far.
    let below : length c.args.chosen.now.items < length c.args.bits.now = (search rules) in
    let next : c.len-next.result ≡ length c.args.chosen.now.items = (search rules) in
    c.in_ok-push.ensures.items
    ∙ (λ i. so_far i ++ pair_of c.args.field.now (get_or c.args.bits.now (next i) 0) ∷ [])
    ∙ sym (one_pair_more before c.args.bits.now c.args.field.now (get_or c.args.bits.now (length c.args.chosen.now.items) 0)
    (subst (λ xs. length xs < length c.args.bits.now) so_far below) (ap (λ xs. get_or c.args.bits.now (length xs) 0) so_far))
