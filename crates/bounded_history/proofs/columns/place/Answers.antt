use Rattle.std.proofs.Common.{◌∙◌, ◌^◌, ◌++◌, ◌∷◌, [], ap, sym, arith}
use Rattle.std.proofs.lemmas.Result.{on_ok_weaker}
use Rattle.bounded_history.proofs.Placed.{placed_first, placed_second, placed_third, placed_more}
use Rattle.bounded_history.proofs.columns.place.Goals as goal

pub returns-in_default-clause-reduced : goal.returns-in_default-clause-reduced
returns-in_default-clause-reduced c = λ told is.
    placed_first (2 ^ c.args.doublings) told c.args.entries.now.items c.pop.new.self.items c.push.new.self.items c.args.entry
    (omega (arith, c.args.entries.now.ok.0, c.in_default.ensures.cases.0))
    (omega (arith, c.pop.new.self.ok.0, c.in_default.ensures.cases.1)) c.in_ok-push.ensures.items is

pub returns-in_default-pop-clause-reduced : goal.returns-in_default-pop-clause-reduced
returns-in_default-pop-clause-reduced c = λ told is. on_ok_weaker c.push_both.result
    (λ added. placed_second (2 ^ c.args.doublings) told c.args.entries.now.items c.pop.new.self.items c.pop-2.new.self.items c.push_both.new.entries.items
    c.in-Some.other c.args.entry c.in-Some.ensures.items
    (omega (arith, c.pop.new.self.ok.0, c.in_default-pop.ensures.cases.0))
    (omega (arith, c.pop-2.new.self.ok.0, c.in_default-pop.ensures.cases.1)) added is)
    c.push_both.ensures

pub returns-then-is_third-clause-reduced : goal.returns-then-is_third-clause-reduced
returns-then-is_third-clause-reduced c = λ told is. on_ok_weaker c.push_both-then-is_third.result
    (λ added. placed_third (2 ^ c.args.doublings) told c.args.entries.now.items c.pop.new.self.items c.pop-2.new.self.items
    c.push_both-then-is_third.new.entries.items c.in-Some-pop.one c.in-Some.other c.args.entry c.in-Some.ensures.items
    c.in-Some-pop.ensures.items (sym c.is_third.ensures.third ∙ c.if-is_third.true)
    (added ∙ ap (λ first. (c.pop-2.new.self.items ++ first ∷ []) ++ c.args.entry ∷ []) c.join.ensures) is)
    c.push_both-then-is_third.ensures

pub returns-clause-reduced : goal.returns-clause-reduced
returns-clause-reduced c = λ told is. on_ok_weaker c.push_both-2.result
    (λ added. placed_more (2 ^ c.args.doublings) told c.args.entries.now.items c.pop.new.self.items c.pop-2.new.self.items
    c.push_both-2.new.entries.items c.in-Some-pop.one c.in-Some.other c.args.entry c.in-Some.ensures.items
    c.in-Some-pop.ensures.items (sym c.is_third.ensures.third ∙ c.if-is_third.false)
    (added ∙ ap (λ front. (front ++ c.in-Some.other ∷ []) ++ c.args.entry ∷ []) c.in_ok-push-2.ensures.items) is)
    c.push_both-2.ensures
