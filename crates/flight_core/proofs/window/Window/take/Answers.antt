-- What goes is the front of what was held.
use Rattle.std.proofs.Common.{◌≡◌, ◌+◌, ◌≤◌, ◌∙◌, ℕ, List, ap, arith, rules, subst, sym, length, take, drop, take-take, length-drop, length-take}
use Rattle.std.proofs.lemmas.List.{drop-drop, drop-take}
use Rattle.flight_core.specs.Window.{Shown}
use Rattle.flight_core.proofs.window.Window.take.Goals as goal

taken : (start size end : ℕ) (items : List ℕ) → start ≤ end → size ≤ length (drop start (take end items)) → drop start (take (start + size) items) ≡ take size (drop start (take end items))
taken start size end items inside few =
    let within : start + size ≤ end = omega (arith, inside, few, length-drop start (take end items), length-take end items) in
    ap (drop start) (sym (take-take (start + size) end items within)) ∙ drop-take start size (take end items)

pub returns : goal.returns
returns c =
    let start = c.self.inside.start in
    let end = c.self.inside.end in
    let items = c.self.inside.room.items in
    let few : c.args.size ≤ length (drop start (take end items)) = subst (λ (old : Shown). c.args.size ≤ length old.held) (sym c.self.view_is) c.requires in
    (λ i. record { last = taken start c.args.size end items (search rules) few i; held = sym (drop-drop c.args.size start (take end items)) i })
    ∙ (λ i. let old : Shown = c.self.view_is i in record { last = take c.args.size old.held; held = drop c.args.size old.held })
