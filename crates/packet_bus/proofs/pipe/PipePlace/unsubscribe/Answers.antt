use Rattle.std.proofs.Common.{◌≡◌, ◌∙◌, ap, sym, subst, refl, ℕ, ◌==◌, Bool, true, false, not, List, filter, arith}
use Rattle.std.specs.Prelude.{option_map}
use Rattle.std.specs.List.{position_from}
use Rattle.packet_bus.specs.Line.{line_if, AreOnce, without_subscription}
use Rattle.packet_bus.proofs.Once.{once_less, removed, kept}
use Rattle.packet_bus.proofs.pipe.PipePlace.unsubscribe.Goals as goal

without : (is_open : Bool) (mid : ℕ) (mids slots : List ℕ) →
    line_if is_open (filter (λ other. not (mid == other)) mids) slots ≡ option_map (without_subscription mid) (line_if is_open mids slots)
without true mid mids slots = refl
without false mid mids slots = refl

pub invariant_of-self : goal.invariant_of-self
invariant_of-self c =
    let mids = c.self.inside.subscriptions.items in
    let is = c.self.invariant in
    let found = ap (position_from (λ other. c.args.mid == other) 0) (sym c.as_slice.ensures.value) ∙ sym c.place_of.ensures.place ∙ c.in-Some.is in
    let new : c.remove.new.self.items ≡ filter (λ other. not (c.args.mid == other)) mids = c.remove.ensures.items ∙ removed c.args.mid c.in-Some.at mids is.once found in
    record {
      depth = is.depth;
      short = is.short;
      few = omega (arith, is.few, c.remove.ensures.len, c.remove.new.self.ok.0, c.self.inside.subscriptions.ok.0);
      once = subst AreOnce (sym new) (once_less c.args.mid mids is.once);
      has_room = omega (arith, is.has_room, c.remove.ensures.capacity);
      closed = λ shut. (new ∙ ap (filter (λ other. not (c.args.mid == other))) (is.closed shut).0, (is.closed shut).1);
    }

pub returns-in-Some : goal.returns-in-Some
returns-in-Some c =
    let mids = c.self.inside.subscriptions.items in
    let found = ap (position_from (λ other. c.args.mid == other) 0) (sym c.as_slice.ensures.value) ∙ sym c.place_of.ensures.place ∙ c.in-Some.is in
    let new : c.remove.new.self.items ≡ filter (λ other. not (c.args.mid == other)) mids = c.remove.ensures.items ∙ removed c.args.mid c.in-Some.at mids c.self.invariant.once found in
    ap (λ mids. line_if c.self.inside.is_open mids c.self.inside.waiting.items) new
    ∙ without c.self.inside.is_open c.args.mid mids c.self.inside.waiting.items
    ∙ ap (option_map (without_subscription c.args.mid)) c.self.view_is

pub returns-in_default : goal.returns-in_default
returns-in_default c =
    let mids = c.self.inside.subscriptions.items in
    let none = ap (position_from (λ other. c.args.mid == other) 0) (sym c.as_slice.ensures.value) ∙ sym c.place_of.ensures.place ∙ c.in_default.is in
    sym c.self.view_is
    ∙ ap (λ mids. line_if c.self.inside.is_open mids c.self.inside.waiting.items) (kept c.args.mid mids none)
    ∙ without c.self.inside.is_open c.args.mid mids c.self.inside.waiting.items
    ∙ ap (option_map (without_subscription c.args.mid)) c.self.view_is
