use Rattle.std.proofs.Common.{◌∙◌, ap, sym, refl}
use Rattle.bounded_history.specs.Changes.{changes, is_said_last}
use Rattle.bounded_history.proofs.Grown.{on_ok_both, told_again, told_new}
use Rattle.bounded_history.proofs.changes.Changes.add.Goals as goal

pub returns-then-is_said-clause-told : goal.returns-then-is_said-clause-told
returns-then-is_said-clause-told c = λ told tells.
    told_again c.args.self.now told c.args.entry
    (ap (λ entries. is_said_last entries c.args.entry) (sym c.as_slice.ensures.value) ∙ sym c.is_said.ensures ∙ c.if-is_said.true) tells

pub returns-clause-told : goal.returns-clause-told
returns-clause-told c = λ told tells.
    on_ok_both c.place.result
    (λ placed few. told_new c.args.self.now (record { doublings = c.args.self.now.doublings; entries = c.place.new.entries }) told c.args.entry
    (ap (λ entries. is_said_last entries c.args.entry) (sym c.as_slice.ensures.value) ∙ sym c.is_said.ensures ∙ c.if-is_said.false)
    refl placed few tells)
    (c.place.ensures.reduced (changes told) tells.entries) c.place.ensures.few
