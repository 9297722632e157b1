use Rattle.std.proofs.Common.{refl, ◌∙◌, ap, length, inr, arith}
use Rattle.std.specs.List.{position_or_len}
use Rattle.indexmap.specs.IndexSet.{insert_key}
use Rattle.watch_sharing.proofs.SameTerm.{one_equality}
use Rattle.watch_sharing.proofs.sharing.number.Goals as goal

pub returns-then-len-gt-TABLE_ENTRIES-clause-refused : goal.returns-then-len-gt-TABLE_ENTRIES-clause-refused
returns-then-len-gt-TABLE_ENTRIES-clause-refused c =
    let keys = c.in_ok-number.ensures.keys ∙ ap (λ eq. insert_key eq c.args.terms.now.keys c.args.term) one_equality in
    inr (refl, omega (arith, c.if-len-gt-TABLE_ENTRIES.true, c.len.ensures.len, ap length keys))

pub returns-clause-number : goal.returns-clause-number
returns-clause-number c =
    c.in_ok-number.ensures.index ∙ ap (λ eq. position_or_len (eq c.args.term) c.args.terms.now.keys) one_equality

pub returns-clause-added : goal.returns-clause-added
returns-clause-added c = c.in_ok-number.ensures.keys ∙ ap (λ eq. insert_key eq c.args.terms.now.keys c.args.term) one_equality
