-- The head, what the record brings, and the end of the line.
use Rattle.std.proofs.Common.{◌≡◌, subst, List, ℕ}
use Rattle.std.specs.Prelude.{IfOk, codes}
use Rattle.stream_script.specs.Listing.{body_shown, head_shown}
use Rattle.stream_script.proofs.Lines.{joined}
use Rattle.stream_script.proofs.listing.with_record.Goals as goal

pub returns : goal.returns
returns c =
    subst (λ (all : List ℕ). IfOk c.with_text.result (λ after. after.items ≡ all))
    (joined c.args.text.items (head_shown c.args.number c.args.moment c.args.kind) (body_shown c.args.kind c.args.body.now) (codes "\n") c.in_ok-text.text.items c.in_ok-text-2.text.items
    c.in_ok-text.ensures c.in_ok-text-2.ensures)
    c.with_text.ensures
