use Rattle.std.proofs.Common.{◌≡◌, ap, not, sym}
use Rattle.std.proofs.lemmas.Slice.Eq.{bytes_eq-Decides}
use Rattle.run_comparison.specs.Meaning.{meanings_in}
use Rattle.run_comparison.proofs.Same.{equal_are_same}
use Rattle.run_comparison.proofs.met.do_differ.Goals as goal

pub returns-then-eq : goal.returns-then-eq
returns-then-eq c =
    let same : c.args.old.now ≡ c.args.new.now = (bytes_eq-Decides c.args.old.now c.args.new.now).0 (sym c.if-eq.ensures) in
    sym (ap not (equal_are_same (meanings_in c.args.sort c.args.old.now) (meanings_in c.args.sort c.args.new.now) (ap (meanings_in c.args.sort) same)))
