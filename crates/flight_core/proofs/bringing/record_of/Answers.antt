use Rattle.std.proofs.Common.{sym, ◌∙◌, subst, Some}
use Rattle.lc_model.specs.declared.record.Body.TheVariants as body
use Rattle.flight_core.specs.declared.found.Found.{Found}
use Rattle.flight_core.specs.Found.{IsShortNamed, NamesText}
use Rattle.flight_core.specs.Brought.{IsBrought}
use Rattle.flight_core.proofs.RecordsBrought.{taken, file_at, half_taken}
use Rattle.flight_core.proofs.bringing.record_of.Goals as goal

pub returns-in-Record : goal.returns-in-Record
returns-in-Record c =
    let pairs = c.args.pairs.now in
    subst (λ (f : Found). IsBrought pairs f (Some c.in-Record.entry)) (sym c.in-Record.is) (taken pairs c.in-Record.entry (subst IsShortNamed c.in-Record.is c.requires.named))

pub returns-in-Half : goal.returns-in-Half
returns-in-Half c =
    let pairs = c.args.pairs.now in
    let less = subst (NamesText _) c.in-Half.is c.requires.text in
    subst (λ (f : Found). IsBrought pairs f (Some (record { moment = c.in-Half.moment; body = body.File c.in-Half.name c.file.result }))) (sym c.in-Half.is)
    (half_taken pairs c.in-Half.moment c.in-Half.name c.in-Half.kind c.in-Half.text c.file.result c.requires.files less
    (c.file.ensures ∙ file_at c.in-Half.kind pairs c.in-Half.text c.index-pairs-text.result less c.index-pairs-text.is)
    (subst IsShortNamed c.in-Half.is c.requires.named))
