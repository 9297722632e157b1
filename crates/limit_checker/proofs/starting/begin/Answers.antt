use Rattle.std.proofs.Common.{ap, sym, ◌∙◌}
use Rattle.lc_model.specs.Tables.InForce.{layouts}
use Rattle.lc_model.specs.Tables.Spelled.{spelled_terms, spelled_rules}
use Rattle.limit_checker.specs.Adoption.{pair_of}
use Rattle.limit_engine.specs.Engine.{with_tables}
use Rattle.limit_checker.specs.Starting.{own_started, tables_started}
use Rattle.limit_checker.proofs.DefaultTables.{own_with_pair}
use Rattle.limit_checker.proofs.TablesBegun.{second_fits, both_so}
use Rattle.limit_checker.proofs.starting.begin.Goals as goal

pub install-requires-2-clause-fits : goal.install-requires-2-clause-fits
install-requires-2-clause-fits c =
    second_fits c.args.seat c.args.tables.now c.requires c.in-Some.wdt c.in-Some.adt c.in-Some.ensures.sound.wdt c.in-Some.ensures.sound.adt c.in-Some.ensures.defaults c.new.result c.new.ensures _
    c.default_file.ensures _ c.install.ensures _ c.default_file-2.ensures c.new-2.result c.new-2.ensures

pub returns-clause-engine : goal.returns-clause-engine
returns-clause-engine c =
    c.adopt.ensures ∙ ap (with_tables (spelled_terms c.in-Some.wdt.bytes) (spelled_rules layouts c.in-Some.wdt.bytes c.in-Some.adt.bytes)) c.reset.ensures
    ∙ sym (own_with_pair (pair_of (c.in-Some.wdt, c.in-Some.adt))) ∙ ap own_started c.in-Some.ensures.pair

pub returns-clause-tables : goal.returns-clause-tables
returns-clause-tables c =
    both_so c.args.seat c.args.tables.now c.requires c.in-Some.wdt c.in-Some.adt c.in-Some.ensures.sound.wdt c.in-Some.ensures.sound.adt c.in-Some.ensures.defaults c.new.result c.new.ensures _
    c.default_file.ensures _ c.install.ensures _ c.default_file-2.ensures c.new-2.result c.new-2.ensures _ c.install-2.ensures
    ∙ ap (λ pair. tables_started c.args.seat pair c.args.tables.now) c.in-Some.ensures.pair
