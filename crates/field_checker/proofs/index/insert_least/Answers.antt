use Rattle.std.proofs.Common.{◌∙◌, ap, refl, rules}
use Rattle.field_checker.specs.Index.{at_name, is_before}
use Rattle.field_checker.proofs.Indexing.{least_kept, least_put}
use Rattle.field_checker.proofs.Keys.{stood_at, updated_at}
use Rattle.field_checker.proofs.index.insert_least.Goals as goal

pub returns-in_ok-insert : goal.returns-in_ok-insert
returns-in_ok-insert c = λ text at.
    let key = c.args.key in
    let name = key.1.now in
    least_kept (at_name c.args.map.now) (at_name c.insert.new.self) (at_name c.insert-in-Some.new.self) name text c.args.place c.in-Some.least c.min.result at
    (stood_at name key c.args.map.now _ c.requires refl c.in_ok-least.ensures.old ∙ c.in-Some.is) (search rules)
    (updated_at name key c.args.map.now c.insert.new.self _ c.requires refl c.in_ok-least.ensures.updates text)
    (updated_at name key c.insert.new.self c.insert-in-Some.new.self _ c.requires refl c.in_ok-insert.ensures.updates text)

pub returns-in_default : goal.returns-in_default
returns-in_default c = λ text at.
    let key = c.args.key in
    let name = key.1.now in
    ap (λ o. is_before o at) (updated_at name key c.args.map.now c.insert.new.self _ c.requires refl c.in_ok-least.ensures.updates text)
    ∙ least_put (at_name c.args.map.now) name text c.args.place at
    (stood_at name key c.args.map.now _ c.requires refl c.in_ok-least.ensures.old ∙ c.in_default.is)
