use Rattle.std.proofs.Common.{◌∙◌, refl}
use Rattle.field_checker.specs.Index.{at_name}
use Rattle.field_checker.proofs.Indexing.{both_put, new_put}
use Rattle.field_checker.proofs.Keys.{stood_at, updated_at}
use Rattle.field_checker.proofs.index.insert.Goals as goal

pub returns-in_ok-insert : goal.returns-in_ok-insert
returns-in_ok-insert c = λ text.
    let key = c.args.key in
    let name = key.1.now in
    both_put (at_name c.args.named.now) (at_name c.insert.new.self) (at_name c.insert-in-Some.new.self) name text c.args.declared c.in-Some.before c.with.result
    (stood_at name key c.args.named.now _ c.requires refl c.in_ok-before.ensures.old ∙ c.in-Some.is) c.with.ensures
    (updated_at name key c.args.named.now c.insert.new.self _ c.requires refl c.in_ok-before.ensures.updates text)
    (updated_at name key c.insert.new.self c.insert-in-Some.new.self _ c.requires refl c.in_ok-insert.ensures.updates text)

pub returns-in_default : goal.returns-in_default
returns-in_default c = λ text.
    let key = c.args.key in
    let name = key.1.now in
    updated_at name key c.args.named.now c.insert.new.self _ c.requires refl c.in_ok-before.ensures.updates text
    ∙ new_put (at_name c.args.named.now) name text c.args.declared (stood_at name key c.args.named.now _ c.requires refl c.in_ok-before.ensures.old ∙ c.in_default.is)
