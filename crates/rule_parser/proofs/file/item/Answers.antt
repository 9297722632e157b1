use Rattle.std.proofs.Common.{subst, sym, true, false, []}
use Rattle.std.proofs.lemmas.Result.{err_from_is_err_and}
use Rattle.lc_model.specs.Text.Syntax as model
use Rattle.lc_model.specs.Text.Class.{word}
use Rattle.rule_parser.specs.Syntax.{field_of, packet_of, rule_of}
use Rattle.rule_parser.specs.Fault.{Refuses}
use Rattle.rule_parser.specs.File.{StopsAt}
use Rattle.rule_parser.specs.Left.{place}
use Rattle.rule_parser.specs.declared.error.ParseError.TheVariants.{Expected}
use Rattle.rule_parser.specs.declared.what.What.TheVariants.{Item}
use Rattle.rule_parser.proofs.Files.{packet_took, packet_stops, field_took, field_stops, rule_first, rule_stops, no_item, takes_is, takes_past}
use Rattle.rule_parser.proofs.file.item.Goals as goal

pub returns-in_err-packet_item : goal.returns-in_err-packet_item
returns-in_err-packet_item c =
    let p = err_from_is_err_and c.from_residual.result c.from_residual.ensures.1 in
    rw (p.1, p.2)
    (packet_stops c.args.tokens.now c.takes.new.self c.in_err-packet_item.field-0.0
    (takes_is (word "packet") c.args.tokens.now c.takes.new.self c.takes.result true c.if-takes.true c.takes.ensures)
    c.in_err-packet_item.ensures)

pub returns-then-takes : goal.returns-then-takes
returns-then-takes c =
    packet_took c.args.tokens.now c.takes.new.self c.packet_item.new.tokens (packet_of c.in_ok-packet_item.field-0)
    (takes_is (word "packet") c.args.tokens.now c.takes.new.self c.takes.result true c.if-takes.true c.takes.ensures)
    c.in_ok-packet_item.ensures

pub returns-in_err-field_item : goal.returns-in_err-field_item
returns-in_err-field_item c =
    let p = err_from_is_err_and c.from_residual-in_err-field_item.result c.from_residual-in_err-field_item.ensures.1 in
    rw (p.1, p.2)
    (field_stops c.args.tokens.now c.takes-2.new.self c.in_err-field_item.field-0.0
    (takes_past (word "packet") (word "field") c.args.tokens.now c.takes.new.self c.takes-2.new.self true
    (takes_is (word "packet") c.args.tokens.now c.takes.new.self c.takes.result false c.if-takes.false c.takes.ensures)
    (takes_is (word "field") c.takes.new.self c.takes-2.new.self c.takes-2.result true c.if-takes-2.true c.takes-2.ensures))
    c.in_err-field_item.ensures)

pub returns-then-takes-2 : goal.returns-then-takes-2
returns-then-takes-2 c =
    field_took c.args.tokens.now c.takes-2.new.self c.field_item.new.tokens (field_of c.in_ok-field_item.field-0)
    (takes_past (word "packet") (word "field") c.args.tokens.now c.takes.new.self c.takes-2.new.self true
    (takes_is (word "packet") c.args.tokens.now c.takes.new.self c.takes.result false c.if-takes.false c.takes.ensures)
    (takes_is (word "field") c.takes.new.self c.takes-2.new.self c.takes-2.result true c.if-takes-2.true c.takes-2.ensures))
    c.in_ok-field_item.ensures

pub returns-in_err-rule_item : goal.returns-in_err-rule_item
returns-in_err-rule_item c =
    let p = err_from_is_err_and c.from_residual-in_err-rule_item.result c.from_residual-in_err-rule_item.ensures.1 in
    rw (p.1, p.2)
    (rule_stops c.args.tokens.now c.takes-3.new.self c.in_err-rule_item.field-0.0
    (takes_past (word "field") (word "rule") c.args.tokens.now c.takes-2.new.self c.takes-3.new.self true
    (takes_past (word "packet") (word "field") c.args.tokens.now c.takes.new.self c.takes-2.new.self false
    (takes_is (word "packet") c.args.tokens.now c.takes.new.self c.takes.result false c.if-takes.false c.takes.ensures)
    (takes_is (word "field") c.takes.new.self c.takes-2.new.self c.takes-2.result false c.if-takes-2.false c.takes-2.ensures))
    (takes_is (word "rule") c.takes-2.new.self c.takes-3.new.self c.takes-3.result true c.if-takes-3.true c.takes-3.ensures))
    c.in_err-rule_item.ensures)

pub returns-then-takes-3 : goal.returns-then-takes-3
returns-then-takes-3 c =
    rule_first c.args.tokens.now c.takes-3.new.self c.rule_item.new.tokens (model.Rule (rule_of c.in_ok-rule_item.field-0))
    (takes_past (word "field") (word "rule") c.args.tokens.now c.takes-2.new.self c.takes-3.new.self true
    (takes_past (word "packet") (word "field") c.args.tokens.now c.takes.new.self c.takes-2.new.self false
    (takes_is (word "packet") c.args.tokens.now c.takes.new.self c.takes.result false c.if-takes.false c.takes.ensures)
    (takes_is (word "field") c.takes.new.self c.takes-2.new.self c.takes-2.result false c.if-takes-2.false c.takes-2.ensures))
    (takes_is (word "rule") c.takes-2.new.self c.takes-3.new.self c.takes-3.result true c.if-takes-3.true c.takes-3.ensures))
    c.in_ok-rule_item.ensures

pub returns : goal.returns
returns c =
    let first = (takes_is (word "packet") c.args.tokens.now c.takes.new.self c.takes.result false c.if-takes.false c.takes.ensures) in
    let two = (takes_past (word "packet") (word "field") c.args.tokens.now c.takes.new.self c.takes-2.new.self false
    (takes_is (word "packet") c.args.tokens.now c.takes.new.self c.takes.result false c.if-takes.false c.takes.ensures)
    (takes_is (word "field") c.takes.new.self c.takes-2.new.self c.takes-2.result false c.if-takes-2.false c.takes-2.ensures)) in
    let three = (takes_past (word "field") (word "rule") c.args.tokens.now c.takes-2.new.self c.takes-3.new.self false
    (takes_past (word "packet") (word "field") c.args.tokens.now c.takes.new.self c.takes-2.new.self false
    (takes_is (word "packet") c.args.tokens.now c.takes.new.self c.takes.result false c.if-takes.false c.takes.ensures)
    (takes_is (word "field") c.takes.new.self c.takes-2.new.self c.takes-2.result false c.if-takes-2.false c.takes-2.ensures))
    (takes_is (word "rule") c.takes-2.new.self c.takes-3.new.self c.takes-3.result false c.if-takes-3.false c.takes-3.ensures)) in
    subst (Refuses (StopsAt [] c.args.tokens.now)) (sym c.error_expecting.ensures)
    (subst (λ l. Refuses (StopsAt [] c.args.tokens.now) (Expected (place l) Item)) (sym three.0)
    (no_item c.args.tokens.now c.requires first.1 two.1 three.1))
