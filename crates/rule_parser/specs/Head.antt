-- Reading a packet, a field, and a rule up to its condition. This project's own.
use Rattle.std.specs.Prelude.{ℕ, List, Option, Ok}
use Rattle.lc_model.specs.declared.mode.ApMode.{ApMode}
use Rattle.lc_model.specs.declared.rule.EventKind.{EventKind}
use Rattle.lc_model.specs.Text.Token.{Token}
use Rattle.lc_model.specs.Text.Syntax as syntax
use Rattle.lc_model.specs.Text.Class as class
use Rattle.lc_model.specs.Text.Class.{word, sign, field_type, state, event_kind}
use Rattle.rule_parser.specs.Left.{Left, Reading, ◌>>=◌, token_in, name_in, number_in, string_in, value_in, labelled_in, option_in, report_in}

-- Reads a packet after the word `packet`.
unfoldable pub packet_in : Left → Reading syntax.PacketItem
packet_in left = do
  name ← name_in left
  equals ← token_in (sign "=") name.1
  mid ← labelled_in (word "mid") equals.1
  length ← labelled_in (word "length") mid.1
  end ← token_in (sign ";") length.1
  Ok (record { name = name.0; mid = mid.0; length = length.0 }, end.1)

-- Reads a field after the word `field`.
unfoldable pub field_in : Left → Reading syntax.FieldItem
field_in left = do
  name ← name_in left
  equals ← token_in (sign "=") name.1
  packet ← name_in equals.1
  kind ← value_in class.FieldKind field_type packet.1
  offset ← labelled_in (word "at") kind.1
  mask ← option_in (word "mask") offset.1
  stale ← option_in (word "stale") mask.1
  end ← token_in (sign ";") stale.1
  Ok (record { name = name.0; packet = packet.0; kind = kind.0; offset = offset.0; mask = mask.0; stale = stale.0 }, end.1)

-- The parts of a rule before its condition.
pub record Head : Type 0 where
  pub name : Token
  pub mode : ApMode
  pub fails : syntax.Number
  pub sequence : syntax.Number
  pub event_kind : EventKind
  pub event_id : syntax.Number
  pub text : List ℕ
  pub report : Option syntax.ReportItem

-- Reads a rule after the word `rule`, up to `when`.
unfoldable pub head_in : Left → Reading Head
head_in left = do
  name ← name_in left
  mode ← value_in class.State state name.1
  fails ← labelled_in (word "fails") mode.1
  sequence ← labelled_in (word "sequence") fails.1
  event ← token_in (word "event") sequence.1
  kind ← value_in class.Level event_kind event.1
  id ← number_in kind.1
  text ← string_in id.1
  report ← report_in text.1
  when ← token_in (word "when") report.1
  Ok (
    record {
      name = name.0;
      mode = mode.0;
      fails = fails.0;
      sequence = sequence.0;
      event_kind = kind.0;
      event_id = id.0;
      text = text.0;
      report = report.0;
    },
    when.1,
  )

-- The rule with this condition.
abbrev pub rule_with : Head → syntax.Expression → syntax.RuleItem
rule_with head condition = record {
  name = head.name;
  mode = head.mode;
  fails = head.fails;
  sequence = head.sequence;
  event_kind = head.event_kind;
  event_id = head.event_id;
  text = head.text;
  report = head.report;
  condition = condition;
}
