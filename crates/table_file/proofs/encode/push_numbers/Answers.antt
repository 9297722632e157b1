use Rattle.std.proofs.Common.{◌≡◌, ◌++◌, subst}
use Rattle.lc_model.specs.Tables.Image.{TableEntry}
use Rattle.table_file.specs.Parts.{entry_numbers}
use Rattle.table_file.proofs.Appending.{numbers_written}
use Rattle.table_file.proofs.encode.push_numbers.Goals as goal

pub returns : goal.returns
returns c =
    let fields : TableEntry = record {
      mode = c.entry.inside.mode;
      report = c.entry.inside.report;
      sequence = c.entry.inside.sequence;
      fails = c.entry.inside.fails;
      event_kind = c.entry.inside.event_kind;
      event_id = c.entry.inside.event_id;
      text = c.entry.inside.text;
      words = c.entry.inside.words.items;
    } in
    subst (λ (e : TableEntry). c.push_u16-6.new.out.items ≡ c.args.out.now.items ++ entry_numbers e) c.entry.view_is
    (numbers_written fields c.code.result c.code-2.result c.args.out.now.items _ _ _ _ _ _ _ _
    c.code.ensures c.code-2.ensures
    c.in_ok-push.ensures.items c.in_ok-push-2.ensures.items c.in_ok-push_u16.ensures c.in_ok-push_u16-2.ensures
    c.in_ok-push_u16-3.ensures c.in_ok-push_u16-4.ensures c.in_ok-push_u16-5.ensures c.in_ok-push_u16-6.ensures)
