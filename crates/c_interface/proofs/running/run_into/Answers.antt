use Rattle.std.proofs.Common.{rules, ◌∙◌, ap, sym, refl, List, ℕ, length, take, drop, Some, false}
use Rattle.flight_core.specs.Compiled.{sources_of}
use Rattle.std.proofs.lemmas.List.{drop_at}
use Rattle.c_interface.proofs.Memory.{copied, in_memory}
use Rattle.c_interface.proofs.running.run_into.Goals as goal

pub returns-clause-run : goal.returns-clause-run
returns-clause-run g c =
    let w = c.launch-answer.result.1 in
    let r = c.launch-answer.new.reader in
    in_memory (sources_of c.args.texts.now) c.args.schedule.now c.args.stream.now _ _ c.launch-answer.result.0
    (record { rest = Some c.new-reader.result.left.now; reads = c.new-reader.result.reads; failed = false; retried = false })
    (record { rest = Some r.left.now; reads = r.reads; failed = false; retried = false })
    (record { gained = Some (take c.new-writer.result.taken c.new-writer.result.room.now); failed = c.new-writer.result.failed; retried = c.new-writer.result.retried })
    (record { gained = Some (take w.taken w.room.now); failed = w.failed; retried = w.retried })
    w.failed
    c.new-reader.ensures refl
    (λ fails. c.bytes-bytes.ensures.full fails ∙ search rules)
    (λ i. record { gained = Some (take (c.new-writer.ensures.taken i) c.new-writer.result.room.now); failed = c.new-writer.ensures.failed i; retried = c.new-writer.ensures.retried i })
    ((λ i. record {
      gained = Some (sym c.bytes-bytes.ensures.bytes i);
      failed = w.failed;
      retried = (c.launch-answer.ensures.promises.not_retried.writes ∙ c.new-writer.ensures.retried) i;
    })
    ∙ copied c.bytes-bytes.result.now c.copy_from_slice.new.self (drop (length c.bytes-bytes.result.now) c.args.output.now) w.failed (search rules))
    c.launch-answer.ensures.promises

pub returns-clause-behind : goal.returns-clause-behind
returns-clause-behind g c =
    drop_at c.copy_from_slice.new.self (drop (length c.bytes-bytes.result.now) c.args.output.now)
    (length c.bytes-bytes.result.now) (search rules)
