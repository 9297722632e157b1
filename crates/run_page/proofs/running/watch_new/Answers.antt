use Rattle.run_page.proofs.Reading.{measured}
use Rattle.run_page.proofs.running.watch_new.Goals as goal

pub returns-clause-measured : goal.returns-clause-measured
returns-clause-measured g c =
    let watched = c.in_ok-ending.ensures.watched (record { read = c.new-3.ensures; looked = c.in_ok-account.ensures.account }) in
    measured (g.R.ByteSource.source c.args.reader.now).rest (g.R.ByteSource.source c.watch.new.reader).rest (g.R.ByteSource.source c.finish.new.reader).rest
    c.finish.new.self c.into_taken.result.bytes c.into_taken.result.digest watched.taken watched.consumes (c.in_ok-finish.ensures watched.taken watched.seen.read)
    c.into_taken.ensures.bytes c.into_taken.ensures.digest
