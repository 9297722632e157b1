-- What `run` promises about failed reads and writes, and about the bound of reads.
use Rattle.std.specs.Prelude.{◌≡◌, ℕ, ◌≤◌, List, ◌++◌, length, Some}
use Rattle.lc_model.specs.Host.Outcome.{Devices, Ending, FailedToWrite, ReachedTheBound}
use Rattle.lc_model.specs.Laws.Runs.{AreFailuresTold}

-- The writer, which had `before`, took exactly `sent` bytes more.
pub record TookThisMany (d : Devices) (before : List ℕ) (sent : ℕ) : Type 0 where
  pub output : List ℕ
  pub gains : d.sink_after.gained ≡ Some (before ++ output)
  pub count : length output ≡ sent

-- During the run no read came after a failed read, and no write after a failed write.
pub record TriesNoneAgain (d : Devices) : Type 0 where
  pub reads : d.source_after.retried ≡ d.source.retried
  pub writes : d.sink_after.retried ≡ d.sink.retried

-- 143 is returned exactly if a read failed, and 144 exactly if a write failed, with the number of bytes that the writer took.
-- 145 is returned only after `most` reads. The stream then has at least `most` bytes, since each read took at least one.
pub record TellsFailures (most : ℕ) (d : Devices) (ending : Ending) : Type 0 where
  pub told : AreFailuresTold d ending
  pub sent : (count : ℕ) (before : List ℕ) → ending ≡ FailedToWrite count → d.sink.gained ≡ Some before → TookThisMany d before count
  pub bound : ending ≡ ReachedTheBound → d.source_after.reads ≡ most
  pub not_ended : (stream : List ℕ) → ending ≡ ReachedTheBound → d.source.rest ≡ Some stream → most ≤ length stream
