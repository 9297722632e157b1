-- How a run ends whose output is known.
use Rattle.std.specs.Prelude.{◌≡◌, ℕ, ⊤, List, ◌++◌, Some}
use Rattle.lc_model.specs.Host.Outcome.{Devices, Ending, Complete, FailedToRead, FailedToWrite, NoMemory}

-- this many records, and this output with its size, after what was written before
module _ (count size : ℕ) (output : List ℕ) (d : Devices) (before : List ℕ) where
  -- exactly these bytes are written, and the result counts them
  pub record WritesIt (records bytes : ℕ) : Type 0 where
    pub gains : d.sink_after.gained ≡ Some (before ++ output)
    pub counted : (records ≡ count) × (bytes ≡ size)

  -- to its end; or a read or a write failed, or memory was lacking. It ends in no other way.
  abbrev pub EndsWell : Ending → Type 0
  EndsWell (Complete records bytes) = WritesIt records bytes
  EndsWell FailedToRead = ⊤
  EndsWell (FailedToWrite sent) = ⊤
  EndsWell NoMemory = ⊤
  EndsWell other = ⊥
