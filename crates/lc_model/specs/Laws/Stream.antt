-- Laws of streams.
use Rattle.std.specs.Prelude.{◌≡◌, ℕ, ◌+◌, List, ◌++◌, length}
use Rattle.lc_model.specs.Host.Stream.{StreamEntry, Whole, Record, NoRecord, front, records_by_front, records_numbered}

-- Law: the records of a stream are its next record and those of the rest, or its end.
abbrev pub FrontDecides : Type 0
FrontDecides = (kinds : List ℕ) (texts number : ℕ) (bytes : List ℕ) →
    records_numbered kinds texts number bytes ≡ records_by_front (records_numbered kinds texts (number + 1)) number (front kinds texts bytes)

-- A whole or a bad record at the start of some bytes is the same whatever bytes follow.
pub record FrontsStay (kinds : List ℕ) (texts : ℕ) (bytes more : List ℕ) : Type 0 where
  pub a_record : (entry : StreamEntry) (rest : List ℕ) → front kinds texts bytes ≡ Record entry rest → front kinds texts (bytes ++ more) ≡ Record entry (rest ++ more)
  pub none : front kinds texts bytes ≡ NoRecord → front kinds texts (bytes ++ more) ≡ NoRecord

-- Law: a whole or a bad record at the start of any bytes stays the same whatever bytes follow.
abbrev pub AllFrontsStay : Type 0
AllFrontsStay = (kinds : List ℕ) (texts : ℕ) (bytes more : List ℕ) → FrontsStay kinds texts bytes more

-- Law: if some bytes end after a whole record, the records of a longer stream are those of these bytes, and then those of the
-- bytes that follow.
abbrev pub RecordsGoOn : Type 0
RecordsGoOn = (kinds : List ℕ) (texts number : ℕ) (bytes more : List ℕ) → (records_numbered kinds texts number bytes).1 ≡ Whole →
    let entries : List StreamEntry = (records_numbered kinds texts number bytes).0 in
    let others = records_numbered kinds texts (number + length entries) more in
    records_numbered kinds texts number (bytes ++ more) ≡ (entries ++ others.0, others.1)
