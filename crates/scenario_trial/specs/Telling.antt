-- What is said of a rule that stands otherwise than expected. This project's own.
use Rattle.std.specs.Prelude.{ℕ, List, codes, Option, Some, None}
use Rattle.lc_model.specs.declared.mode.ApResult.{ApResult}
use Rattle.lc_model.specs.declared.mode.ApResult.TheVariants.{Pass, Fail, Stale, Error}

-- the words for its last result
abbrev pub result_word : Option ApResult → List ℕ
result_word None = codes "no result"
result_word (Some Pass) = codes "pass"
result_word (Some Fail) = codes "fail"
result_word (Some Stale) = codes "stale"
result_word (Some Error) = codes "error"
