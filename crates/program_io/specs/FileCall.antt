-- Calls on files, each with the file's name and with what came of it. This project's own.
use Rattle.std.specs.Prelude.{ℕ, Bool, false, List, [], ◌∷◌, ◌++◌, map, Option, Some, None, option_map, Result, Ok, Err}
use Rattle.lc_model.specs.Device.{Source, Sink}

-- nothing came of a call that failed
pub data FileCall : Type 0 where
  -- the first bytes of a file were read
  Reads : (name : List ℕ) (bytes : Option (List ℕ)) → FileCall
  -- a file was opened, and gives its bytes as this source
  Opens : (name : List ℕ) (source : Option Source) → FileCall
  -- two names were compared: whether they are of one file
  Compares : (first second : List ℕ) (is_one : Bool) → FileCall
  -- a file was made, and takes bytes as this sink
  Makes : (name : List ℕ) (sink : Option Sink) → FileCall
  -- the file that was made last was closed as this sink: whether its old bytes are gone
  Closes : (sink : Sink) (is_done : Bool) → FileCall
  -- the file that was made last was closed as this sink, and was left as it is
  Leaves : (sink : Sink) → FileCall
  -- a file was made of these bytes: whether it was
  Writes : (name bytes : List ℕ) (is_done : Bool) → FileCall

-- what came of a call
abbrev pub given_by : {A B E : Type 0} → (A → B) → Result A E → Option B
given_by view (Ok value) = Some (view value)
given_by view (Err fault) = None

-- calls that are known, and these after them
abbrev pub followed_by : Option (List FileCall) → List FileCall → Option (List FileCall)
followed_by before calls = option_map (λ known. known ++ calls) before

-- a sink of which nothing is known
abbrev pub unknown_sink : Sink
unknown_sink = record { gained = None; failed = false; retried = false }

-- a call without what came of it
abbrev pub asked : FileCall → FileCall
asked (Reads name bytes) = Reads name None
asked (Opens name source) = Opens name None
asked (Compares first second is_one) = Compares first second false
asked (Makes name sink) = Makes name None
asked (Closes sink is_done) = Closes unknown_sink false
asked (Leaves sink) = Leaves unknown_sink
asked (Writes name bytes is_done) = Writes name [] false

-- ---- some calls in a row

-- a name was compared with each of these, and is of none of their files
abbrev pub all_apart : List ℕ → List (List ℕ) → List FileCall
all_apart name others = map (λ other. Compares name other false) others

-- files were read, which have these texts
unfoldable pub all_read : (names texts : List (List ℕ)) → List FileCall
all_read [] texts = []
all_read (name ∷ names) [] = []
all_read (name ∷ names) (text ∷ texts) = Reads name (Some text) ∷ all_read names texts
