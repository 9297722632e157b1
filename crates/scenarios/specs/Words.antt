-- The words of a scenario's lines. This project's own.
use Rattle.std.specs.Prelude.{ℕ, Bool, false, ◌||◌, ◌==◌, List, [], ◌∷◌, ◌++◌, codes, bytes_eq, if◌then◌else◌}
use Rattle.lc_model.specs.Host.ScheduleText.{words_of}

-- a word that begins with `#` begins a comment
abbrev pub is_comment : List ℕ → Bool
is_comment [] = false
is_comment (byte ∷ bytes) = byte == 35

-- the words in front of a comment
abbrev pub before_comment : List (List ℕ) → List (List ℕ)
before_comment [] = []
before_comment (word ∷ words) = if is_comment word then [] else word ∷ before_comment words

-- the words of a line that say something
abbrev pub words_in : List ℕ → List (List ℕ)
words_in line = before_comment (words_of line)

-- ---- the words that begin lines of a plain script, or an expectation: what these say stays as it is, whatever is declared

-- moments, and what comes at them
abbrev pub is_record_word : List ℕ → Bool
is_record_word word =
    bytes_eq word (codes "at") || bytes_eq word (codes "after") || bytes_eq word (codes "fields") || bytes_eq word (codes "telemetry")
    || bytes_eq word (codes "command") || bytes_eq word (codes "packet") || bytes_eq word (codes "record")

-- what the Limit Checker is asked for
abbrev pub is_request_word : List ℕ → Bool
is_request_word word =
    bytes_eq word (codes "tick") || bytes_eq word (codes "sample") || bytes_eq word (codes "housekeeping") || bytes_eq word (codes "expect")

-- orders to the executive services
abbrev pub is_app_word : List ℕ → Bool
is_app_word word =
    bytes_eq word (codes "start") || bytes_eq word (codes "stop") || bytes_eq word (codes "restart") || bytes_eq word (codes "reload")

-- orders to the table services, and files
abbrev pub is_table_word : List ℕ → Bool
is_table_word word =
    bytes_eq word (codes "load") || bytes_eq word (codes "validate") || bytes_eq word (codes "activate") || bytes_eq word (codes "abort")
    || bytes_eq word (codes "wdt") || bytes_eq word (codes "adt") || bytes_eq word (codes "file")

-- whether a line that begins with this word is one of a plain script
abbrev pub is_plain : List ℕ → Bool
is_plain word = is_record_word word || is_request_word word || is_app_word word || is_table_word word

-- ---- a line as it stands

-- words after another
abbrev pub words_behind : List (List ℕ) → List ℕ
words_behind [] = []
words_behind (word ∷ words) = codes " " ++ word ++ words_behind words
