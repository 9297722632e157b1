-- The words for the kinds of images. This project's own.
use Rattle.std.specs.Prelude.{ℕ, List, codes, if◌then◌else◌, ◌==◌}

-- the word for the number of an image's kind
abbrev pub kind_word : ℕ → List ℕ
kind_word kind = if kind == 1 then codes "watchpoints" else if kind == 2 then codes "actionpoints" else codes "unknown"
