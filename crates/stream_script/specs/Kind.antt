-- The kinds of records: their numbers and words, and which bodies they may have. This project's own.
use Rattle.std.specs.Prelude.{◌≡◌, ℕ, Bool, true, ◌&&◌, ◌||◌, ◌==◌, List, length, slice_index, codes, bytes_eq, Option, Some, None, if◌then◌else◌}
use Rattle.lc_model.specs.Host.Stream.{all_kinds, fits_body}
use Rattle.stream_script.specs.declared.kind.RecordKind.{RecordKind}
use Rattle.stream_script.specs.declared.kind.RecordKind.TheVariants.{Packet, Tick, File, Half}

-- the number of a kind in a stream
abbrev pub kind_number : RecordKind → ℕ
kind_number Packet = 1
kind_number Tick = 2
kind_number File = 3
kind_number Half = 4

-- the kind with this number
abbrev pub kind_numbered : ℕ → Option RecordKind
kind_numbered number =
    if number == 1 then Some Packet else if number == 2 then Some Tick else if number == 3 then Some File
    else if number == 4 then Some Half else None

-- the word of a kind in a script
abbrev pub kind_word : RecordKind → List ℕ
kind_word Packet = codes "packet"
kind_word Tick = codes "tick"
kind_word File = codes "file"
kind_word Half = codes "half"

-- the kind that a word names
abbrev pub kind_in : List ℕ → Option RecordKind
kind_in word =
    if bytes_eq word (codes "packet") then Some Packet else if bytes_eq word (codes "tick") then Some Tick
    else if bytes_eq word (codes "file") then Some File else if bytes_eq word (codes "half") then Some Half else None

-- a record of this kind may have a body of so many bytes
abbrev pub fits_kind : RecordKind → ℕ → Type 0
fits_kind kind size = fits_body all_kinds (kind_number kind) size ≡ true

-- whether a body names a half of a rule text, where it has to
abbrev pub has_half : RecordKind → List ℕ → Bool
has_half Half body = slice_index body 40 == 1 || slice_index body 40 == 2
has_half kind body = true

-- whether a record of this kind may have this body
abbrev pub may_bring : RecordKind → List ℕ → Bool
may_bring kind body = fits_body all_kinds (kind_number kind) (length body) && has_half kind body
