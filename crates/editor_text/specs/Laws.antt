-- The law of places. This project's own.
use Rattle.std.specs.Prelude.{◌≡◌, ℕ, ◌-◌, ◌^◌, ◌<◌, ◌≤◌, false, ◌&&◌, nat_lt, List, length, slice_index}
use Rattle.editor_text.specs.Place.{is_continuation, is_pair, offset_of, place_of}

-- the place of a character gives the character's first byte again
abbrev pub PlacesAgree : Type 0
PlacesAgree = (text : List ℕ) (at : ℕ) → length text < 2 ^ 31 → at ≤ length text → is_continuation (slice_index text at) ≡ false
    → (nat_lt 0 at && is_pair text (at - 1)) ≡ false → offset_of text (place_of text at) ≡ at
