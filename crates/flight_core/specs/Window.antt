-- The buffer of unread bytes. This project's own.
use Rattle.std.specs.Prelude.{◌≡◌, ℕ, ◌+◌, ◌≤◌, List, []}
use Rattle.flight_core.specs.Records.{most_held}

-- The unread bytes, and the bytes taken last, which stand before them.
pub record Shown : Type 0 where
  pub last : List ℕ
  pub held : List ℕ

-- An empty buffer.
abbrev pub empty_window : Shown
empty_window = record { last = []; held = [] }

-- The capacity of the buffer: room for 73,739 unread bytes and 16,384 that were taken.
abbrev pub window_room : ℕ
window_room = 90123

-- The bytes taken last begin at `last`, the unread bytes at `start`, and they end at `end`; the buffer has `size` bytes and the
-- capacity that it was made with.
pub record IsWindow (last start end size capacity : ℕ) : Type 0 where
  pub ordered : last ≤ start
  pub inside : start ≤ end
  pub few : end ≤ start + most_held
  pub there : end ≤ size
  pub room : capacity ≡ window_room
