-- After which records other tables may be in force, and the run's text in force. This project's own.
use Rattle.std.specs.Prelude.{ℕ, ◌/◌, ◌%◌, ◌==◌, ◌&&◌, not, Bool, true, false, List, drop, get_or, length, nat_le, nat_lt, Option, None, if◌then◌else◌}
use Rattle.lc_model.specs.Events.Outgoing.{housekeeping_size}
use Rattle.lc_model.specs.Host.Stream.{header_size}
use Rattle.lc_model.specs.Packet.{command_header_size, lc_housekeeping_mid, message_id, sample_mid}
use Rattle.run_account.specs.Clock.{is_tick}
use Rattle.run_account.specs.declared.force.KnownText.{KnownText}

-- a packet that is a command, but no request for a sample
abbrev pub is_order : List ℕ → Bool
is_order packet = nat_le command_header_size (length packet) && (message_id packet / 4096 % 2 == 1 && not (message_id packet == sample_mid))

-- a record after which other tables may be in force, or other types of events on: it brings such a command, a file or a half of a rule
-- text, or a tick that led to packets
abbrev pub may_change : (bytes written : List ℕ) → Bool
may_change bytes written =
    if nat_lt (length bytes) header_size then false
    else if get_or bytes 0 0 == 1 then is_order (drop header_size bytes)
    else if get_or bytes 0 0 == 2 then nat_lt 0 (length written)
    else true

-- before the first record nothing runs, and the first tick may bring something into force
abbrev pub first_text : KnownText
first_text = record { number = None; is_settled = false }

-- a record was a tick that led to the Limit Checker's housekeeping alone: it has then taken what it could
abbrev pub is_settling : (bytes written : List ℕ) → Bool
is_settling bytes written = is_tick bytes && (length written == housekeeping_size && message_id written == lc_housekeeping_mid)

-- after a record the text in force is asked for, if it may have changed: not at a tick, if nothing waits for one
abbrev pub is_asked : KnownText → (bytes written : List ℕ) → Bool
is_asked known bytes written = may_change bytes written && not (known.is_settled && is_tick bytes)

-- after a record: the text in force now, if it is asked for, else the one known before
abbrev pub text_after : KnownText → (bytes written : List ℕ) → (now : Option ℕ) → KnownText
text_after known bytes written now = if is_asked known bytes written then record { number = now; is_settled = is_settling bytes written } else known
