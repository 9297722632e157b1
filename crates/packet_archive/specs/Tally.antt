-- What an import counts and names. This project's own.
use Rattle.std.specs.Prelude.{ℕ, zero, suc, ◌+◌, ◌-◌, ◌%◌, ◌^◌, ◌==◌, Bool, false, not, ◌&&◌, ◌||◌, List, drop, is_some, length, min, nat_lt, replicate, slice_index_or, slice_set, Option, Some, None, if◌then◌else◌}
use Rattle.lc_model.specs.Packet.{count_end}
use Rattle.packet_archive.specs.declared.choice.Fate.{Fate}
use Rattle.packet_archive.specs.declared.choice.Fate.TheVariants.{Idle, Faulty}
use Rattle.packet_archive.specs.declared.front.ArchiveFront.{ArchiveFront}
use Rattle.packet_archive.specs.declared.front.ArchiveFront.TheVariants.{Gap, Stray}
use Rattle.packet_archive.specs.declared.clock.TimeBreak.{TimeBreak}
use Rattle.packet_archive.specs.declared.import.Met.{Met}
use Rattle.packet_archive.specs.declared.import.Met.TheVariants.{Taken, LeftOut, Stands}
use Rattle.packet_archive.specs.declared.tally.SkippedPart.{SkippedPart}
use Rattle.packet_archive.specs.declared.tally.Tally.{Tally}
use Rattle.packet_archive.specs.Choice.{idle_application, is_command_id}
use Rattle.packet_archive.specs.Clock.{Clocked}
use Rattle.packet_archive.specs.Import.{Asking, Step, next_step, passed}

-- a count increased by a number, up to 2^64 - 1
abbrev pub counted : ℕ → ℕ → ℕ
counted count more = min (count + more) (2 ^ 64 - 1)

-- how many packets with a fault are named, and how many breaks in time, gaps in sequence counts, and skipped parts
abbrev pub named : ℕ
named = 10

-- the number of application ids, of which each has sequence counts of its own (CCSDS 133.0-B)
abbrev pub applications : ℕ
applications = 2048

-- nothing was met
abbrev pub nothing_met : Tally
nothing_met = record {
  bytes = 0;
  taken = 0;
  idle = 0;
  other = 0;
  faulty = 0;
  first = replicate named None;
  breaks = 0;
  first_breaks = replicate named None;
  gaps = 0;
  first_gaps = replicate named None;
  counts = replicate applications None;
  zeros = 0;
  first_zero = None;
  skipped = 0;
  parts = 0;
  first_parts = replicate named None;
  last_part = None;
}

-- counts a packet with this fault, after `before` bytes of its marker; the first ten are named, each with the byte at which it begins
abbrev pub fault_noted : ℕ → ℕ → Tally → Tally
fault_noted before fault t = record t {
  first = if nat_lt t.faulty named then slice_set t.first t.faulty (Some (record { at = counted t.bytes before; fault = fault })) else t.first;
  faulty = counted t.faulty 1;
}

-- counts the break in time before a packet, if there is one, after `before` bytes of its marker; the first ten are named, each with the
-- byte at which the packet begins
abbrev pub break_noted : ℕ → Option TimeBreak → Tally → Tally
break_noted before None t = t
break_noted before (Some times) t = record t {
  first_breaks =
      if nat_lt t.breaks named then slice_set t.first_breaks t.breaks (Some (record { at = counted t.bytes before; is_first = t.taken == 0; times = times }))
      else t.first_breaks;
  breaks = counted t.breaks 1;
}

-- the sequence count of the last packet of this message id's application that was taken, if there is one
abbrev pub last_count : ℕ → Tally → Option ℕ
last_count mid t = slice_index_or t.counts (mid % applications) None

-- whether a sequence count is the next one after the last
abbrev pub is_next : ℕ → ℕ → Bool
is_next last count = count == (last + 1) % count_end

-- counts the gap before a packet, if its sequence count is not the next one; the first ten are named, each with the byte at which the
-- packet begins
abbrev pub gap_noted : ℕ → ℕ → ℕ → Option ℕ → Tally → Tally
gap_noted before mid count None t = t
gap_noted before mid count (Some last) t =
    if is_next last count then t
    else record t {
      first_gaps =
          if nat_lt t.gaps named then slice_set t.first_gaps t.gaps (Some (record { at = counted t.bytes before; mid = mid; last = last; count = count }))
          else t.first_gaps;
      gaps = counted t.gaps 1;
    }

-- notes a sequence count as the last one
abbrev pub count_noted : ℕ → ℕ → Tally → Tally
count_noted mid count t = record t { counts = slice_set t.counts (mid % applications) (Some count) }

-- whether sequence counts of a message id are looked at: those of telemetry that isn't idle. Commands have the counts of who sends them.
abbrev pub is_counted : ℕ → Bool
is_counted mid = not (is_command_id mid) && not (mid % 2048 == idle_application)

-- counts a packet's sequence count, with the gap before it
abbrev pub sequence_noted : ℕ → ℕ → ℕ → Tally → Tally
sequence_noted before mid count t = if is_counted mid then count_noted mid count (gap_noted before mid count (last_count mid t) t) else t

-- counts a packet that became a record
abbrev pub taken_noted : Tally → Tally
taken_noted t = record t { taken = counted t.taken 1; last_part = None }

-- counts a packet that is left out
abbrev pub left_out_noted : ℕ → Fate → Tally → Tally
left_out_noted before Idle t = record t { idle = counted t.idle 1 }
left_out_noted before (Faulty fault) t = fault_noted before fault t
left_out_noted before fate t = record t { other = counted t.other 1 }

-- the place of the first zero bytes
abbrev pub first_of : ℕ → Option ℕ → Option ℕ
first_of at None = Some at
first_of at (Some first) = Some first

-- counts zero bytes between packets
abbrev pub zeros_noted : ℕ → Tally → Tally
zeros_noted size t = record t { first_zero = first_of t.bytes t.first_zero; zeros = counted t.zeros size }

-- whether bytes at this place join the last skipped part, since it ends there
abbrev pub joins : ℕ → Option SkippedPart → Bool
joins at None = false
joins at (Some part) = counted part.at part.size == at

-- the skipped part with so many bytes from this place on
abbrev pub part_with : ℕ → ℕ → Option SkippedPart → SkippedPart
part_with at size None = record { at = at; size = size }
part_with at size (Some part) =
    if counted part.at part.size == at then record { at = part.at; size = counted part.size size } else record { at = at; size = size }

-- the number of skipped parts before the one with the bytes in front
abbrev pub parts_before : Tally → ℕ
parts_before t = if joins t.bytes t.last_part then t.parts - 1 else t.parts

-- counts bytes that are skipped: they join a part that ends before them, or begin one; the first ten parts are named
abbrev pub skipped_noted : ℕ → Tally → Tally
skipped_noted size t = record t {
  skipped = counted t.skipped size;
  parts = counted (parts_before t) 1;
  first_parts = if nat_lt (parts_before t) named then slice_set t.first_parts (parts_before t) (Some (part_with t.bytes size t.last_part)) else t.first_parts;
  last_part = Some (part_with t.bytes size t.last_part);
}

-- whether bytes were skipped behind the last packet
abbrev pub ends_skipped : Tally → Bool
ends_skipped t = is_some t.last_part

-- whether there is a warning: time breaks in the archive, or at its begin, or there is a gap in sequence counts
abbrev pub has_warning : Tally → Bool
has_warning t = nat_lt 0 t.breaks || nat_lt 0 t.gaps

-- counts a front that isn't a packet; zeros right behind skipped bytes are skipped, too
abbrev pub front_noted : ArchiveFront → Tally → Tally
front_noted (Gap size) t = if joins t.bytes t.last_part then skipped_noted size t else zeros_noted size t
front_noted Stray t = skipped_noted 1 t
front_noted front t = t

-- counts what was met, without its bytes
abbrev pub met_noted : Met → Tally → Tally
met_noted (Taken size before mid count time_break) t = taken_noted (sequence_noted before mid count (break_noted before time_break t))
met_noted (LeftOut size before fate) t = left_out_noted before fate (record t { last_part = None })
met_noted (Stands front) t = front_noted front t

-- counts passed bytes
abbrev pub bytes_noted : Option ℕ → Tally → Tally
bytes_noted None t = t
bytes_noted (Some size) t = record t { bytes = counted t.bytes size }

-- counts what was met, and its bytes
abbrev pub noted : Met → Tally → Tally
noted met t = bytes_noted (passed met) (met_noted met t)

-- ---- the whole import

-- the counts if a step has passed bytes and the import continues, or if it ends there
abbrev pub counted_on : (List ℕ → Tally → Tally) → List ℕ → Option ℕ → Tally → Tally
counted_on others bytes None t = t
counted_on others bytes (Some size) t = others (drop size bytes) t

-- the counts of a number of steps: each step is counted once, in order
unfoldable pub tallied_within : ℕ → Asking → Clocked → List ℕ → Tally → Tally
tallied_within zero asking clock bytes t = t
tallied_within (suc most) asking clock bytes t =
    let step : Step = next_step asking clock bytes in
    counted_on (tallied_within most asking step.clock) bytes (passed step.met) (noted step.met t)

-- what an import counts of an archive
abbrev pub tallied : Asking → Clocked → List ℕ → Tally → Tally
tallied asking clock bytes t = tallied_within (length bytes + 1) asking clock bytes t
