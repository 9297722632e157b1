-- What an import says of an archive, a line each. This project's own.
use Rattle.std.specs.Prelude.{ℕ, ◌-◌, ◌*◌, ◌/◌, ◌^◌, ◌==◌, Bool, true, false, List, [], ◌++◌, codes, decimal, flat_map, nat_lt, Option, Some, None, if◌then◌else◌}
use Rattle.std.specs.Fmt.{digits, format_spec, padded_integral}
use Rattle.lc_model.specs.declared.record.Moment.{Moment}
use Rattle.packet_archive.specs.declared.front.ArchiveFront.TheVariants.{Cut, Foreign, Unmarked}
use Rattle.packet_archive.specs.declared.import.Met.{Met}
use Rattle.packet_archive.specs.declared.import.Met.TheVariants.{Stands}
use Rattle.packet_archive.specs.declared.tally.Break.{Break}
use Rattle.packet_archive.specs.declared.tally.Faulty.{Faulty}
use Rattle.packet_archive.specs.declared.tally.SequenceGap.{SequenceGap}
use Rattle.packet_archive.specs.declared.tally.SkippedPart.{SkippedPart}
use Rattle.packet_archive.specs.declared.tally.Tally.{Tally}
use Rattle.packet_archive.specs.Choice.{is_command_id, meant_id}
use Rattle.packet_archive.specs.Clock.{is_before}
use Rattle.packet_archive.specs.Tally.{named}

-- what is wrong with a packet, by the number of its fault
abbrev pub fault_words : ℕ → List ℕ
fault_words fault =
    if fault == 1 then codes "it is shorter than its headers"
    else if fault == 2 then codes "it has another version than 0"
    else if fault == 3 then codes "it has no secondary header"
    else if fault == 4 then codes "it is a part of another packet"
    else if fault == 5 then codes "it has another length than its header says"
    else if fault == 6 then codes "it has over 2,048 bytes"
    else if fault == 7 then codes "its message id is the host's own"
    else codes "fault " ++ decimal fault

-- how many packets were taken, and how many were left out, for each reason
abbrev pub left_out_words : ℕ → ℕ → ℕ → List ℕ
left_out_words idle other faulty =
    decimal idle ++ codes " idle, " ++ decimal other ++ codes " not asked for, " ++ decimal faulty ++ codes " with a fault"

abbrev pub taken_line : List ℕ → ℕ → List ℕ → List ℕ
taken_line name taken left_out = name ++ codes ": " ++ decimal taken ++ codes " packets taken; left out: " ++ left_out ++ codes "\n"

-- one of the first packets with a fault: where it begins, and what is wrong with it
abbrev pub fault_line : List ℕ → Option Faulty → List ℕ
fault_line name None = []
fault_line name (Some f) = name ++ codes ": byte " ++ decimal f.at ++ codes ": a packet is left out: " ++ fault_words f.fault ++ codes "\n"

-- how many more have a fault than are named
abbrev pub more_line : List ℕ → ℕ → List ℕ
more_line name faulty = if nat_lt named faulty then name ++ codes ": and " ++ decimal (faulty - named) ++ codes " more\n" else []

-- a message id: four hexadecimal digits
abbrev pub id_text : ℕ → List ℕ
id_text mid = codes "0x" ++ padded_integral (format_spec 32 0 4 4 (2 ^ 64 - 1)) false [] (digits 16 true mid)

-- a moment: seconds, and the part of a second rounded down to five digits, so that moments that differ have different texts
abbrev pub moment_text : Moment → List ℕ
moment_text moment =
    decimal moment.seconds ++ (codes "." ++ padded_integral (format_spec 32 0 4 5 (2 ^ 64 - 1)) false [] (digits 10 false (moment.subseconds * 100000 / 65536)))

-- a break in time: how time goes, by whether it goes back and whether it does so at the first packet of an archive
abbrev pub break_words : Bool → Bool → List ℕ
break_words true true = codes "this archive begins before the end of the one before it: time steps back"
break_words true false = codes "time steps back"
break_words false is_first = codes "over 86,400 ticks would come before this packet: time leaps"

-- one of the first breaks in time: the byte of the packet after it, and both times
abbrev pub break_line : List ℕ → Option Break → List ℕ
break_line name None = []
break_line name (Some b) =
    name ++ codes ": byte " ++ decimal b.at ++ codes ": " ++ break_words (is_before b.times.to b.times.from) b.is_first
    ++ codes " from " ++ moment_text b.times.from ++ codes " to " ++ moment_text b.times.to ++ codes "\n"

-- how many more breaks in time there are than are named
abbrev pub more_breaks_line : List ℕ → ℕ → List ℕ
more_breaks_line name breaks =
    if nat_lt named breaks then name ++ codes ": and " ++ decimal (breaks - named) ++ codes " more such steps and leaps of time\n" else []

-- one of the first gaps in sequence counts: the byte of the packet after it, its message id, and both counts
abbrev pub gap_line : List ℕ → Option SequenceGap → List ℕ
gap_line name None = []
gap_line name (Some gap) =
    name ++ codes ": byte " ++ decimal gap.at ++ codes ": a gap in the sequence counts of " ++ id_text gap.mid
    ++ codes ": " ++ decimal gap.count ++ codes " comes after " ++ decimal gap.last ++ codes "\n"

-- how many more gaps in sequence counts there are than are named
abbrev pub more_gaps_line : List ℕ → ℕ → List ℕ
more_gaps_line name gaps =
    if nat_lt named gaps then name ++ codes ": and " ++ decimal (gaps - named) ++ codes " more gaps in sequence counts\n" else []

-- where sequence counts have gaps
abbrev pub gap_lines : List ℕ → Tally → List ℕ
gap_lines name t = flat_map (gap_line name) t.first_gaps ++ more_gaps_line name t.gaps

-- where time breaks
abbrev pub break_lines : List ℕ → Tally → List ℕ
break_lines name t = flat_map (break_line name) t.first_breaks ++ more_breaks_line name t.breaks

-- how packets come in order: where time breaks, and where sequence counts have gaps
abbrev pub order_lines : List ℕ → Tally → List ℕ
order_lines name t = break_lines name t ++ gap_lines name t

-- a part that was skipped: where it begins, and how many bytes it has
abbrev pub part_line : List ℕ → Option SkippedPart → List ℕ
part_line name None = []
part_line name (Some part) =
    name ++ codes ": byte " ++ decimal part.at ++ codes ": no plausible packet begins here; bytes skipped: " ++ decimal part.size ++ codes "\n"

-- how many more parts there are than are named, and all that was skipped
abbrev pub more_parts_line : List ℕ → ℕ → ℕ → List ℕ
more_parts_line name parts skipped =
    if nat_lt named parts then name ++ codes ": and " ++ decimal (parts - named) ++ codes " more such parts; bytes skipped in all: " ++ decimal skipped ++ codes "\n"
    else []

-- what was skipped
abbrev pub skipped_lines : List ℕ → Tally → List ℕ
skipped_lines name t = flat_map (part_line name) t.first_parts ++ more_parts_line name t.parts t.skipped

-- where the first zero byte between packets stands, and how many there are
abbrev pub zeros_line : List ℕ → Option ℕ → ℕ → List ℕ
zeros_line name None count = []
zeros_line name (Some at) count =
    name ++ codes ": byte " ++ decimal at ++ codes ": zeros where a packet would begin, " ++ decimal count ++ codes " in all\n"

-- why an archive ends early, if it does: after how many bytes, and how many are left
abbrev pub end_line : List ℕ → ℕ → ℕ → Met → List ℕ
end_line name at left (Stands Cut) =
    name ++ codes ": byte " ++ decimal at ++ codes ": the last packet is cut, " ++ decimal left ++ codes " bytes of it are there\n"
end_line name at left (Stands Foreign) =
    name ++ codes ": byte " ++ decimal at ++ codes ": no packet of version 0 begins here; what follows is not read\n"
end_line name at left (Stands Unmarked) =
    name ++ codes ": byte " ++ decimal at ++ codes ": no marker 1ACFFC1D stands here; what follows is not read\n"
end_line name at left met = []

-- what is said of packets: how many there were, the first with a fault, and how many more have one
abbrev pub packet_lines : List ℕ → Tally → List ℕ
packet_lines name t =
    taken_line name t.taken (left_out_words t.idle t.other t.faulty) ++ flat_map (fault_line name) t.first ++ more_line name t.faulty

-- the kind of packets of a message id
abbrev pub kind_word : ℕ → List ℕ
kind_word mid = if is_command_id mid then codes "command" else codes "telemetry"

-- a message id that was named, where another was probably meant
abbrev pub meant_by : ℕ → Option ℕ → List ℕ
meant_by mid None = []
meant_by mid (Some meant) = id_text mid ++ codes " is no " ++ kind_word mid ++ codes " id: did you mean " ++ id_text meant ++ codes "?\n"

abbrev pub meant_line : ℕ → List ℕ
meant_line mid = meant_by mid (meant_id mid)

-- no packet was taken, though only these message ids were asked for, or all
abbrev pub nothing_lines : List ℕ → List ℕ
nothing_lines only = codes "no packet was taken\n" ++ flat_map meant_line only

-- all that is said of an archive of this name, by what was counted, what stands behind it, and how many bytes are left there
abbrev pub report_lines : List ℕ → Tally → Met → ℕ → List ℕ
report_lines name t met left =
    packet_lines name t ++ (order_lines name t ++ (skipped_lines name t ++ (zeros_line name t.first_zero t.zeros ++ end_line name t.bytes left met)))
