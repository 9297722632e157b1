-- A field that goes from one value to another: `ramp FIELD FROM TO by STEP each SECONDS [tick]`. This project's own.
use Rattle.std.specs.Prelude.{ℕ, zero, suc, ◌+◌, ◌/◌, Bool, true, false, ◌&&◌, ◌==◌, List, [], ◌∷◌, ◌++◌, codes, bytes_eq, nat_lt, slice_get, Option, Some, None, Result, Ok, Err, ℤ, pos, ◌+ℤ◌, ◌-ℤ◌, int_le, unsigned_abs, if◌then◌else◌}
use Rattle.std.specs.Fmt.{decimal}
use Rattle.scenarios.specs.declared.error.Reason.{Reason}
use Rattle.scenarios.specs.declared.error.Reason.TheVariants.{BadNumber, NoRamp, TooLong, UnknownField}
use Rattle.scenarios.specs.declared.ramp.Ramp.{Ramp}
use Rattle.scenarios.specs.Error.{◌>>=◌}
use Rattle.scenarios.specs.Named.{NamedField}
use Rattle.scenarios.specs.Number.{number_in, value_in}
use Rattle.scenarios.specs.Said.{Said, field_place, lined, packet_place, with_packet, with_value}

-- ---- its words

-- whether there are ticks: the last word is `tick`
abbrev pub has_ticks : List (List ℕ) → Result Bool Reason
has_ticks [] = Ok false
has_ticks (word ∷ []) = if bytes_eq word (codes "tick") then Ok true else Err NoRamp
has_ticks words = Err NoRamp

-- `by STEP each SECONDS`
abbrev pub is_paced : List ℕ → List ℕ → Bool
is_paced by each = bytes_eq by (codes "by") && bytes_eq each (codes "each")

-- the field of a name
abbrev pub some_field : Option ℕ → Result ℕ Reason
some_field None = Err UnknownField
some_field (Some place) = Ok place

-- a step, which isn't 0
abbrev pub some_step : ℕ → Result ℕ Reason
some_step step = if step == 0 then Err BadNumber else Ok step

abbrev pub step_in : List ℕ → Result ℕ Reason
step_in word = number_in 4294967295 word >>= some_step

-- the ramp of these words
abbrev pub ramp_of : List NamedField → (name from to step seconds : List ℕ) → Bool → Result Ramp Reason
ramp_of fields name from to step seconds ticks = do
  field ← some_field (field_place name fields)
  s ← step_in step
  f ← value_in from
  t ← value_in to
  each ← number_in 4294967295 seconds
  Ok (record { field = field; from = f; to = t; step = s; each = each; has_ticks = ticks })

-- the ramp whose pace these words say
abbrev pub ramp_paced : List NamedField → (name from to : List ℕ) → List (List ℕ) → Result Ramp Reason
ramp_paced fields name from to (by ∷ step ∷ each ∷ seconds ∷ rest) =
    if is_paced by each then has_ticks rest >>= ramp_of fields name from to step seconds else Err NoRamp
ramp_paced fields name from to words = Err NoRamp

-- the ramp of the words after `ramp`
abbrev pub ramp_in : List NamedField → List (List ℕ) → Result Ramp Reason
ramp_in fields (name ∷ from ∷ to ∷ words) = ramp_paced fields name from to words
ramp_in fields words = Err NoRamp

-- ---- its lines

-- the number of values after the first, up to the end
abbrev pub values_behind : Ramp → ℕ
values_behind ramp = unsigned_abs (ramp.to -ℤ ramp.from) / ramp.step

-- the most values
abbrev pub most_values : ℕ
most_values = 100000

-- the value after a value, towards the end
abbrev pub next_value : Ramp → ℤ → ℤ
next_value ramp z = if int_le ramp.from ramp.to then z +ℤ pos ramp.step else z -ℤ pos ramp.step

-- the index of the packet of a field
abbrev pub packet_of_field : Said → Option NamedField → Option ℕ
packet_of_field said None = None
packet_of_field said (Some f) = packet_place f.packet said.packets

-- the next packet of a place, where there is one
abbrev pub some_packet : ℕ → Said → Option ℕ → Result Said Reason
some_packet n said None = Ok said
some_packet n said (Some place) = with_packet n place said

-- the packet of a field
abbrev pub packet_of : ℕ → ℕ → Said → Result Said Reason
packet_of n field said = some_packet n said (packet_of_field said (slice_get said.fields field))

-- a tick, if the ramp has ticks
abbrev pub ticked : ℕ → Bool → Said → Result Said Reason
ticked n false said = Ok said
ticked n true said = lined n (codes "tick") said

-- a value's packet, its tick, and the seconds that go by then
abbrev pub value_said : ℕ → Ramp → ℤ → Said → Result Said Reason
value_said n ramp z said = do
  there ← with_value ramp.field z said
  told ← packet_of n ramp.field there
  after ← ticked n ramp.has_ticks told
  lined n (codes "after " ++ decimal ramp.each) after

-- a number of values, from this one on
unfoldable pub values_said : ℕ → ℕ → Ramp → ℤ → Said → Result Said Reason
values_said zero n ramp z said = Ok said
values_said (suc count) n ramp z said = value_said n ramp z said >>= values_said count n ramp (next_value ramp z)

-- all its values, in order
abbrev pub ramp_said : ℕ → Ramp → Said → Result Said Reason
ramp_said n ramp said =
    if nat_lt (values_behind ramp) most_values then values_said (values_behind ramp + 1) n ramp ramp.from said else Err TooLong

-- `ramp FIELD FROM TO by STEP each SECONDS [tick]`
abbrev pub ramp_lines : ℕ → List (List ℕ) → Said → Result Said Reason
ramp_lines n words said = do
  ramp ← ramp_in said.fields words
  ramp_said n ramp said
