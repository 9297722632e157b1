-- What `Records` hands out, in the words of the model.
use Rattle.std.specs.Prelude.{ℕ, ◌<◌, ◌≤◌, length, Option, option_map, ⊤}
use Rattle.lc_model.specs.Name.{name_size}
use Rattle.lc_model.specs.Host.Stream.{Contents}
use Rattle.lc_model.specs.Host.Stream as stream
use Rattle.lc_model.specs.declared.record.Body.{Body}
use Rattle.lc_model.specs.declared.record.Body.TheVariants as body
use Rattle.app_host.specs.Step.{IsNamed}
use Rattle.flight_core.specs.Answer.{Answer}
use Rattle.flight_core.specs.Answer as answer
use Rattle.flight_core.specs.declared.found.Found.{Found}
use Rattle.flight_core.specs.declared.found.Found.TheVariants.{Record, Half, Bad}

-- The contents of a record's body.
abbrev pub contents_in : Body → Contents
contents_in (body.Packet bytes) = stream.Packet bytes.now
contents_in body.Tick = stream.Tick
contents_in (body.File name bytes) = stream.File name.now bytes.now

-- The record or the bad record's number.
abbrev pub answer_of : Found → Answer
answer_of (Record entry) = answer.Entry (record { moment = entry.moment; contents = contents_in entry.body })
answer_of (Half moment name kind text) = answer.Entry (record { moment = moment; contents = stream.Half name.now kind text })
answer_of (Bad number) = answer.Bad number

-- The record or the bad record's number, if anything was found.
abbrev pub answer_in : Option Found → Option Answer
answer_in found = option_map answer_of found

-- A half names a text below the number of texts.
abbrev pub NamesText : ℕ → Found → Type 0
NamesText texts (Half moment name kind text) = text < texts
NamesText texts (Record entry) = ⊤
NamesText texts (Bad number) = ⊤

-- A file name has at most 40 bytes.
abbrev pub IsShortNamed : Found → Type 0
IsShortNamed (Record entry) = IsNamed entry.body
IsShortNamed (Half moment name kind text) = length name.now ≤ name_size
IsShortNamed (Bad number) = ⊤
