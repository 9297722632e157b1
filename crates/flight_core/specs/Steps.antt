-- What holds of a run with any applications in stock: each record is one step of the host, and each ending has its cause.
use Rattle.std.specs.Prelude.{◌≡◌, ◌⊎◌, ℕ, List, [], ◌∷◌, ◌++◌, length, take, Some, ⊤}
use Rattle.std.specs.List.{concat}
use Rattle.std.specs.Io.KnownBytes.{Consumes}
use Rattle.lc_model.specs.declared.record.Record.{Record as Given}
use Rattle.lc_model.specs.Tables.Interpretation.{FileMeanings}
use Rattle.lc_model.specs.Host.Run.{input_of}
use Rattle.lc_model.specs.Host.Stream.{StreamEntry, records_of}
use Rattle.lc_model.specs.Host.Outcome.{Devices, Ending, Uncompiled, FailedToWrite, NoMemory, IsOutcome}
use Rattle.lc_model.specs.Host.Promise.{Mission}
use Rattle.lc_model.specs.Kept.Executive.{Member}
use Rattle.lc_model.specs.Kept.Stations.{first_host, host_after, host_step}
use Rattle.rpn_compiler.specs.declared.files.TablePair.{TablePair}
use Rattle.app_host.specs.Hosted.{Hosted, in_numbers}
use Rattle.app_host.specs.Shared.{on_board}
use Rattle.app_host.specs.Party.{AreKnownIn}
use Rattle.app_host.specs.Step.{input_by, IsBetween, party_of}
use Rattle.app_host.specs.Response.{response_to, asked_by_host, RespondsWhole, RespondsPart}
use Rattle.flight_core.specs.Brought.{meanings_of}
use Rattle.flight_core.specs.Compiled.{AreAllCompiled}

-- ---- one record

-- The host `old` handles record `entry` in one step, becomes `new` and writes `part`. If the applications that may take part are
-- of this profile, `new` is exactly what the model gives.
pub record IsOneStep (meanings : FileMeanings (List ℕ)) (entry : StreamEntry) (old new : Hosted) (part : List ℕ) : Type 0 where
  pub given : Given
  pub moment : given.moment ≡ entry.moment
  pub brings : input_by given.body ≡ input_of meanings entry.contents
  pub responds : RespondsWhole given.moment (response_to given.body old) old new (Some []) (Some part)
  pub between : IsBetween new
  pub exact : AreKnownIn (party_of (input_by given.body)) old → in_numbers new ≡ host_after on_board given.moment (in_numbers old) (input_by given.body)

-- One step in which a write fails: only the first `sent` bytes of `part` are written. If the applications that may take part are of
-- this profile, the host is the model's at that write, which is closed.
pub record IsCutStep (meanings : FileMeanings (List ℕ)) (entry : StreamEntry) (sent : ℕ) (old new : Hosted) (part : List ℕ) : Type 0 where
  pub given : Given
  pub moment : given.moment ≡ entry.moment
  pub brings : input_by given.body ≡ input_of meanings entry.contents
  pub responds : RespondsPart given.moment (response_to given.body old) sent old new (Some []) (Some (take sent part))
  pub between : IsBetween new
  pub exact : AreKnownIn (party_of (input_by given.body)) old → host_step on_board given.moment sent (in_numbers old) (input_by given.body) ≡ (in_numbers new, Some sent)
  pub all : part ≡ responds.called.theirs ++ (asked_by_host given.moment (response_to given.body old).request responds.called.behind).1

-- ---- one record after the other

-- The host handles these records one by one; `parts` are the bytes written for each.
unfoldable pub AreSteps : FileMeanings (List ℕ) → List StreamEntry → List (List ℕ) → Hosted → Hosted → Type 0
AreSteps meanings [] [] first now = now ≡ first
AreSteps meanings (entry ∷ entries) (part ∷ parts) first now = (mid : Hosted) × IsOneStep meanings entry first mid part × AreSteps meanings entries parts mid now
AreSteps meanings [] (part ∷ parts) first now = ⊥
AreSteps meanings (entry ∷ entries) [] first now = ⊥

-- A write fails while the host `now` handles the next record, and the host is `new` then; `part` is what that record would have
-- written.
pub record IsCutBehind (meanings : FileMeanings (List ℕ)) (now new : Hosted) (others : List StreamEntry) (part : List ℕ) : Type 0 where
  pub entry : StreamEntry
  pub rest : List StreamEntry
  pub next : others ≡ entry ∷ rest
  pub sent : ℕ
  pub step : IsCutStep meanings entry sent now new part

-- ---- a run

-- Unless a write failed, no record is left.
abbrev pub AreNoneLeft : Ending → List StreamEntry → Type 0
AreNoneLeft (FailedToWrite sent) others = ⊤
AreNoneLeft other others = others ≡ []

-- The run's ending has its cause. Of the bytes `come` that were read, the host handled the records `entries` one by one; these
-- are all records, unless a write failed. The output is `parts`, then `part` of the record in which a write failed; `IsOutcome`
-- holds for it. The last record leaves the host as `end`.
pub record IsForItsReason (texts : ℕ) (meanings : FileMeanings (List ℕ)) (first end : Hosted) (most : ℕ) (d : Devices) (ending : Ending) : Type 0 where
  pub come : List ℕ
  pub took : Consumes d.source.rest d.source_after.rest come
  pub entries : List StreamEntry
  pub others : List StreamEntry
  pub records : (records_of texts come).0 ≡ entries ++ others
  pub handled : AreNoneLeft ending others
  pub parts : List (List ℕ)
  pub now : Hosted
  pub steps : AreSteps meanings entries parts first now
  pub part : List ℕ
  pub last : ((part ≡ []) × (end ≡ now)) ⊎ IsCutBehind meanings now end others part
  pub outcome : IsOutcome (records_of texts) (λ all. concat parts ++ part) most d ending

-- The run's ending has its cause, for a host that began with these members in stock and nothing running. `IsClosed` holds of the
-- host that the last record left.
pub record IsRunForItsReason (IsClosed : Hosted → Type 0) (pairs : List TablePair) (members : List Member) (most : ℕ) (d : Devices) (ending : Ending) : Type 0 where
  pub first : Hosted
  pub begins : in_numbers first ≡ first_host members
  pub end : Hosted
  pub reason : IsForItsReason (length pairs) (meanings_of pairs) first end most d ending
  pub closed : IsClosed end

-- `IsRunForItsReason`, unless a text was refused or there was no memory; those endings claim nothing here.
abbrev pub RunsForItsReason : (Hosted → Type 0) → List TablePair → List Member → ℕ → Devices → Ending → Type 0
RunsForItsReason IsClosed pairs members most d (Uncompiled text refusal) = ⊤
RunsForItsReason IsClosed pairs members most d NoMemory = ⊤
RunsForItsReason IsClosed pairs members most d ending = IsRunForItsReason IsClosed pairs members most d ending

-- The run's ending has its cause, for the compiled texts of the mission and a stock of which `AreInStock` holds. `IsClosed` holds
-- of the host that the last record left.
pub record IsAnsweredForItsReason (AreInStock : List Member → Type 0) (IsClosed : Hosted → Type 0) (m : Mission) (d : Devices) (ending : Ending) : Type 0 where
  pub pairs : List TablePair
  pub compiled : AreAllCompiled m.sources pairs
  pub members : List Member
  pub stock : AreInStock members
  pub run : IsRunForItsReason IsClosed pairs members m.most_reads d ending

-- `IsAnsweredForItsReason`, unless a text was refused or there was no memory; those endings claim nothing here.
abbrev pub AnswersForItsReason : (List Member → Type 0) → (Hosted → Type 0) → Mission → Devices → Ending → Type 0
AnswersForItsReason AreInStock IsClosed m d (Uncompiled text refusal) = ⊤
AnswersForItsReason AreInStock IsClosed m d NoMemory = ⊤
AnswersForItsReason AreInStock IsClosed m d ending = IsAnsweredForItsReason AreInStock IsClosed m d ending
