-- A host goes through the records of a stream that comes in pieces, and an observer sees them.
use Rattle.std.proofs.Common.{◌≡◌, ℕ, ◌+◌, List, [], ◌∷◌, ◌++◌, length, map, refl, ap, sym, ◌∙◌, subst, Ok}
use Rattle.std.proofs.lemmas.List.{append_assoc, append-nil, length-map, map-append}
use Rattle.lc_model.specs.Host.Stream.{StreamEntry, End, Bad, Truncated, Record, all_kinds, front, records_of}
use Rattle.lc_model.specs.Host.Stream as stream
use Rattle.flight_core.specs.Cutting.{Begins, Comes, EndsBadly, EndsCut, EndsWhole, Goes, IsHandedOut}
use Rattle.flight_core.specs.Feeding.{Feeding, fed_with}
use Rattle.flight_core.specs.Front.{part_of}
use Rattle.flight_core.specs.Records.{Held}
use Rattle.run_stepper.specs.Stepping.{HandlesRecord, HasHandled, HasStepped, MeetsNoRecord, Waits, holding_none, one_record}
use Rattle.run_stepper.specs.Steps.{Step, Went, bytes_of}
use Rattle.run_stepper.specs.Trace.{ending_by}
use Rattle.run_stepper.specs.declared.ending.Ending.{Ending}
use Rattle.run_stepper.specs.declared.ending.Ending.TheVariants as ended
use Rattle.run_stepper.specs.declared.handled.Handled.TheVariants as handled
use Rattle.run_stepper.specs.Watching.{GoesThrough, IsFed, IsNew, ending_at, without_bytes}

-- what is known of bytes that come and records that are handed out
pub record Laws : Type 0 where
  pub begins : Begins
  pub comes : Comes
  pub goes : Goes
  pub bad : EndsBadly
  pub whole : EndsWhole
  pub cut : EndsCut

pub laws_of : Begins → Comes → Goes → EndsBadly → EndsWhole → EndsCut → Laws
laws_of begins comes goes bad whole cut = record { begins = begins; comes = comes; goes = goes; bad = bad; whole = whole; cut = cut }

-- the host goes through one record more
went_more : (first old new : Feeding) (steps : List Step) (bytes written : List ℕ) → Went first steps old → HasStepped bytes old new written (Ok handled.Whole) →
    Went first (steps ++ record { bytes = bytes; host = new; written = written } ∷ []) new
went_more first old new [] bytes written went stepped =
    (subst (λ host. HasStepped bytes host new written (Ok handled.Whole)) (sym went) stepped, refl)
went_more first old new (step ∷ steps) bytes written went stepped = (went.0, went_more step.host old new steps bytes written went.1 stepped)

bytes_more : (steps : List Step) (step : Step) → bytes_of (steps ++ step ∷ []) ≡ bytes_of steps ++ (step.bytes ++ [])
bytes_more [] step = refl
bytes_more (one ∷ steps) step = ap (λ more. one.bytes ++ more) (bytes_more steps step) ∙ sym (append_assoc one.bytes (bytes_of steps) (step.bytes ++ []))

joined_bytes : (ahead bytes behind : List ℕ) → (ahead ++ (bytes ++ [])) ++ behind ≡ ahead ++ (bytes ++ behind)
joined_bytes ahead bytes behind =
    ap (λ more. (ahead ++ more) ++ behind) (append-nil bytes) ∙ append_assoc ahead bytes behind

-- a host that holds none of its stream, and is so but for that
pub record IsBare (bare now : Feeding) : Type 0 where
  pub none : bare.held.bytes ≡ []
  pub same : without_bytes bare ≡ without_bytes now

-- these bytes came to a host that was so at first; it handled these records, and holds the rest
pub record SoFar (first now : Feeding) (taken : List ℕ) (steps : List Step) : Type 0 where
  pub bare : Feeding
  pub is_bare : IsBare bare now
  pub of_texts : now.held.texts ≡ length first.files
  pub went : Went first steps bare
  pub bytes : bytes_of steps ++ now.held.bytes ≡ taken
  pub entries : List StreamEntry
  pub handed : IsHandedOut (length first.files) taken entries now.held.bytes
  pub each : map (λ (step : Step). records_of (length first.files) step.bytes) steps ≡ map one_record entries

pub nothing_so_far : Laws → (first : Feeding) → IsNew first → SoFar first first [] []
nothing_so_far laws first new =
    let none : first.held.bytes ≡ [] = ap (λ (held : Held). held.bytes) new.held in
    record {
      bare = first;
      is_bare = record { none = none; same = refl };
      of_texts = ap (λ (held : Held). held.texts) new.held;
      went = refl;
      bytes = none;
      entries = [];
      handed = subst (λ (bytes : List ℕ). IsHandedOut (length first.files) [] [] bytes) (sym none) (laws.begins (length first.files));
      each = refl;
    }

-- bytes come
pub bytes_come : Laws → (first old now : Feeding) (taken more : List ℕ) (steps : List Step) → SoFar first old taken steps → IsFed more old now → SoFar first now (taken ++ more) steps
bytes_come laws first old now taken more steps so fed = record {
  bare = so.bare;
  is_bare = record { none = so.is_bare.none; same = so.is_bare.same ∙ sym fed.same };
  of_texts = ap (λ (it : Feeding). it.held.texts) fed.same ∙ so.of_texts;
  went = so.went;
  bytes = ap (λ held. bytes_of steps ++ held) fed.holds ∙ sym (append_assoc (bytes_of steps) old.held.bytes more) ∙ ap (λ ahead. ahead ++ more) so.bytes;
  entries = so.entries;
  handed = subst (IsHandedOut (length first.files) (taken ++ more) so.entries) (sym fed.holds) (laws.comes (length first.files) taken so.entries old.held.bytes more so.handed);
  each = so.each;
}

-- what is taken alone is taken alike by a host that is the same but for what it holds
same_fed : (bytes : List ℕ) (bare now : Feeding) → IsBare bare now → fed_with bytes (holding_none now) ≡ fed_with bytes bare
same_fed bytes bare now is =
    ap (fed_with bytes) (sym is.same)
    ∙ (λ i. fed_with bytes (record bare { held = record bare.held { bytes = sym is.none i; last = [] } }))

module _ (laws : Laws) (first host last : Feeding) (taken : List ℕ) (steps : List Step) (written : List ℕ) (so : SoFar first host taken steps) where
  -- what was in front was taken alone
  stepped : HasStepped last.held.last (holding_none host) (holding_none last) written (Ok handled.Whole) → HasStepped last.held.last so.bare (holding_none last) written (Ok handled.Whole)
  stepped alone = subst (λ it. HasHandled it (holding_none last) written (Ok handled.Whole)) (same_fed last.held.last so.bare host so.is_bare) alone

  -- a record goes
  pub record_goes : HandlesRecord host last written → SoFar first last taken (steps ++ record { bytes = last.held.last; host = holding_none last; written = written } ∷ [])
  record_goes handles =
      let step : Step = record { bytes = last.held.last; host = holding_none last; written = written } in
      let here : front all_kinds (length first.files) host.held.bytes ≡ Record handles.entry last.held.bytes = ap (λ n. front all_kinds n host.held.bytes) (sym so.of_texts) ∙ handles.front in
      let own : records_of (length first.files) last.held.last ≡ one_record handles.entry = ap (λ n. records_of n last.held.last) (sym so.of_texts) ∙ handles.own in
      record {
        bare = holding_none last;
        is_bare = record { none = refl; same = refl };
        of_texts = handles.texts ∙ so.of_texts;
        went = went_more first so.bare (holding_none last) steps last.held.last written so.went (stepped handles.alone);
        bytes =
            ap (λ ahead. ahead ++ last.held.bytes) (bytes_more steps step)
            ∙ joined_bytes (bytes_of steps) last.held.last last.held.bytes
            ∙ ap (λ more. bytes_of steps ++ more) (sym handles.parts)
            ∙ so.bytes;
        entries = so.entries ++ handles.entry ∷ [];
        handed = laws.goes (length first.files) taken so.entries host.held.bytes handles.entry last.held.bytes so.handed here;
        each =
            map-append (λ (step : Step). records_of (length first.files) step.bytes) steps (step ∷ [])
            ∙ (λ i. so.each i ++ own i ∷ [])
            ∙ sym (map-append one_record so.entries (handles.entry ∷ []));
      }

  -- ---- how it ends

  as_many : length so.entries ≡ length steps
  as_many = sym (length-map so.entries one_record) ∙ ap length (sym so.each) ∙ length-map steps (λ (step : Step). records_of (length first.files) step.bytes)

  -- it goes through all of what was taken and what follows, whose records are these
  through : (more : List ℕ) (e : End) (ending : Ending) → records_of (length first.files) (taken ++ more) ≡ (so.entries, e) → ending ≡ ending_by (length steps) e →
      GoesThrough first (taken ++ more) steps ending
  through more e ending all ends = record {
    last = so.bare;
    rest = host.held.bytes ++ more;
    went = so.went;
    bytes = sym (append_assoc (bytes_of steps) host.held.bytes more) ∙ ap (λ ahead. ahead ++ more) so.bytes;
    are_records = record {
      each = so.each ∙ ap (λ (r : List StreamEntry × End). map one_record r.0) (sym all);
      ends = ends ∙ ap (λ (r : List StreamEntry × End). ending_by (length steps) r.1) (sym all);
    };
  }

  -- at what is no record, whatever follows
  pub ends_badly : MeetsNoRecord host written → (more : List ℕ) → GoesThrough first (taken ++ more) steps (ended.NoRecord (length steps + 1))
  ends_badly meets more =
      through more (Bad (length so.entries + 1)) (ended.NoRecord (length steps + 1))
      (laws.bad (length first.files) taken so.entries host.held.bytes more so.handed (ap (λ n. front all_kinds n host.held.bytes) (sym so.of_texts) ∙ meets.front))
      (ap (λ count. ended.NoRecord (count + 1)) (sym as_many))

  -- where nothing follows
  at_end : (e : End) → records_of (length first.files) taken ≡ (so.entries, e) → (more : List ℕ) → more ≡ [] → records_of (length first.files) (taken ++ more) ≡ (so.entries, e)
  at_end e all more none = (λ i. records_of (length first.files) (taken ++ none i)) ∙ ap (records_of (length first.files)) (append-nil taken) ∙ all

  by_left : (bytes : List ℕ) → front all_kinds (length first.files) host.held.bytes ≡ part_of bytes → (more : List ℕ) → more ≡ [] →
      GoesThrough first (taken ++ more) steps (ending_at bytes (length steps))
  by_left [] here more none =
      through more stream.Whole (ended.Whole (length steps)) (at_end stream.Whole (laws.whole (length first.files) taken so.entries host.held.bytes so.handed here) more none) refl
  by_left (byte ∷ bytes) here more none =
      through more (Truncated (length so.entries + 1)) (ended.Cut (length steps + 1))
      (at_end (Truncated (length so.entries + 1)) (laws.cut (length first.files) taken so.entries host.held.bytes so.handed here) more none)
      (ap (λ count. ended.Cut (count + 1)) (sym as_many))

  pub ends_there : Waits host last written → (more : List ℕ) → more ≡ [] → GoesThrough first (taken ++ more) steps (ending_at host.held.bytes (length steps))
  ends_there waits more none = by_left host.held.bytes (ap (λ n. front all_kinds n host.held.bytes) (sym so.of_texts) ∙ waits.front) more none
