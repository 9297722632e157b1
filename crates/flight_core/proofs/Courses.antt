-- A run between two steps, and how it ends.
use Rattle.std.proofs.Common.{◌≡◌, refl, sym, ◌∙◌, ap, subst, ℕ, ◌+◌, ◌*◌, ◌<◌, ◌≤◌, false, List, [], ◌∷◌, ◌++◌, length, take, Option, arith, append_assoc, append-nil, length-append}
use Rattle.std.specs.List.{concat}
use Rattle.std.specs.Io.KnownBytes.{Appends, Consumes}
use Rattle.std.proofs.KnownBytes.{Appends-nil, Appends-trans, Consumes-nil, Consumes-trans}
use Rattle.std.proofs.lemmas.List.{take-append-le}
use Rattle.std.proofs.lemmas.List.Folds.{concat-append}
use Rattle.std.proofs.Math.Seq.{take-append-add}
use Rattle.lc_model.specs.Device.{Source, Sink, NoReadRetried, NoWriteRetried}
use Rattle.lc_model.specs.Tables.HalvesAndBytes.{as_bytes}
use Rattle.lc_model.specs.Tables.InForce.{layouts}
use Rattle.lc_model.specs.Tables.Interpretation.{FileMeanings}
use Rattle.lc_model.specs.Host.Run.{input_of}
use Rattle.lc_model.specs.Host.Stream.{StreamEntry, all_kinds, front}
use Rattle.lc_model.specs.Kept.Executive.{Executive, Written, step_by, written_from}
use Rattle.lc_model.specs.Kept.Stations as model
use Rattle.lc_model.specs.Kept.Stations.{host_step}
use Rattle.host_refinement.specs.Statements.{AreBytes, executive_after, RunsGoOn}
use Rattle.host_refinement.specs.Writes.{OpenHostsTake}
use Rattle.app_host.specs.Shared.{on_board}
use Rattle.app_host.specs.Hosted.{Hosted}
use Rattle.app_host.specs.Delivered.{executive_in}
use Rattle.app_host.specs.Step.{IsBetween, party_of, called_for, StepsSo}
use Rattle.flight_core.specs.Cutting.{IsHandedOut, Begins, Comes, Goes}
use Rattle.flight_core.specs.Flight.{AreAllKnown, written_by}
use Rattle.flight_core.specs.Going as going
use Rattle.flight_core.specs.Going.{IsNext, IsHandled, IsCutShort, NoneIsHeld, MeetsNone, IsOver, IsBroken, IsAtBound}
use Rattle.flight_core.specs.Records.{Held, nothing_held, front_of}
use Rattle.flight_core.specs.Steps.{IsOneStep, AreSteps}
use Rattle.flight_core.proofs.Known.{party_known, still_known}

-- ---- on board

pub goes_on_board : RunsGoOn (as_bytes layouts) → RunsGoOn on_board
unfolding on_board
goes_on_board law = law

pub takes_on_board : OpenHostsTake (as_bytes layouts) → OpenHostsTake on_board
unfolding on_board
takes_on_board law = law

-- ---- bytes

bytes_joined : (xs ys : List ℕ) → AreBytes xs → AreBytes ys → AreBytes (xs ++ ys)
bytes_joined [] ys first second = second
bytes_joined (x ∷ xs) ys first second = (first.0, bytes_joined xs ys first.1 second)

pub taken_front : (ws cs xs : List ℕ) (sent : ℕ) → sent ≤ length cs → take (length ws + sent) ((ws ++ cs) ++ xs) ≡ ws ++ take sent cs
taken_front ws cs xs sent few =
    take-append-le (length ws + sent) (ws ++ cs) xs (omega (arith, few, length-append ws cs)) ∙ take-append-add ws cs sent

-- ---- one step after the other

no_steps : (meanings : FileMeanings (List ℕ)) (first : Hosted) → AreSteps meanings [] [] first first
unfolding AreSteps
no_steps meanings first = refl

one_step_more : (meanings : FileMeanings (List ℕ)) (entries : List StreamEntry) (parts : List (List ℕ)) (first mid now : Hosted) (entry : StreamEntry) (part : List ℕ) →
    AreSteps meanings entries parts first mid → IsOneStep meanings entry mid now part → AreSteps meanings (entries ++ entry ∷ []) (parts ++ part ∷ []) first now
unfolding AreSteps
one_step_more meanings [] [] first mid now entry part same step = (now, subst (λ (h : Hosted). IsOneStep meanings entry h now part) same step, refl)
one_step_more meanings (e ∷ entries) (p ∷ parts) first mid now entry part steps step = (steps.0, steps.1, one_step_more meanings entries parts steps.0 mid now entry part steps.2 step)
one_step_more meanings [] (p ∷ parts) first mid now entry part steps step = absurd steps
one_step_more meanings (e ∷ entries) [] first mid now entry part steps step = absurd steps

part_behind : (parts : List (List ℕ)) (part : List ℕ) → concat (parts ++ part ∷ []) ≡ concat parts ++ part
part_behind parts part = concat-append parts (part ∷ []) ∙ ap (λ bs. concat parts ++ bs) (append-nil part)

-- ---- what is written over records

pub written_behind : (meanings : FileMeanings (List ℕ)) (e : Executive (List ℕ)) (entries others : List StreamEntry) →
    written_from on_board e meanings (entries ++ others) ≡ written_from on_board e meanings entries ++ written_from on_board (executive_after on_board e meanings entries) meanings others
unfolding written_from executive_after
written_behind meanings e [] others = refl
written_behind meanings e (entry ∷ entries) others =
    let step : Written (List ℕ) = step_by on_board entry.moment e (input_of meanings entry.contents) in
    ap (λ packets. step.1 ++ packets) (written_behind meanings step.0 entries others)
    ∙ sym (append_assoc step.1 (written_from on_board step.0 meanings entries) (written_from on_board (executive_after on_board step.0 meanings entries) meanings others))

module _ (n : ℕ) (meanings : FileMeanings (List ℕ)) (first : Hosted) where
  -- the executive behind these records
  abbrev then : List StreamEntry → Executive (List ℕ)
  then entries = executive_after on_board (executive_in first) meanings entries

  -- with objects of this profile: what there is behind these records, and what was written
  pub record Exact (now : Hosted) (entries : List StreamEntry) (before after : Option (List ℕ)) (bytes : ℕ) : Type 0 where
    pub known : AreAllKnown now
    pub executive : executive_in now ≡ executive_after on_board (executive_in first) meanings entries
    pub wrote : Appends before after (written_by meanings first entries)
    pub long : bytes ≡ length (written_by meanings first entries)

  exact_first : (before : Option (List ℕ)) → AreAllKnown first → Exact first [] before before 0
  unfolding written_from executive_after
  exact_first before known = record { known = known; executive = refl; wrote = Appends-nil before; long = refl }

  -- so far these bytes have come, and these records were handled
  pub record SoFar (source : Source) (sink : Sink) (now : Hosted) (source_now : Source) (sink_now : Sink) (held : Held) (count bytes : ℕ) : Type 0 where
    pub between : IsBetween now
    pub is_open : now.is_closed ≡ false
    pub readable : source_now.failed ≡ false
    pub writable : sink_now.failed ≡ false
    pub not_reread : source_now.retried ≡ source.retried
    pub not_rewritten : sink_now.retried ≡ sink.retried
    pub of_texts : held.texts ≡ n
    pub good : held.is_bad ≡ false
    pub come : List ℕ
    pub entries : List StreamEntry
    pub took : Consumes source.rest source_now.rest come
    pub handed : IsHandedOut n come entries held.bytes
    pub are : AreBytes come
    pub many : count ≡ length entries
    pub each : source_now.reads ≤ length come
    pub few : count + length held.bytes ≤ length come
    pub pieces : length come ≤ 8192 * source_now.reads
    pub small : bytes ≤ 18446744073709551616 * count
    pub parts : List (List ℕ)
    pub steps : AreSteps meanings entries parts first now
    pub wrote : Appends sink.gained sink_now.gained (concat parts)
    pub long : bytes ≡ length (concat parts)
    pub exact : AreAllKnown first → Exact now entries sink.gained sink_now.gained bytes

  pub nothing_yet : Begins → (source : Source) (sink : Sink) (held : Held) → held ≡ nothing_held n → IsBetween first → first.is_closed ≡ false → source.reads ≡ 0 → source.failed ≡ false → sink.failed ≡ false →
      SoFar source sink first source sink held 0 0
  nothing_yet begins source sink held nothing between is_open unread readable writable = record {
    between = between;
    is_open = is_open;
    readable = readable;
    writable = writable;
    not_reread = refl;
    not_rewritten = refl;
    of_texts = ap (λ (h : Held). h.texts) nothing;
    good = ap (λ (h : Held). h.is_bad) nothing;
    come = [];
    entries = [];
    took = Consumes-nil source.rest;
    handed = subst (λ (h : Held). IsHandedOut n [] [] h.bytes) (sym nothing) (begins n);
    are = tt;
    many = refl;
    each = omega (arith, unread);
    few = subst (λ (h : Held). 0 + length h.bytes ≤ 0) (sym nothing) (let none : 0 + length (nothing_held n).bytes ≤ 0 = omega arith in none);
    pieces = omega arith;
    small = omega arith;
    parts = [];
    steps = no_steps meanings first;
    wrote = Appends-nil sink.gained;
    long = refl;
    exact = exact_first sink.gained;
  }

  -- ---- one record more

  module _ (goes_on : RunsGoOn on_board) (now : Hosted) (entries : List StreamEntry) (entry : StreamEntry) (before mid : Option (List ℕ)) (bytes : ℕ) (far : Exact now entries before mid bytes) where
    -- what the record calls for is what the definitions say of it
    called : called_for entry.moment (input_of meanings entry.contents) now ≡ concat (step_by on_board entry.moment (then entries) (input_of meanings entry.contents)).1
    called = ap (λ e. concat (step_by on_board entry.moment e (input_of meanings entry.contents)).1) far.executive

    pub joined : written_by meanings first (entries ++ entry ∷ []) ≡ written_by meanings first entries ++ called_for entry.moment (input_of meanings entry.contents) now
    joined =
        ap concat (goes_on (executive_in first) meanings entries entry).packets
        ∙ concat-append (written_from on_board (executive_in first) meanings entries) (step_by on_board entry.moment (then entries) (input_of meanings entry.contents)).1
        ∙ ap (λ bs. written_by meanings first entries ++ bs) (sym called)

    exact_more : (new : Hosted) (after : Option (List ℕ)) (total : ℕ) → StepsSo entry.moment (input_of meanings entry.contents) now new mid after → AreAllKnown new →
        total ≡ length (called_for entry.moment (input_of meanings entry.contents) now) → Exact new (entries ++ entry ∷ []) before after (bytes + total)
    exact_more new after total s known count = record {
      known = known;
      executive =
          ap (λ (h : model.Host (List ℕ)). h.executive) s.host
          ∙ ap (λ e. (step_by on_board entry.moment e (input_of meanings entry.contents)).0) far.executive
          ∙ sym (goes_on (executive_in first) meanings entries entry).executive;
      wrote = subst (Appends before after) (sym joined) (Appends-trans _ _ _ _ _ far.wrote s.gains);
      long =
          (λ i. far.long i + count i)
          ∙ sym (length-append (written_by meanings first entries) (called_for entry.moment (input_of meanings entry.contents) now))
          ∙ ap length (sym joined);
    }

  pub in_front : {source : Source} {sink : Sink} {now : Hosted} {source_now : Source} {sink_now : Sink} {held : Held} {count bytes : ℕ} (far : SoFar source sink now source_now sink_now held count bytes) →
      front all_kinds n held.bytes ≡ front_of held
  in_front {held = held} far = ap (λ k. front all_kinds k held.bytes) (sym far.of_texts)

  pub one_more : RunsGoOn on_board → Goes → (source : Source) (sink : Sink) (now : Hosted) (source_now : Source) (sink_now : Sink) (held : Held) (count bytes : ℕ) → SoFar source sink now source_now sink_now held count bytes →
      (after : Held) (new : Hosted) (sink_after : Sink) (total : ℕ) → total < 18446744073709551616 → IsHandled meanings held after now new sink_now sink_after total → NoWriteRetried sink_now sink_after →
      SoFar source sink new source_now sink_after after (count + 1) (bytes + total)
  one_more goes_on goes source sink now source_now sink_now held count bytes far after new sink_after total fits done not_retried =
      let next = done.next in record {
        between = done.between;
        is_open = done.steps.is_open;
        readable = far.readable;
        writable = done.steps.fine ∙ far.writable;
        not_reread = far.not_reread;
        not_rewritten = not_retried far.writable ∙ far.not_rewritten;
        of_texts = ap (λ (h : Held). h.texts) next.goes ∙ far.of_texts;
        good = ap (λ (h : Held). h.is_bad) next.goes ∙ far.good;
        come = far.come;
        entries = far.entries ++ next.entry ∷ [];
        took = far.took;
        handed = subst (λ (h : Held). IsHandedOut n far.come (far.entries ++ next.entry ∷ []) h.bytes) (sym next.goes)
            (goes n far.come far.entries held.bytes next.entry next.rest far.handed (in_front far ∙ next.front));
        are = far.are;
        many = ap (λ k. k + 1) far.many ∙ sym (length-append far.entries (next.entry ∷ []));
        each = far.each;
        few = subst (λ (h : Held). count + 1 + length h.bytes ≤ length far.come) (sym next.goes)
            (let fewer : count + 1 + length next.rest ≤ length far.come = omega (arith, next.shorter, far.few) in fewer);
        pieces = far.pieces;
        small = omega (arith, far.small, fits);
        parts = far.parts ++ done.part ∷ [];
        steps = one_step_more meanings far.entries far.parts first now new next.entry done.part far.steps done.step;
        wrote = subst (Appends sink.gained sink_after.gained) (sym (part_behind far.parts done.part)) (Appends-trans _ _ _ _ _ far.wrote done.gains);
        long = (λ i. far.long i + done.counted i) ∙ sym (length-append (concat far.parts) done.part) ∙ ap length (sym (part_behind far.parts done.part));
        exact = λ known.
            let e = far.exact known in
            let those = party_known (party_of (input_of meanings next.entry.contents)) now e.known in
            exact_more goes_on now far.entries next.entry sink.gained sink_now.gained bytes e new sink_after.gained total (done.steps.exact those)
            (record { spares = still_known now.stock new.stock e.known.spares done.steps.stock; seated = done.steps.known e.known.seated those }) (done.count those);
      }

  -- ---- the same where the output is told of another sink

  unfoldable pub told_of : (source : Source) (sink : Sink) (now : Hosted) (source_now : Source) (sink_now : Sink) (held : Held) (count bytes : ℕ) → SoFar source sink now source_now sink_now held count bytes →
      (other : Sink) → other.failed ≡ sink_now.failed → other.retried ≡ sink_now.retried →
      ((written : List ℕ) → bytes ≡ length written → Appends sink.gained sink_now.gained written → Appends sink.gained other.gained written) →
      SoFar source sink now source_now other held count bytes
  told_of source sink now source_now sink_now held count bytes far other fine not_retried tells = record {
    between = far.between;
    is_open = far.is_open;
    readable = far.readable;
    writable = fine ∙ far.writable;
    not_reread = far.not_reread;
    not_rewritten = not_retried ∙ far.not_rewritten;
    of_texts = far.of_texts;
    good = far.good;
    come = far.come;
    entries = far.entries;
    took = far.took;
    handed = far.handed;
    are = far.are;
    many = far.many;
    each = far.each;
    few = far.few;
    pieces = far.pieces;
    small = far.small;
    parts = far.parts;
    steps = far.steps;
    wrote = tells (concat far.parts) far.long far.wrote;
    long = far.long;
    exact = λ known.
        let e = far.exact known in
        record { known = e.known; executive = e.executive; wrote = tells (written_by meanings first far.entries) e.long e.wrote; long = e.long };
  }

  -- ---- nothing more is held, and a piece comes

  unfoldable pub idle : (source : Source) (sink : Sink) (now : Hosted) (source_now : Source) (sink_now : Sink) (held : Held) (count bytes : ℕ) → SoFar source sink now source_now sink_now held count bytes →
      (after : Held) (new : Hosted) (sink_after : Sink) → NoneIsHeld meanings held after now new sink_now sink_after → SoFar source sink new source_now sink_after after count bytes
  idle source sink now source_now sink_now held count bytes far after new sink_after none =
      record {
        between = subst IsBetween (sym none.host) far.between;
        is_open = ap (λ (h : Hosted). h.is_closed) none.host ∙ far.is_open;
        readable = far.readable;
        writable = ap (λ (x : Sink). x.failed) none.idle ∙ far.writable;
        not_reread = far.not_reread;
        not_rewritten = ap (λ (x : Sink). x.retried) none.idle ∙ far.not_rewritten;
        of_texts = ap (λ (h : Held). h.texts) none.same ∙ far.of_texts;
        good = ap (λ (h : Held). h.is_bad) none.same ∙ far.good;
        come = far.come;
        entries = far.entries;
        took = far.took;
        handed = subst (λ (h : Held). IsHandedOut n far.come far.entries h.bytes) (sym none.same) far.handed;
        are = far.are;
        many = far.many;
        each = far.each;
        few = subst (λ (h : Held). count + length h.bytes ≤ length far.come) (sym none.same) far.few;
        pieces = far.pieces;
        small = far.small;
        parts = far.parts;
        steps = subst (λ h. AreSteps meanings far.entries far.parts first h) (sym none.host) far.steps;
        wrote = subst (λ (x : Sink). Appends sink.gained x.gained (concat far.parts)) (sym none.idle) far.wrote;
        long = far.long;
        exact = λ known. subst (λ (x : Hosted × Sink). Exact x.0 far.entries sink.gained x.1.gained bytes) (λ i. (sym none.host i, sym none.idle i)) (far.exact known);
      }

  pub comes_more : Comes → (most : ℕ) (source : Source) (sink : Sink) (now : Hosted) (source_now : Source) (sink_now : Sink) (held : Held) (count bytes : ℕ) → SoFar source sink now source_now sink_now held count bytes →
      (after : Held) (source_after : Source) → going.Comes most held after source_now source_after → NoReadRetried source_now source_after →
      SoFar source sink now source_after sink_now after count bytes
  comes_more comes most source sink now source_now sink_now held count bytes far after source_after piece not_retried = record {
    between = far.between;
    is_open = far.is_open;
    readable = piece.fine ∙ far.readable;
    writable = far.writable;
    not_reread = not_retried far.readable ∙ far.not_reread;
    not_rewritten = far.not_rewritten;
    of_texts = ap (λ (h : Held). h.texts) piece.goes ∙ far.of_texts;
    good = ap (λ (h : Held). h.is_bad) piece.goes ∙ far.good;
    come = far.come ++ piece.piece;
    entries = far.entries;
    took = Consumes-trans _ _ _ _ _ far.took piece.took;
    handed = subst (λ (h : Held). IsHandedOut n (far.come ++ piece.piece) far.entries h.bytes) (sym piece.goes)
        (comes n far.come far.entries held.bytes piece.piece far.handed);
    are = bytes_joined far.come piece.piece far.are piece.are;
    many = far.many;
    each = omega (arith, far.each, piece.one, piece.some, length-append far.come piece.piece);
    few = subst (λ (h : Held). count + length h.bytes ≤ length (far.come ++ piece.piece)) (sym piece.goes)
        (let fewer : count + length (held.bytes ++ piece.piece) ≤ length (far.come ++ piece.piece) = omega (arith, far.few, length-append far.come piece.piece, length-append held.bytes piece.piece) in fewer);
    pieces = omega (arith, far.pieces, piece.one, piece.few, length-append far.come piece.piece);
    small = far.small;
    parts = far.parts;
    steps = far.steps;
    wrote = far.wrote;
    long = far.long;
    exact = far.exact;
  }
