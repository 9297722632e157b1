-- Records taken off a stream are those of the whole.
use Rattle.std.proofs.Common.{◌≡◌, refl, sym, ◌∙◌, ap, subst, ℕ, ◌+◌, min, true, List, [], ◌∷◌, ◌++◌, length, arith, append_assoc, append-nil, length-append}
use Rattle.lc_model.specs.Host.Stream.{StreamEntry, End, Whole, Bad, Truncated, Front, EndOfStream, Record, NoRecord, CutRecord, all_kinds, front, records_by_front, records_numbered, records_of}
use Rattle.lc_model.proofs.Host.Streams.{front_decides}
use Rattle.lc_model.proofs.Host.StreamsGoOn.{all_fronts_stay}
use Rattle.flight_core.specs.Records.{Held, after_by, fed, first_record, front_of, most_counted, nothing_held, taken_of}
use Rattle.flight_core.specs.Cutting.{behind, IsHandedOut, Begins, Comes, Goes, EndsBadly, EndsWhole, EndsCut, Call, Feed, Next, Course, after_call, after_calls, entry_in_front, joined, course_of, EveryCutting}

-- ---- step by step

pub begins : Begins
begins texts more = refl

pub comes : Comes
comes texts come entries held piece handed more =
    ap (records_of texts) (append_assoc come piece more)
    ∙ handed (piece ++ more)
    ∙ ap (λ (bytes : List ℕ). behind entries (records_numbered all_kinds texts (length entries + 1) bytes)) (sym (append_assoc held piece more))

-- what stands in front of some bytes decides the records behind those handed out
decided : (texts : ℕ) (come : List ℕ) (entries : List StreamEntry) (held more : List ℕ) (f : Front) →
    IsHandedOut texts come entries held → front all_kinds texts (held ++ more) ≡ f →
    records_of texts (come ++ more) ≡ behind entries (records_by_front (records_numbered all_kinds texts (length entries + 1 + 1)) (length entries + 1) f)
decided texts come entries held more f handed is =
    handed more
    ∙ ap (behind entries) (front_decides all_kinds texts (length entries + 1) (held ++ more)
    ∙ ap (records_by_front (records_numbered all_kinds texts (length entries + 1 + 1)) (length entries + 1)) is)

pub goes : Goes
goes texts come entries held entry rest handed is more =
    let next : length entries + 1 + 1 ≡ length (entries ++ entry ∷ []) + 1 = omega (arith, length-append entries (entry ∷ [])) in
    let others : ℕ → List StreamEntry × End = λ n. records_numbered all_kinds texts n (rest ++ more) in
    decided texts come entries held more (Record entry (rest ++ more)) handed ((all_fronts_stay all_kinds texts held more).a_record entry rest is)
    ∙ (λ i. (entries ++ entry ∷ (others (next i)).0, (others (next i)).1))
    ∙ (λ i. (sym (append_assoc entries (entry ∷ []) (others (length (entries ++ entry ∷ []) + 1)).0) i, (others (length (entries ++ entry ∷ []) + 1)).1))

-- ---- the end

no_more : (entries : List StreamEntry) (end : End) → behind entries ([], end) ≡ (entries, end)
no_more entries end = λ i. (append-nil entries i, end)

-- where nothing follows
decided_here : (texts : ℕ) (come : List ℕ) (entries : List StreamEntry) (held : List ℕ) (f : Front) → IsHandedOut texts come entries held → front all_kinds texts held ≡ f →
    records_of texts come ≡ behind entries (records_by_front (records_numbered all_kinds texts (length entries + 1 + 1)) (length entries + 1) f)
decided_here texts come entries held f handed is =
    ap (records_of texts) (sym (append-nil come))
    ∙ decided texts come entries held [] f handed (ap (front all_kinds texts) (append-nil held) ∙ is)

pub ends_badly : EndsBadly
ends_badly texts come entries held more handed is =
    decided texts come entries held more NoRecord handed ((all_fronts_stay all_kinds texts held more).none is) ∙ no_more entries (Bad (length entries + 1))

pub ends_whole : EndsWhole
ends_whole texts come entries held handed is = decided_here texts come entries held EndOfStream handed is ∙ no_more entries Whole

pub ends_cut : EndsCut
ends_cut texts come entries held handed is = decided_here texts come entries held CutRecord handed is ∙ no_more entries (Truncated (length entries + 1))

-- ---- any calls

-- what holds between two calls
record IsOn (texts : ℕ) (course : Course) : Type 0 where
  handed_out : IsHandedOut texts course.come course.entries course.held.bytes
  counted : course.held.count ≡ min (length course.entries) most_counted
  of_texts : course.held.texts ≡ texts
  bad : course.held.is_bad ≡ true → front all_kinds texts course.held.bytes ≡ NoRecord

one_counted : (most n count : ℕ) → count ≡ min n most → min (count + 1) most ≡ min (n + 1) most
one_counted most n count e = omega (arith, e)

module _ (texts : ℕ) (before : Course) (on : IsOn texts before) where
  none_new : before.entries ++ [] ≡ before.entries
  none_new = append-nil before.entries

  fed_on : (piece : List ℕ) → IsOn texts (joined before (after_call (Feed piece) before.held))
  fed_on piece = record {
    handed_out = subst (λ entries. IsHandedOut texts (before.come ++ taken_of before.held piece) entries (fed before.held piece).bytes) (sym none_new)
        (comes texts before.come before.entries before.held.bytes (taken_of before.held piece) on.handed_out);
    counted = on.counted ∙ ap (λ (entries : List StreamEntry). min (length entries) most_counted) (sym none_new);
    of_texts = on.of_texts;
    bad = λ e. (all_fronts_stay all_kinds texts before.held.bytes (taken_of before.held piece)).none (on.bad e);
  }

  -- where nothing is taken off
  same_on : (now : Held) → now.bytes ≡ before.held.bytes → now.count ≡ before.held.count → now.texts ≡ before.held.texts →
      (now.is_bad ≡ true → front all_kinds texts before.held.bytes ≡ NoRecord) → IsOn texts (joined before (record { come = []; entries = []; held = now }))
  same_on now bytes count of_texts bad = record {
    handed_out = λ more.
        ap (λ (come : List ℕ). records_of texts (come ++ more)) (append-nil before.come)
        ∙ on.handed_out more
        ∙ (λ i. behind (sym none_new i) (records_numbered all_kinds texts (length (sym none_new i) + 1) (sym bytes i ++ more)));
    counted = count ∙ on.counted ∙ ap (λ (entries : List StreamEntry). min (length entries) most_counted) (sym none_new);
    of_texts = of_texts ∙ on.of_texts;
    bad = λ e. ap (front all_kinds texts) bytes ∙ bad e;
  }

  taken_on : (entry : StreamEntry) (rest : List ℕ) → front all_kinds texts before.held.bytes ≡ Record entry rest →
      IsOn texts (joined before (record { come = []; entries = entry ∷ []; held = record before.held { bytes = rest; last = first_record before.held.bytes; count = min (before.held.count + 1) most_counted } }))
  taken_on entry rest is = record {
    handed_out = λ more.
        ap (λ (come : List ℕ). records_of texts (come ++ more)) (append-nil before.come)
        ∙ goes texts before.come before.entries before.held.bytes entry rest on.handed_out is more;
    counted =
        let one : length before.entries + 1 ≡ length (before.entries ++ entry ∷ []) = omega (arith, length-append before.entries (entry ∷ [])) in
        one_counted most_counted (length before.entries) before.held.count on.counted ∙ ap (λ n. min n most_counted) one;
    of_texts = on.of_texts;
    bad = λ e. absurd (cc (sym (on.bad e) ∙ is));
  }

  same_front : front all_kinds texts before.held.bytes ≡ front_of before.held
  same_front = ap (λ n. front all_kinds n before.held.bytes) (sym on.of_texts)

  next_by : (f : Front) → front_of before.held ≡ f → IsOn texts (joined before (record { come = []; entries = entry_in_front f; held = after_by before.held f }))
  next_by EndOfStream is = same_on before.held refl refl refl on.bad
  next_by CutRecord is = same_on before.held refl refl refl on.bad
  next_by NoRecord is = same_on (record before.held { is_bad = true }) refl refl refl (λ e. same_front ∙ is)
  next_by (Record entry rest) is = taken_on entry rest (same_front ∙ is)

  call_on : (call : Call) → IsOn texts (joined before (after_call call before.held))
  call_on (Feed piece) = fed_on piece
  call_on Next = next_by (front_of before.held) refl

joined_again : (first second third : Course) → joined (joined first second) third ≡ joined first (joined second third)
joined_again first second third = λ i. record {
  come = append_assoc first.come second.come third.come i;
  entries = append_assoc first.entries second.entries third.entries i;
  held = third.held;
}

-- whatever the calls
calls_on : (texts : ℕ) (before : Course) → IsOn texts before → (calls : List Call) → IsOn texts (joined before (after_calls calls before.held))
calls_on texts before on [] =
    subst (IsOn texts) (λ i. record { come = sym (append-nil before.come) i; entries = sym (append-nil before.entries) i; held = before.held }) on
calls_on texts before on (call ∷ calls) =
    let first : Course = after_call call before.held in
    subst (IsOn texts) (joined_again before first (after_calls calls first.held))
    (calls_on texts (joined before first) (call_on texts before on call) calls)

pub every_cutting : EveryCutting
every_cutting texts calls =
    let nothing : Course = record { come = []; entries = []; held = nothing_held texts } in
    let at_first : IsOn texts nothing = record { handed_out = begins texts; counted = refl; of_texts = refl; bad = λ e. absurd (cc e) } in
    let on : IsOn texts (course_of texts calls) = calls_on texts nothing at_first calls in
    record {
      handed_out = on.handed_out;
      counted = on.counted;
      of_texts = on.of_texts;
      bad = λ e more. ends_badly texts (course_of texts calls).come (course_of texts calls).entries (course_of texts calls).held.bytes more on.handed_out (on.bad e);
    }
