-- The lines of a script say its stream one behind the other: what stands before a line says the front of the stream.
use Rattle.std.proofs.Common.{◌≡◌, refl, sym, ◌∙◌, ap, subst, ℕ, zero, suc, ◌+◌, ◌<◌, ◌≤◌, Bool, true, false, if◌then◌else◌, List, [], ◌∷◌, ◌++◌, length, take, slice_index, append_assoc, append-nil, Result, Ok, Err, arith, nat_le}
use Rattle.std.specs.Prelude.{⊤, ◌==◌, codes, bytes_eq}
use Rattle.std.proofs.lemmas.List.{length-append}
use Rattle.std.proofs.Math.Seq.{take-append_seam}
use Rattle.lc_model.specs.Host.ScheduleText.{is_silent, lines_of, onto_first, parted, words_of}
use Rattle.lc_model.specs.Bytes.{u16}
use Rattle.lc_model.specs.Packet.{command, telemetry, executive_services_mid, table_services_mid, lc_housekeeping_request_mid, sample_mid}
use Rattle.lc_model.specs.declared.record.Moment.{Moment}
use Rattle.stream_script.specs.declared.error.Reason.{Reason}
use Rattle.stream_script.specs.declared.kind.RecordKind.{RecordKind}
use Rattle.stream_script.specs.declared.kind.RecordKind.TheVariants.{Packet, Tick, File, Half}
use Rattle.stream_script.specs.Error.{ScriptFault, ◌>>=◌}
use Rattle.stream_script.specs.Fields.{payload_of}
use Rattle.stream_script.specs.Kind.{kind_in, may_bring}
use Rattle.stream_script.specs.Number.{bytes_in, number_in}
use Rattle.stream_script.specs.Script.{Said, ages_in, app_ordered, brought, command_brought, commanded, fields_brought, fields_said, file_brought, five_words, four_words, half_brought, line_said, lines_said, mid_in, moment_set, moved_on, name_field, nothing_said, one_word, packet_brought, record_brought, record_bytes, recorded, sample_requested, script_in, some_kind, some_words, stream_of, table_ordered, telemetry_brought, three_words, told, two_words, whole_record}
use Rattle.stream_script.specs.ByLines.{AreStarts, SaysItsFronts, line_start, starts_from, starts_in}

-- ---- a statement adds bytes behind those that are said

-- these are the first bytes, with others behind them
record IsMore (before after : List ℕ) : Type 0 where
  added : List ℕ
  is : after ≡ before ++ added

abbrev Grown : Said → Result Said Reason → Type 0
Grown said (Ok after) = IsMore said.bytes after.bytes
Grown said (Err reason) = ⊤

more_of_more : (first second third : List ℕ) → IsMore first second → IsMore second third → IsMore first third
more_of_more first second third one other = record {
  added = one.added ++ other.added;
  is = other.is ∙ ap (λ (front : List ℕ). front ++ other.added) one.is ∙ append_assoc first one.added other.added;
}

grown_on : (said there : Said) (r : Result Said Reason) → IsMore said.bytes there.bytes → Grown there r → Grown said r
grown_on said there (Ok after) first rest = more_of_more said.bytes there.bytes after.bytes first rest
grown_on said there (Err reason) first rest = tt

module _ (said : Said) where
  step : {A : Type 0} (r : Result A Reason) (next : A → Result Said Reason) → ((x : A) → Grown said (next x)) → Grown said (r >>= next)
  step (Ok x) next grows = grows x
  step (Err reason) next grows = tt

  step_on : (r : Result Said Reason) (next : Said → Result Said Reason) → Grown said r → ((there : Said) → Grown there (next there)) → Grown said (r >>= next)
  step_on (Ok there) next first grows = grown_on said there (next there) first (grows there)
  step_on (Err reason) next first grows = tt

  either : (b : Bool) (one other : Result Said Reason) → Grown said one → Grown said other → Grown said (if b then one else other)
  either true one other first second = first
  either false one other first second = second

  same : (moment : Moment) → Grown said (Ok (record { moment = moment; bytes = said.bytes }))
  same moment = record { added = []; is = sym (append-nil said.bytes) }

  one_record : (kind : RecordKind) (body : List ℕ) → Grown said (Ok (recorded kind body said))
  one_record kind body = record { added = record_bytes said.moment kind body; is = refl }

  one_command : (mid code : ℕ) (payload : List ℕ) → Grown said (Ok (commanded mid code payload said))
  one_command mid code payload = one_record Packet (command mid 0 code payload)

  one_told : (mid count : ℕ) (payload : List ℕ) → Grown said (Ok (told mid count payload said))
  one_told mid count payload = one_record Packet (telemetry mid count said.moment payload)

  by_brought : (kind : RecordKind) (body : List ℕ) → Grown said (brought kind body said)
  by_brought kind body = either (may_bring kind body) _ _ (one_record kind body) tt

  by_moment : (s f : List ℕ) → Grown said (moment_set said s f)
  by_moment s f = step (number_in 4294967295 s) _ (λ (m : ℕ). step (number_in 65535 f) _ (λ (n : ℕ). same (record { seconds = m; subseconds = n })))

  by_moved : (s : List ℕ) → Grown said (moved_on said s)
  by_moved s = step (number_in _ s) _ (λ (n : ℕ). same (record { seconds = said.moment.seconds + n; subseconds = said.moment.subseconds }))

  by_record : (kind bytes : List ℕ) → Grown said (record_brought said kind bytes)
  by_record kind bytes = step (some_kind (kind_in kind)) _ (λ (k : RecordKind). step (bytes_in bytes) _ (λ (body : List ℕ). by_brought k body))

  by_packet : (bytes : List ℕ) → Grown said (packet_brought said bytes)
  by_packet bytes = step (bytes_in bytes) _ (λ (body : List ℕ). by_brought Packet body)

  by_file : (name bytes : List ℕ) → Grown said (file_brought said name bytes)
  by_file name bytes = step (name_field 40 name) _ (λ (field : List ℕ). step (bytes_in bytes) _ (λ (contents : List ℕ). by_brought File (field ++ contents)))

  by_half : (half : ℕ) (text name : List ℕ) → Grown said (half_brought said half text name)
  by_half half text name = step (number_in 65535 text) _ (λ (n : ℕ). step (name_field 40 name) _ (λ (field : List ℕ). one_record Half _))

  by_app : (code : ℕ) (name : List ℕ) → Grown said (app_ordered said code name)
  by_app code name = step (name_field 20 name) _ (λ (field : List ℕ). one_command executive_services_mid code field)

  by_table : (code : ℕ) (name : List ℕ) → Grown said (table_ordered said code name)
  by_table code name = step (name_field 40 name) _ (λ (field : List ℕ). one_command table_services_mid code field)

  by_sample : (first last ages : List ℕ) → Grown said (sample_requested said first last ages)
  by_sample first last ages =
      step (number_in 65535 first) _ (λ (f : ℕ). step (number_in 65535 last) _ (λ (l : ℕ). step (ages_in ages) _ (λ (a : ℕ). one_command sample_mid 0 (u16 f ++ u16 l ++ 0 ∷ a ∷ 0 ∷ 0 ∷ []))))

  by_telemetry : (mid count bytes : List ℕ) → Grown said (telemetry_brought said mid count bytes)
  by_telemetry mid count bytes =
      step (mid_in mid) _ (λ (m : ℕ). step (number_in 16383 count) _ (λ (n : ℕ). step (bytes_in bytes) _ (λ (payload : List ℕ).
      either (nat_le (length payload) 2036) _ _ (one_told m n payload) tt)))

  by_fields : (mid count size : List ℕ) (words : List (List ℕ)) → Grown said (fields_brought said mid count size words)
  by_fields mid count size words =
      step (mid_in mid) _ (λ (m : ℕ). step (number_in 16383 count) _ (λ (n : ℕ). step (payload_of size words) _ (λ (payload : List ℕ). one_told m n payload)))

  by_command : (mid code bytes : List ℕ) → Grown said (command_brought said mid code bytes)
  by_command mid code bytes =
      step (mid_in mid) _ (λ (m : ℕ). step (number_in 127 code) _ (λ (c : ℕ). step (bytes_in bytes) _ (λ (payload : List ℕ).
      either (nat_le (length payload) 2040) _ _ (one_command m c payload) tt)))

by_whole : (said : Said) (seconds subseconds kind bytes : List ℕ) → Grown said (whole_record said seconds subseconds kind bytes)
by_whole said seconds subseconds kind bytes =
    step_on said (moment_set said seconds subseconds) _ (by_moment said seconds subseconds) (λ (there : Said). by_record there kind bytes)

module _ (said : Said) (verb : List ℕ) where
  -- a line with this first word, or what other lines say
  verb_or : (word : List ℕ) (one other : Result Said Reason) → Grown said one → Grown said other → Grown said (if bytes_eq verb word then one else other)
  verb_or word one other first second = either said (bytes_eq verb word) one other first second

  by_one : Grown said (one_word said verb)
  by_one = verb_or (codes "tick") _ _ (one_record said Tick []) (verb_or (codes "housekeeping") _ _ (one_command said lc_housekeeping_request_mid 0 []) tt)

  by_two : (a : List ℕ) → Grown said (two_words said verb a)
  by_two a =
      verb_or (codes "after") _ _ (by_moved said a) (verb_or (codes "packet") _ _ (by_packet said a)
      (verb_or (codes "start") _ _ (by_app said 1 a) (verb_or (codes "stop") _ _ (by_app said 2 a)
      (verb_or (codes "restart") _ _ (by_app said 3 a) (verb_or (codes "reload") _ _ (by_app said 4 a)
      (verb_or (codes "load") _ _ (by_table said 1 a) (verb_or (codes "validate") _ _ (by_table said 2 a)
      (verb_or (codes "activate") _ _ (by_table said 3 a) (verb_or (codes "abort") _ _ (by_table said 4 a) tt)))))))))

  by_three : (a b : List ℕ) → Grown said (three_words said verb a b)
  by_three a b =
      verb_or (codes "at") _ _ (by_moment said a b) (verb_or (codes "file") _ _ (by_file said a b)
      (verb_or (codes "wdt") _ _ (by_half said 1 a b) (verb_or (codes "adt") _ _ (by_half said 2 a b) tt)))

  by_four : (a b c : List ℕ) → Grown said (four_words said verb a b c)
  by_four a b c =
      verb_or (codes "sample") _ _ (by_sample said a b c) (verb_or (codes "telemetry") _ _ (by_telemetry said a b c)
      (verb_or (codes "command") _ _ (by_command said a b c) tt))

  by_five : (a b c d : List ℕ) → Grown said (five_words said verb a b c d)
  by_five a b c d = verb_or (codes "record") _ _ (by_whole said a b c d) tt

by_some : (said : Said) (words : List (List ℕ)) → Grown said (some_words said words)
by_some said [] = tt
by_some said (verb ∷ []) = by_one said verb
by_some said (verb ∷ a ∷ []) = by_two said verb a
by_some said (verb ∷ a ∷ b ∷ []) = by_three said verb a b
by_some said (verb ∷ a ∷ b ∷ c ∷ []) = by_four said verb a b c
by_some said (verb ∷ a ∷ b ∷ c ∷ d ∷ []) = by_five said verb a b c d
by_some said (verb ∷ a ∷ b ∷ c ∷ d ∷ e ∷ words) = tt

by_fields_said : (said : Said) (words : List (List ℕ)) → Grown said (fields_said said words)
by_fields_said said [] = tt
by_fields_said said (verb ∷ []) = tt
by_fields_said said (verb ∷ mid ∷ []) = tt
by_fields_said said (verb ∷ mid ∷ count ∷ []) = tt
by_fields_said said (verb ∷ mid ∷ count ∷ size ∷ words) = by_fields said mid count size words

line_grows : (said : Said) (words : List (List ℕ)) → Grown said (line_said said words)
line_grows said words = either said (is_silent words) _ _ (same said said.moment) (either said _ _ _ (by_fields_said said words) (by_some said words))

-- ---- so do lines, one behind the other

after_is_more : (said after : Said) (words : List (List ℕ)) → line_said said words ≡ Ok after → IsMore said.bytes after.bytes
after_is_more said after words is = subst (Grown said) is (line_grows said words)

-- what one line says, and then the others
lines_by : (n : ℕ) (lines : List (List ℕ)) → Result Said Reason → Result Said ScriptFault
lines_by n lines (Err reason) = Err (record { line = n; reason = reason })
lines_by n lines (Ok after) = lines_said after (n + 1) lines

-- a first line that says something, and what the others say then
record IsSaid (said : Said) (n : ℕ) (line : List ℕ) (lines : List (List ℕ)) (final : Said) : Type 0 where
  after : Said
  is : line_said said (words_of line) ≡ Ok after
  rest : lines_said after (n + 1) lines ≡ Ok final

first_said : (said : Said) (n : ℕ) (line : List ℕ) (lines : List (List ℕ)) (final : Said) → lines_said said n (line ∷ lines) ≡ Ok final → IsSaid said n line lines final
first_said said n line lines final all = by_result (line_said said (words_of line)) refl
  where
    by_result : (r : Result Said Reason) → line_said said (words_of line) ≡ r → IsSaid said n line lines final
    by_result (Ok after) is = record { after = after; is = is; rest = rw (is, lines_said) at all }
    by_result (Err reason) is = let never = rw (is, lines_said) at all in cc never

lines_are_more : (said : Said) (n : ℕ) (lines : List (List ℕ)) (final : Said) → lines_said said n lines ≡ Ok final → IsMore said.bytes final.bytes
lines_are_more said n [] final all = record { added = []; is = ap (λ (r : Result Said ScriptFault). said_or said r) (sym all) ∙ sym (append-nil said.bytes) }
  where
    said_or : Said → Result Said ScriptFault → List ℕ
    said_or other (Ok x) = x.bytes
    said_or other (Err fault) = other.bytes
lines_are_more said n (line ∷ lines) final all =
    let one = first_said said n line lines final all in
    more_of_more said.bytes one.after.bytes final.bytes (after_is_more said one.after (words_of line) one.is) (lines_are_more one.after (n + 1) lines final one.rest)

-- ---- what is said before a line

record IsFront (said : Said) (n : ℕ) (lines : List (List ℕ)) (place : ℕ) (final : Said) : Type 0 where
  before : Said
  says : lines_said said n (take place lines ++ [] ∷ []) ≡ Ok before
  start : slice_index (starts_from said lines) place ≡ length before.bytes
  rest : IsMore before.bytes final.bytes

-- a line more in front
one_more : (said after : Said) (n : ℕ) (line : List ℕ) (lines : List (List ℕ)) (place : ℕ) (final : Said) → line_said said (words_of line) ≡ Ok after →
    IsFront after (n + 1) lines place final → IsFront said n (line ∷ lines) (suc place) final
one_more said after n line lines place final is later =
    record { before = later.before; says = rw (is, lines_said) later.says; start = rw is later.start; rest = later.rest }

front_said : (said : Said) (n : ℕ) (lines : List (List ℕ)) (final : Said) → lines_said said n lines ≡ Ok final → (place : ℕ) → place < length lines →
    IsFront said n lines place final
front_said said n [] final all place inside = absurd (omega (arith, inside))
front_said said n (line ∷ lines) final all zero inside = record { before = said; says = refl; start = refl; rest = lines_are_more said n (line ∷ lines) final all }
front_said said n (line ∷ lines) final all (suc place) inside =
    let one = first_said said n line lines final all in
    one_more said one.after n line lines place final one.is (front_said one.after (n + 1) lines final one.rest place (omega (arith, inside)))

starts_each : (said : Said) (n : ℕ) (lines : List (List ℕ)) (final : Said) → lines_said said n lines ≡ Ok final → length (starts_from said lines) ≡ length lines
starts_each said n [] final all = refl
starts_each said n (line ∷ lines) final all =
    let one = first_said said n line lines final all in
    let later = starts_each one.after (n + 1) lines final one.rest in
    rw one.is (ap suc later)

longer : (before after : List ℕ) → IsMore before after → length before ≤ length after
longer before after is =
    let whole : length after ≡ length before + length is.added = ap length is.is ∙ length-append before is.added in
    omega (arith, whole)

ascending : (said : Said) (n : ℕ) (lines : List (List ℕ)) (final : Said) → lines_said said n lines ≡ Ok final → (place : ℕ) → suc place < length lines →
    slice_index (starts_from said lines) place ≤ slice_index (starts_from said lines) (suc place)
ascending said n [] final all place inside = absurd (omega (arith, inside))
ascending said n (line ∷ []) final all place inside = absurd (omega (arith, inside))
ascending said n (line ∷ next ∷ lines) final all zero inside =
    let one = first_said said n line (next ∷ lines) final all in
    rw one.is (longer said.bytes one.after.bytes (after_is_more said one.after (words_of line) one.is))
ascending said n (line ∷ next ∷ lines) final all (suc place) inside =
    let one = first_said said n line (next ∷ lines) final all in
    rw one.is (ascending one.after (n + 1) (next ∷ lines) final one.rest place (omega (arith, inside)))

-- ---- the lines of what stands before a line

record AreSome (parts : List (List ℕ)) : Type 0 where
  first : List ℕ
  others : List (List ℕ)
  are : parts ≡ first ∷ others

module _ (ends : ℕ → Bool) where
  some_parts : (text : List ℕ) → AreSome (parted ends text)
  some_parts [] = record { first = []; others = []; are = refl }
  some_parts (byte ∷ bytes) = by_test (ends byte) refl (some_parts bytes)
    where
      by_test : (b : Bool) → ends byte ≡ b → AreSome (parted ends bytes) → AreSome (parted ends (byte ∷ bytes))
      by_test true is rest = record { first = []; others = parted ends bytes; are = rw is refl }
      by_test false is rest = record { first = byte ∷ rest.first; others = rest.others; are = rw is (ap (onto_first byte) rest.are) }

  abbrev HasFronts : List ℕ → Type 0
  HasFronts text = (place : ℕ) → place < length (parted ends text) →
      parted ends (take (line_start place (parted ends text)) text) ≡ take place (parted ends text) ++ [] ∷ []

  -- a byte more in front of the first part
  byte_more : (byte : ℕ) (bytes first : List ℕ) (others : List (List ℕ)) (place : ℕ) → ends byte ≡ false →
      parted ends (take (length first + 1 + line_start place others) bytes) ≡ first ∷ (take place others ++ [] ∷ []) →
      parted ends (take (suc (length first + 1 + line_start place others)) (byte ∷ bytes)) ≡ (byte ∷ first) ∷ (take place others ++ [] ∷ [])
  byte_more byte bytes first others place is later = rw is (ap (onto_first byte) later)

  one_first : (b : ℕ) → 0 + 1 + b ≡ suc b
  one_first b = omega arith

  one_less : (a b : ℕ) → suc a + 1 + b ≡ suc (a + 1 + b)
  one_less a b = omega arith

  fronts_of_some : (byte : ℕ) (bytes : List ℕ) (parts : List (List ℕ)) → AreSome parts → parted ends bytes ≡ parts → ends byte ≡ false → HasFronts bytes →
      (place : ℕ) → place < length (onto_first byte parts) →
      parted ends (take (line_start place (onto_first byte parts)) (byte ∷ bytes)) ≡ take place (onto_first byte parts) ++ [] ∷ []
  fronts_of_some byte bytes [] some same is later place inside = cc some.are
  fronts_of_some byte bytes (first ∷ others) some same is later zero inside = refl
  fronts_of_some byte bytes (first ∷ others) some same is later (suc place) inside =
      let before : parted ends (take (line_start (suc place) (parted ends bytes)) bytes) ≡ take (suc place) (parted ends bytes) ++ [] ∷ [] =
      later (suc place) (rw same inside) in
      ap (λ (size : ℕ). parted ends (take size (byte ∷ bytes))) (one_less (length first) (line_start place others))
      ∙ byte_more byte bytes first others place is (rw same at before)

  fronts : (text : List ℕ) → HasFronts text
  fronts [] zero inside = refl
  fronts [] (suc place) inside = absurd (omega (arith, inside))
  fronts (byte ∷ bytes) place inside = by_test (ends byte) refl place inside (fronts bytes)
    where
      by_end : ends byte ≡ true → HasFronts bytes → (place : ℕ) → place < length ([] ∷ parted ends bytes) →
          parted ends (take (line_start place ([] ∷ parted ends bytes)) (byte ∷ bytes)) ≡ take place ([] ∷ parted ends bytes) ++ [] ∷ []
      by_end is later zero inside = refl
      by_end is later (suc place) inside =
          ap (λ (size : ℕ). parted ends (take size (byte ∷ bytes))) (one_first (line_start place (parted ends bytes)))
          ∙ rw is (ap (λ (parts : List (List ℕ)). [] ∷ parts) (later place (omega (arith, inside))))

      by_test : (b : Bool) → ends byte ≡ b → (place : ℕ) → place < length (parted ends (byte ∷ bytes)) → HasFronts bytes →
          parted ends (take (line_start place (parted ends (byte ∷ bytes))) (byte ∷ bytes)) ≡ take place (parted ends (byte ∷ bytes)) ++ [] ∷ []
      by_test true is place inside later = rw is (by_end is later place (rw is at inside))
      by_test false is place inside later = rw is (fronts_of_some byte bytes (parted ends bytes) (some_parts bytes) refl is later place (rw is at inside))

-- ---- the law

-- what all lines of a script say that says a stream
record IsWhole (lines : Result Said ScriptFault) (stream : List ℕ) : Type 0 where
  final : Said
  is : lines ≡ Ok final
  bytes : final.bytes ≡ stream

whole_of : (lines : Result Said ScriptFault) (stream : List ℕ) → stream_of lines ≡ Ok stream → IsWhole lines stream
whole_of (Ok final) stream says = record { final = final; is = refl; bytes = cc says }
whole_of (Err fault) stream says = cc says

module _ (script stream : List ℕ) (says : script_in script ≡ Ok stream) where
  whole : IsWhole (lines_said nothing_said 1 (lines_of script)) stream
  whole = whole_of (lines_said nothing_said 1 (lines_of script)) stream says

  each : length (starts_in script) ≡ length (lines_of script)
  each = starts_each nothing_said 1 (lines_of script) whole.final whole.is

  in_lines : (place : ℕ) → place < length (starts_in script) → place < length (lines_of script)
  in_lines place inside = let same = each in omega (arith, inside, same)

  before_line : (place : ℕ) → place < length (starts_in script) → IsFront nothing_said 1 (lines_of script) place whole.final
  before_line place inside = front_said nothing_said 1 (lines_of script) whole.final whole.is place (in_lines place inside)

  inside_stream : (place : ℕ) → place < length (starts_in script) → slice_index (starts_in script) place ≤ length stream
  inside_stream place inside =
      let it = before_line place inside in
      let few : length it.before.bytes ≤ length whole.final.bytes = longer it.before.bytes whole.final.bytes it.rest in
      let same : length whole.final.bytes ≡ length stream = ap length whole.bytes in
      let start = it.start in
      omega (arith, few, same, start)

  says_front : (place : ℕ) → place < length (starts_in script) →
      script_in (take (line_start place (lines_of script)) script) ≡ Ok (take (slice_index (starts_in script) place) stream)
  says_front place inside =
      let it = before_line place inside in
      ap (λ (lines : List (List ℕ)). stream_of (lines_said nothing_said 1 lines)) (fronts (λ byte. byte == 10) script place (in_lines place inside))
      ∙ ap stream_of it.says
      ∙ ap okay
      (sym (ap (λ (size : ℕ). take size stream) it.start
      ∙ ap (λ (bytes : List ℕ). take (length it.before.bytes) bytes) (sym whole.bytes ∙ it.rest.is)
      ∙ take-append_seam it.before.bytes it.rest.added))
    where
      okay : List ℕ → Result (List ℕ) ScriptFault
      okay bytes = Ok bytes

  ascend : (place : ℕ) → place + 1 < length (starts_in script) → slice_index (starts_in script) place ≤ slice_index (starts_in script) (place + 1)
  ascend place inside =
      let same = each in
      let next : place + 1 ≡ suc place = omega arith in
      subst (λ (n : ℕ). slice_index (starts_in script) place ≤ slice_index (starts_in script) n) (sym next)
      (ascending nothing_said 1 (lines_of script) whole.final whole.is place (omega (arith, inside, same)))

  pub are_starts : AreStarts script stream (starts_in script)
  are_starts = record { each = each; inside = inside_stream; front = says_front; ascend = ascend }

pub says_its_fronts : SaysItsFronts
says_its_fronts script stream says = are_starts script stream says
