-- What a stream's script says are its records.
use Rattle.std.proofs.Common.{◌≡◌, refl, sym, ◌∙◌, ap, subst, ℕ, zero, suc, ◌+◌, ◌-◌, ◌*◌, ◌/◌, ◌%◌, ◌<◌, ◌≤◌, ◌^◌, lit<, fold, Bool, true, false, ◌&&◌, ◌==◌, nat_lt, nat_le, List, [], ◌∷◌, ◌++◌, length, take, drop, slice_index, arith, append_assoc, append-nil, Some, None, Result, Ok, Err, if◌then◌else◌}
use Rattle.std.specs.Prelude.{codes, decimal, bytes_eq}
use Rattle.std.specs.Prelude.{slice_index_or}
use Rattle.std.specs.Char.{is_ascii_digit, digit_value}
use Rattle.std.specs.Int.{IsInRange}
use Rattle.std.specs.List.{All, list_all}
use Rattle.std.proofs.lemmas.List.Folds.{list_all-append}
use Rattle.std.proofs.lemmas.List.Sums.{AllPass-from_list_all}
use Rattle.std.proofs.lemmas.Fmt.{decimal_nonempty, length-decimal-le, digits_decimal, digits_value-decimal}
use Rattle.std.proofs.lemmas.Str.Parse.{FoldsDigits, IsDigitsTest, IsNumeralModel, numerals_by_fold}
use Rattle.hex.specs.Hex.{IsBytes, decode_of, encode_lower, encode_with, lower_digits}
use Rattle.hex.specs.declared.error.FromHexError.{FromHexError}
use Rattle.hex.proofs.HexLemmas.{decode_of-encode_lower}
use Rattle.lc_model.specs.Text.Token.{number_of_digits}
use Rattle.lc_model.specs.declared.record.Moment.{Moment}
use Rattle.lc_model.specs.Host.Stream.{moment_of}
use Rattle.lc_model.proofs.Facts.{and_both, and_true, and_false, test_at_most, test_less, test_not_less, test_unequal, tested_at_most, tested_less}
use Rattle.lc_model.specs.Host.ScheduleText.{lines_of, parted, words_of}
use Rattle.text_lines.specs.Lines.{full, is_blank, is_feed}
use Rattle.text_lines.proofs.Splits.{parted_at, parted_none}
use Rattle.stream_script.specs.declared.error.Reason.{Reason}
use Rattle.stream_script.specs.declared.error.Reason.TheVariants.{BadBytes, BadBody, BadNumber}
use Rattle.stream_script.specs.declared.kind.RecordKind.{RecordKind}
use Rattle.stream_script.specs.declared.kind.RecordKind.TheVariants.{Packet, Tick, File, Half}
use Rattle.stream_script.specs.declared.front.Front.{Front}
use Rattle.stream_script.specs.declared.front.Front.TheVariants.{End, Record, NoRecord, Cut}
use Rattle.stream_script.specs.Error.{ScriptFault, ◌>>=◌}
use Rattle.stream_script.specs.Front.{body_in_front, front_in, record_size}
use Rattle.stream_script.specs.Kind.{kind_in, kind_word, may_bring}
use Rattle.stream_script.specs.Number.{at_most, bytes_in, bytes_word, number_in}
use Rattle.stream_script.specs.Script.{Said, brought, line_said, lines_said, moment_set, nothing_said, record_brought, record_bytes, recorded, some_kind, stream_of}
use Rattle.stream_script.specs.Whole.{SaysTheRecords, record_line, records_by, records_within, script_by, script_within}
use Rattle.stream_script.proofs.Stands.{Stands, stands, record_again, has_moment, bytes_behind, bytes_before}

-- ---- words have bytes, and none that parts words or lines

-- bytes above this one
abbrev pub over : ℕ → List ℕ → Bool
over least bytes = list_all (nat_lt least) bytes

abbrev pub IsOver : ℕ → List ℕ → Type 0
IsOver least bytes = over least bytes ≡ true

no_blank : (b : ℕ) → nat_lt 32 b ≡ true → is_blank b ≡ false
no_blank b is =
    let more : 32 < b = tested_less 32 b is in
    rw (test_unequal b 32 (λ same. omega (arith, more, same)), test_unequal b 9 (λ same. omega (arith, more, same)), test_unequal b 13 (λ same. omega (arith, more, same))) refl

no_feed : (b : ℕ) → nat_lt 31 b ≡ true → is_feed b ≡ false
no_feed b is = let more : 31 < b = tested_less 31 b is in test_unequal b 10 (λ same. omega (arith, more, same))

no_blanks : (word : List ℕ) → IsOver 32 word → All (λ b. is_blank b ≡ false) word
no_blanks word is k d inside = no_blank (slice_index_or word k d) (AllPass-from_list_all (nat_lt 32) word is k d inside)

no_feeds : (line : List ℕ) → IsOver 31 line → All (λ b. is_feed b ≡ false) line
no_feeds line is k d inside = no_feed (slice_index_or line k d) (AllPass-from_list_all (nat_lt 31) line is k d inside)

over_less : (xs : List ℕ) → IsOver 32 xs → IsOver 31 xs
over_less [] is = refl
over_less (x ∷ xs) is =
    let both = and_both (nat_lt 32 x) (over 32 xs) is in
    let more : 32 < x = tested_less 32 x both.0 in
    and_true (nat_lt 31 x) (over 31 xs) (test_less 31 x (omega (arith, more))) (over_less xs both.1)

both_over : (least : ℕ) (xs ys : List ℕ) → IsOver least xs → IsOver least ys → IsOver least (xs ++ ys)
both_over least xs ys first second = list_all-append (nat_lt least) xs ys ∙ and_true (over least xs) (over least ys) first second

pub record IsWord (word : List ℕ) : Type 0 where
  pub plain : IsOver 32 word
  pub some : 0 < length word

-- ---- the words of a line

full_more : (word : List ℕ) (words : List (List ℕ)) → 0 < length word → full (word ∷ words) ≡ word ∷ full words
full_more word words some = rw (test_unequal (length word) 0 (λ same. omega (arith, some, same))) refl

pub next_word : (word rest : List ℕ) → IsWord word → words_of (word ++ (32 ∷ rest)) ≡ word ∷ words_of rest
next_word word rest is =
    ap full (parted_at is_blank word 32 rest (no_blanks word is.plain) refl) ∙ full_more word (parted is_blank rest) is.some

pub last_word : (word : List ℕ) → IsWord word → words_of word ≡ word ∷ []
last_word word is = ap full (parted_none is_blank word (no_blanks word is.plain)) ∙ full_more word [] is.some

-- the words with a space between them, from the left and from the right
joined : (s f k b : List ℕ) → codes "record " ++ s ++ codes " " ++ f ++ codes " " ++ k ++ codes " " ++ b ≡ codes "record" ++ (32 ∷ (s ++ (32 ∷ (f ++ (32 ∷ (k ++ (32 ∷ b)))))))
joined s f k b = simp append_assoc

words_of_line : (s f k b : List ℕ) → IsWord s → IsWord f → IsWord k → IsWord b →
    words_of (codes "record " ++ s ++ codes " " ++ f ++ codes " " ++ k ++ codes " " ++ b) ≡ codes "record" ∷ s ∷ f ∷ k ∷ b ∷ []
words_of_line s f k b is_s is_f is_k is_b =
    ap words_of (joined s f k b)
    ∙ (next_word (codes "record") (s ++ (32 ∷ (f ++ (32 ∷ (k ++ (32 ∷ b)))))) (record { plain = refl; some = lit< tt })
    ∙ ap (λ (ws : List (List ℕ)). codes "record" ∷ ws) (next_word s (f ++ (32 ∷ (k ++ (32 ∷ b)))) is_s
    ∙ ap (λ (ws : List (List ℕ)). s ∷ ws) (next_word f (k ++ (32 ∷ b)) is_f
    ∙ ap (λ (ws : List (List ℕ)). f ∷ ws) (next_word k b is_k ∙ ap (λ (ws : List (List ℕ)). k ∷ ws) (last_word b is_b)))))

line_is_over : (s f k b : List ℕ) → IsWord s → IsWord f → IsWord k → IsWord b → IsOver 31 (codes "record " ++ s ++ codes " " ++ f ++ codes " " ++ k ++ codes " " ++ b)
line_is_over s f k b is_s is_f is_k is_b =
    subst (IsOver 31) (sym (joined s f k b))
    (both_over 31 s (32 ∷ (f ++ (32 ∷ (k ++ (32 ∷ b))))) (over_less s is_s.plain)
    (both_over 31 f (32 ∷ (k ++ (32 ∷ b))) (over_less f is_f.plain)
    (both_over 31 k (32 ∷ b) (over_less k is_k.plain) (over_less b is_b.plain))))

-- ---- numbers

abbrev AreDigits : List ℕ → Type 0
AreDigits ds = list_all is_ascii_digit ds ≡ true

in_range : (c : ℕ) → is_ascii_digit c ≡ true → IsInRange 48 57 c
in_range c is = let both = and_both (nat_le 48 c) (nat_le c 57) is in (tested_at_most 48 c both.0, tested_at_most c 57 both.1)

is_digit : (c : ℕ) → IsInRange 48 57 c → is_ascii_digit c ≡ true
is_digit c range = and_true (nat_le 48 c) (nat_le c 57) (test_at_most 48 c range.0) (test_at_most c 57 range.1)

tells : IsDigitsTest AreDigits
tells = record {
  empty = refl;
  parts = λ c cs are. let both = and_both (is_ascii_digit c) (list_all is_ascii_digit cs) are in (in_range c both.0, both.1);
  more = λ c cs range are. and_true (is_ascii_digit c) (list_all is_ascii_digit cs) (is_digit c range) are;
}

digit_is : (c : ℕ) → IsInRange 48 57 c → digit_value c ≡ c - 48
digit_is c range =
    let low : 48 ≤ c = range.0 in
    let high : c ≤ 57 = range.1 in
    rw (test_not_less c 48 low, test_less c 58 (omega (arith, high))) refl

folds : FoldsDigits (λ n ds. fold (λ n d. n * 10 + digit_value d) n ds)
folds = record {
  empty = λ n. refl;
  more = λ n c cs range. ap (λ (d : ℕ). fold (λ n d. n * 10 + digit_value d) (n * 10 + d) cs) (digit_is c range);
}

own : IsNumeralModel AreDigits (number_of_digits 10)
own = numerals_by_fold AreDigits tells (λ n ds. fold (λ n d. n * 10 + digit_value d) n ds) folds

digit_is_over : (b : ℕ) → is_ascii_digit b ≡ true → nat_lt 32 b ≡ true
digit_is_over b is = let low : 48 ≤ b = (in_range b is).0 in test_less 32 b (omega (arith, low))

digits_are_over : (ds : List ℕ) → AreDigits ds → IsOver 32 ds
digits_are_over [] are = refl
digits_are_over (d ∷ ds) are =
    let both = and_both (is_ascii_digit d) (list_all is_ascii_digit ds) are in
    and_true (nat_lt 32 d) (over 32 ds) (digit_is_over d both.0) (digits_are_over ds both.1)

below : (n : ℕ) → n < 2 ^ 32 → n < 2 ^ 64
below n few = omega (arith, few)

pub decimal_is_word : (n : ℕ) → n < 2 ^ 32 → IsWord (decimal n)
decimal_is_word n few = record { plain = digits_are_over (decimal n) (digits_decimal own n (below n few)); some = decimal_nonempty n (below n few) }

pub number_again : (most n : ℕ) → n ≤ most → n < 2 ^ 32 → number_in most (decimal n) ≡ Ok n
number_again most n inside few =
    let short : length (decimal n) ≤ 10 = length-decimal-le 10 n (lit< tt) (omega (arith, few)) (below n few) in
    let some : nat_lt 0 (length (decimal n)) ≡ true = test_less 0 (length (decimal n)) (decimal_nonempty n (below n few)) in
    let fits : nat_le (length (decimal n)) 10 ≡ true = test_at_most (length (decimal n)) 10 short in
    let digits : list_all is_ascii_digit (decimal n) ≡ true = digits_decimal own n (below n few) in
    (λ i. at_most most (if some i && fits i && digits i then Some (number_of_digits 10 (decimal n)) else None))
    ∙ (ap (λ (number : ℕ). at_most most (Some number)) (digits_value-decimal own n (below n few))
    ∙ ap (λ (b : Bool). if b then Ok n else Err BadNumber) (test_at_most n most inside))

-- ---- bytes

digit_of_table : (n : ℕ) → n < 16 → nat_lt 32 (slice_index lower_digits n) ≡ true
digit_of_table n few = AllPass-from_list_all (nat_lt 32) lower_digits refl n 0 few

digits_of_bytes : (bytes : List ℕ) → IsBytes bytes → IsOver 32 (encode_lower bytes)
unfolding encode_with
digits_of_bytes [] are = refl
digits_of_bytes (b ∷ bytes) are =
    let small : b < 256 = are 0 in
    and_true _ _ (digit_of_table (b / 16) (omega (arith, small)))
    (and_true _ _ (digit_of_table (b % 16) (omega (arith, small))) (digits_of_bytes bytes (λ i. are (suc i))))

some_bytes : (b : ℕ) (bytes : List ℕ) → bytes_word (b ∷ bytes) ≡ encode_lower (b ∷ bytes)
some_bytes b bytes =
    ap (λ (none : Bool). if none then codes "-" else encode_lower (b ∷ bytes)) (test_unequal (length (b ∷ bytes)) 0 (λ same. omega (arith, same)))

digits_are_word : (b : ℕ) (bytes : List ℕ) → IsBytes (b ∷ bytes) → IsWord (encode_lower (b ∷ bytes))
unfolding encode_with
digits_are_word b bytes are = record { plain = digits_of_bytes (b ∷ bytes) are; some = omega arith }

pub bytes_are_word : (bytes : List ℕ) → IsBytes bytes → IsWord (bytes_word bytes)
bytes_are_word [] are = record { plain = refl; some = lit< tt }
bytes_are_word (b ∷ bytes) are = subst IsWord (sym (some_bytes b bytes)) (digits_are_word b bytes are)

-- the bytes that are decoded, or why there are none
abbrev decoded : Result (List ℕ) FromHexError → Result (List ℕ) Reason
decoded r = elim r [ Ok bytes ↦ Ok bytes | Err e ↦ Err BadBytes ]

no_dash : (x y : ℕ) (xs : List ℕ) → bytes_eq (x ∷ y ∷ xs) (codes "-") ≡ false
no_dash x y xs = and_false (x == 45)

by_digits : (word bytes : List ℕ) → bytes_eq word (codes "-") ≡ false → decode_of word ≡ Ok bytes → bytes_in word ≡ Ok bytes
by_digits word bytes none is = ap (λ (b : Bool). if b then Ok [] else decoded (decode_of word)) none ∙ ap decoded is

digits_again : (b : ℕ) (bytes : List ℕ) → IsBytes (b ∷ bytes) → bytes_in (encode_lower (b ∷ bytes)) ≡ Ok (b ∷ bytes)
unfolding encode_with
digits_again b bytes are =
    by_digits (encode_lower (b ∷ bytes)) (b ∷ bytes) (no_dash (slice_index lower_digits (b / 16)) (slice_index lower_digits (b % 16)) (encode_lower bytes))
    (decode_of-encode_lower (b ∷ bytes) are)

pub bytes_again : (bytes : List ℕ) → IsBytes bytes → bytes_in (bytes_word bytes) ≡ Ok bytes
bytes_again [] are = refl
bytes_again (b ∷ bytes) are = ap bytes_in (some_bytes b bytes) ∙ digits_again b bytes are

-- ---- a line says its record

kind_again : (kind : RecordKind) → some_kind (kind_in (kind_word kind)) ≡ Ok kind
kind_again Packet = refl
kind_again Tick = refl
kind_again File = refl
kind_again Half = refl

kind_is_word : (kind : RecordKind) → IsWord (kind_word kind)
kind_is_word Packet = record { plain = refl; some = lit< tt }
kind_is_word Tick = record { plain = refl; some = lit< tt }
kind_is_word File = record { plain = refl; some = lit< tt }
kind_is_word Half = record { plain = refl; some = lit< tt }

moment_again : (said : Said) (seconds subseconds : ℕ) → seconds < 2 ^ 32 → subseconds < 2 ^ 16 →
    moment_set said (decimal seconds) (decimal subseconds) ≡ Ok (record { moment = record { seconds = seconds; subseconds = subseconds }; bytes = said.bytes })
moment_again said seconds subseconds early small = λ i.
    number_again 4294967295 seconds (let few : seconds ≤ 4294967295 = omega (arith, early) in few) early i
    >>= (λ (s : ℕ). number_again 65535 subseconds (let few : subseconds ≤ 65535 = omega (arith, small) in few) (let less : subseconds < 2 ^ 32 = omega (arith, small) in less) i
    >>= (λ (f : ℕ). Ok (record { moment = record { seconds = s; subseconds = f }; bytes = said.bytes })))

record_is_brought : (said : Said) (kind : RecordKind) (body : List ℕ) → IsBytes body → may_bring kind body ≡ true →
    record_brought said (kind_word kind) (bytes_word body) ≡ Ok (recorded kind body said)
record_is_brought said kind body are may =
    (λ i. kind_again kind i >>= (λ (k : RecordKind). bytes_again body are i >>= (λ (bytes : List ℕ). brought k bytes said)))
    ∙ ap (λ (b : Bool). if b then Ok (recorded kind body said) else Err BadBody) may

-- what is said behind a record
abbrev behind : Said → Moment → RecordKind → List ℕ → Said
behind said moment kind body = record { moment = moment; bytes = said.bytes ++ record_bytes moment kind body }

whole_again : (said : Said) (moment : Moment) (kind : RecordKind) (body : List ℕ) → moment.seconds < 2 ^ 32 → moment.subseconds < 2 ^ 16 → IsBytes body → may_bring kind body ≡ true →
    line_said said (codes "record" ∷ decimal moment.seconds ∷ decimal moment.subseconds ∷ kind_word kind ∷ bytes_word body ∷ []) ≡ Ok (behind said moment kind body)
whole_again said moment kind body early small are may =
    ap (λ (r : Result Said Reason). r >>= (λ (there : Said). record_brought there (kind_word kind) (bytes_word body))) (moment_again said moment.seconds moment.subseconds early small)
    ∙ record_is_brought (record { moment = moment; bytes = said.bytes }) kind body are may

line_again : (said : Said) (moment : Moment) (kind : RecordKind) (body : List ℕ) → moment.seconds < 2 ^ 32 → moment.subseconds < 2 ^ 16 → IsBytes body → may_bring kind body ≡ true →
    line_said said (words_of (record_line moment kind body)) ≡ Ok (behind said moment kind body)
line_again said moment kind body early small are may =
    let less : moment.subseconds < 2 ^ 32 = omega (arith, small) in
    ap (line_said said) (words_of_line (decimal moment.seconds) (decimal moment.subseconds) (kind_word kind) (bytes_word body)
    (decimal_is_word moment.seconds early) (decimal_is_word moment.subseconds less) (kind_is_word kind) (bytes_are_word body are))
    ∙ whole_again said moment kind body early small are may

line_is_one : (moment : Moment) (kind : RecordKind) (body more : List ℕ) → moment.seconds < 2 ^ 32 → moment.subseconds < 2 ^ 16 → IsBytes body →
    lines_of ((record_line moment kind body ++ codes "\n") ++ more) ≡ record_line moment kind body ∷ lines_of more
line_is_one moment kind body more early small are =
    let less : moment.subseconds < 2 ^ 32 = omega (arith, small) in
    ap lines_of (append_assoc (record_line moment kind body) (codes "\n") more)
    ∙ parted_at is_feed (record_line moment kind body) 10 more
    (no_feeds (record_line moment kind body) (line_is_over (decimal moment.seconds) (decimal moment.subseconds) (kind_word kind) (bytes_word body)
    (decimal_is_word moment.seconds early) (decimal_is_word moment.subseconds less) (kind_is_word kind) (bytes_are_word body are))) refl

-- ---- all lines

-- the lines behind a line that was judged
abbrev after_line : ℕ → List (List ℕ) → Result Said Reason → Result Said ScriptFault
after_line n lines judged = elim judged [ Err reason ↦ Err (record { line = n; reason = reason }) | Ok after ↦ lines_said after (n + 1) lines ]

one_more_line : (said : Said) (n : ℕ) (moment : Moment) (kind : RecordKind) (body more : List ℕ) → moment.seconds < 2 ^ 32 → moment.subseconds < 2 ^ 16 → IsBytes body → may_bring kind body ≡ true →
    lines_said said n (lines_of ((record_line moment kind body ++ codes "\n") ++ more)) ≡ lines_said (behind said moment kind body) (n + 1) (lines_of more)
one_more_line said n moment kind body more early small are may =
    ap (lines_said said n) (line_is_one moment kind body more early small are)
    ∙ ap (after_line n (lines_of more)) (line_again said moment kind body early small are may)

-- the rest of a stream says its records, whatever was said before
abbrev SaysRest : List ℕ → List ℕ → Type 0
SaysRest script records = (said : Said) (n : ℕ) → stream_of (lines_said said n (lines_of script)) ≡ Ok (said.bytes ++ records)

abbrev okay : List ℕ → Result (List ℕ) ScriptFault
okay bytes = Ok bytes

nothing_more : (said : Said) → okay said.bytes ≡ okay (said.bytes ++ [])
nothing_more said = ap okay (sym (append-nil said.bytes))

says : (most : ℕ) (bytes : List ℕ) → IsBytes bytes → SaysRest (script_within most bytes) (records_within most bytes)
says zero bytes are = λ said n. nothing_more said
says (suc most) bytes are =
    by_front (front_in bytes) refl (says most (drop (record_size bytes) bytes) (bytes_behind (record_size bytes) bytes are))
  where
    by_front : (f : Front) → front_in bytes ≡ f → SaysRest (script_within most (drop (record_size bytes) bytes)) (records_within most (drop (record_size bytes) bytes)) →
        SaysRest (script_by (script_within most) bytes f) (records_by (records_within most) bytes f)
    by_front End is rest said n = nothing_more said
    by_front NoRecord is rest said n = nothing_more said
    by_front Cut is rest said n = nothing_more said
    by_front (Record kind size) is rest said n =
        let there : Stands bytes kind = stands bytes kind size is in
        let moment = has_moment bytes there.long are in
        let body_are : IsBytes (body_in_front bytes) = bytes_behind 11 (take (record_size bytes) bytes) (bytes_before (record_size bytes) bytes are) in
        let more : List ℕ = records_within most (drop (record_size bytes) bytes) in
        let line = one_more_line said n (moment_of bytes) kind (body_in_front bytes) (script_within most (drop (record_size bytes) bytes)) moment.seconds moment.subseconds body_are there.may in
        let next = rest (behind said (moment_of bytes) kind (body_in_front bytes)) (n + 1) in
        let here : (said.bytes ++ record_bytes (moment_of bytes) kind (body_in_front bytes)) ++ more ≡ said.bytes ++ (take (record_size bytes) bytes ++ more) =
        append_assoc said.bytes (record_bytes (moment_of bytes) kind (body_in_front bytes)) more ∙ (λ i. said.bytes ++ (record_again bytes kind are there i ++ more)) in
        ap stream_of line ∙ (next ∙ ap okay here)

pub says_the_records : SaysTheRecords
says_the_records stream are = says (length stream) stream are nothing_said 1
