-- A script whose expectations are comments says what its other lines say.
use Rattle.std.proofs.Common.{◌≡◌, refl, sym, ◌∙◌, ap, subst, ℕ, zero, suc, ◌+◌, Bool, true, false, not, ◌==◌, List, [], ◌∷◌, ◌++◌, length, take, drop, map, Result, Ok, Err, if◌then◌else◌, arith}
use Rattle.std.specs.Prelude.{All, slice_index_or}
use Rattle.std.specs.List.{AllByRecursion, join_with_byte, list_all, prefix_len}
use Rattle.std.proofs.lemmas.List.Folds.{list_all-append}
use Rattle.std.proofs.lemmas.List.Sums.{AllPass-from_list_all}
use Rattle.lc_model.specs.Host.ScheduleText.{is_silent, lines_of, onto_first, parted, words_of}
use Rattle.lc_model.proofs.Facts.{and_both, and_true, test_unequal}
use Rattle.text_lines.specs.Lines.{full, is_blank, is_feed}
use Rattle.text_lines.proofs.Splits.{parted_at, parted_none}
use Rattle.stream_script.specs.declared.error.Reason.{Reason}
use Rattle.stream_script.specs.Error.{ScriptFault}
use Rattle.stream_script.specs.Script.{Said, line_said, lines_said, nothing_said, stream_of}
use Rattle.scenario_trial.specs.Reading.{SilencedSaysTheRest, commented, emptied_line, is_expectation, silenced_in, silenced_line}
use Rattle.scenario_trial.proofs.Lines.{AreSome, some_parts}

-- ---- lines without a line feed

abbrev no_feed : ℕ → Bool
no_feed byte = not (is_feed byte)

abbrev IsFree : List ℕ → Type 0
IsFree line = list_all no_feed line ≡ true

not_true : (b : Bool) → not b ≡ true → b ≡ false
not_true true is = absurd (cc is)
not_true false is = refl

all_free : (line : List ℕ) → IsFree line → All (λ byte. is_feed byte ≡ false) line
all_free line free k d inside = not_true (is_feed (slice_index_or line k d)) (AllPass-from_list_all no_feed line free k d inside)

lines_free : (text : List ℕ) → AllByRecursion IsFree (lines_of text)
lines_free [] = (refl, tt)
lines_free (byte ∷ bytes) = by_test (is_feed byte) refl (some_parts is_feed bytes) (lines_free bytes)
  where
    by_test : (b : Bool) → is_feed byte ≡ b → AreSome (parted is_feed bytes) → AllByRecursion IsFree (parted is_feed bytes) → AllByRecursion IsFree (parted is_feed (byte ∷ bytes))
    by_test true is rest free = rw is (refl, free)
    by_test false is rest free =
        let those : AllByRecursion IsFree (rest.first ∷ rest.others) = subst (AllByRecursion IsFree) rest.are free in
        let here : no_feed byte ≡ true = ap not is in
        rw is (subst (AllByRecursion IsFree) (sym (ap (onto_first byte) rest.are)) (and_true (no_feed byte) (list_all no_feed rest.first) here those.0, those.1))

joined_again : (line : List ℕ) (lines : List (List ℕ)) → AllByRecursion IsFree (line ∷ lines) → lines_of (join_with_byte 10 (line ∷ lines)) ≡ line ∷ lines
joined_again line [] free = parted_none is_feed line (all_free line free.0)
joined_again line (next ∷ lines) free =
    parted_at is_feed line 10 (join_with_byte 10 (next ∷ lines)) (all_free line free.0) refl ∙ ap (λ others. line ∷ others) (joined_again next lines free.1)

-- ---- a comment in the place of an expectation

take_free : (n : ℕ) (line : List ℕ) → IsFree line → IsFree (take n line)
take_free zero line free = refl
take_free (suc n) [] free = refl
take_free (suc n) (byte ∷ bytes) free =
    let both = and_both (no_feed byte) (list_all no_feed bytes) free in and_true (no_feed byte) (list_all no_feed (take n bytes)) both.0 (take_free n bytes both.1)

drop_free : (n : ℕ) (line : List ℕ) → IsFree line → IsFree (drop n line)
drop_free zero line free = free
drop_free (suc n) [] free = refl
drop_free (suc n) (byte ∷ bytes) free = drop_free n bytes (and_both (no_feed byte) (list_all no_feed bytes) free).1

commented_free : (line : List ℕ) → IsFree line → IsFree (commented line)
commented_free line free =
    let blanks : List ℕ = take (prefix_len is_blank line) line in
    let rest : List ℕ = drop 1 (drop (prefix_len is_blank line) line) in
    list_all-append no_feed blanks (35 ∷ rest)
    ∙ and_true (list_all no_feed blanks) (list_all no_feed rest) (take_free (prefix_len is_blank line) line free)
    (drop_free 1 (drop (prefix_len is_blank line) line) (drop_free (prefix_len is_blank line) line free))

silenced_free : (line : List ℕ) → IsFree line → IsFree (silenced_line line)
silenced_free line free = by_test (is_expectation (words_of line))
  where
    by_test : (b : Bool) → IsFree (if b then commented line else line)
    by_test true = commented_free line free
    by_test false = free

all_silenced_free : (lines : List (List ℕ)) → AllByRecursion IsFree lines → AllByRecursion IsFree (map silenced_line lines)
all_silenced_free [] free = tt
all_silenced_free (line ∷ lines) free = (silenced_free line free.0, all_silenced_free lines free.1)

-- ---- a comment says nothing

blank_first : (bytes rest : List ℕ) → list_all is_blank bytes ≡ true → words_of (bytes ++ rest) ≡ words_of rest
blank_first [] rest all = refl
blank_first (byte ∷ bytes) rest all =
    let both = and_both (is_blank byte) (list_all is_blank bytes) all in rw both.0 (blank_first bytes rest both.1)

front_blank : (line : List ℕ) → list_all is_blank (take (prefix_len is_blank line) line) ≡ true
front_blank [] = refl
front_blank (byte ∷ bytes) = by_test (is_blank byte) refl (front_blank bytes)
  where
    by_test : (b : Bool) → is_blank byte ≡ b → list_all is_blank (take (prefix_len is_blank bytes) bytes) ≡ true →
        list_all is_blank (take (prefix_len is_blank (byte ∷ bytes)) (byte ∷ bytes)) ≡ true
    by_test true is rest =
        let next : 1 + prefix_len is_blank bytes ≡ suc (prefix_len is_blank bytes) = omega arith in
        rw is (ap (λ n. list_all is_blank (take n (byte ∷ bytes))) next ∙ and_true (is_blank byte) (list_all is_blank (take (prefix_len is_blank bytes) bytes)) is rest)
    by_test false is rest = rw is refl

mark_silent : (rest : List ℕ) → is_silent (words_of (35 ∷ rest)) ≡ true
mark_silent rest = by_parts (parted is_blank rest) (some_parts is_blank rest)
  where
    by_parts : (parts : List (List ℕ)) → AreSome parts → is_silent (full (onto_first 35 parts)) ≡ true
    by_parts parts some =
        let long : (length (35 ∷ some.first) == 0) ≡ false = test_unequal (length (35 ∷ some.first)) 0 (λ same. omega (arith, same)) in
        ap (λ (all : List (List ℕ)). is_silent (full (onto_first 35 all))) some.are ∙ rw long refl

comment_silent : (line : List ℕ) → is_silent (words_of (commented line)) ≡ true
comment_silent line =
    let rest : List ℕ = drop 1 (drop (prefix_len is_blank line) line) in
    ap is_silent (blank_first (take (prefix_len is_blank line) line) (35 ∷ rest) (front_blank line)) ∙ mark_silent rest

says_nothing : (said : Said) (words : List (List ℕ)) → is_silent words ≡ true → line_said said words ≡ Ok said
says_nothing said words silent = rw silent refl

same_line : (said : Said) (line : List ℕ) → line_said said (words_of (silenced_line line)) ≡ line_said said (words_of (emptied_line line))
same_line said line = by_test (is_expectation (words_of line))
  where
    by_test : (b : Bool) → line_said said (words_of (if b then commented line else line)) ≡ line_said said (words_of (if b then [] else line))
    by_test true = says_nothing said (words_of (commented line)) (comment_silent line)
    by_test false = refl

-- ---- all lines

-- the lines from this number on, behind the answer to the first
abbrev said_by : ℕ → (Said → Result Said ScriptFault) → Result Said Reason → Result Said ScriptFault
said_by n others (Err reason) = Err (record { line = n; reason = reason })
said_by n others (Ok after) = others after

one_line : (said : Said) (n : ℕ) (line : List ℕ) (lines : List (List ℕ)) →
    lines_said said n (line ∷ lines) ≡ said_by n (λ after. lines_said after (n + 1) lines) (line_said said (words_of line))
one_line said n line lines = by_answer (line_said said (words_of line))
  where
    by_answer : (r : Result Said Reason) →
        elim r [ Err reason ↦ Err (record { line = n; reason = reason }) | Ok after ↦ lines_said after (n + 1) lines ] ≡ said_by n (λ after. lines_said after (n + 1) lines) r
    by_answer (Err reason) = refl
    by_answer (Ok after) = refl

same_lines : (said : Said) (n : ℕ) (lines : List (List ℕ)) → lines_said said n (map silenced_line lines) ≡ lines_said said n (map emptied_line lines)
same_lines said n [] = refl
same_lines said n (line ∷ lines) =
    one_line said n (silenced_line line) (map silenced_line lines)
    ∙ ap (said_by n (λ after. lines_said after (n + 1) (map silenced_line lines))) (same_line said line)
    ∙ by_answer (line_said said (words_of (emptied_line line))) (λ after. same_lines after (n + 1) lines)
    ∙ sym (one_line said n (emptied_line line) (map emptied_line lines))
  where
    by_answer : (r : Result Said Reason) → ((after : Said) → lines_said after (n + 1) (map silenced_line lines) ≡ lines_said after (n + 1) (map emptied_line lines)) →
        said_by n (λ after. lines_said after (n + 1) (map silenced_line lines)) r ≡ said_by n (λ after. lines_said after (n + 1) (map emptied_line lines)) r
    by_answer (Err reason) rest = refl
    by_answer (Ok after) rest = rest after

pub lines_again : (script : List ℕ) → lines_of (silenced_in script) ≡ map silenced_line (lines_of script)
lines_again script = by_parts (lines_of script) (some_parts is_feed script) (lines_free script)
  where
    by_parts : (parts : List (List ℕ)) → AreSome parts → AllByRecursion IsFree parts → lines_of (join_with_byte 10 (map silenced_line parts)) ≡ map silenced_line parts
    by_parts parts some free =
        subst (λ (all : List (List ℕ)). lines_of (join_with_byte 10 (map silenced_line all)) ≡ map silenced_line all) (sym some.are)
        (joined_again (silenced_line some.first) (map silenced_line some.others) (all_silenced_free (some.first ∷ some.others) (subst (AllByRecursion IsFree) some.are free)))

pub silenced_says_the_rest : SilencedSaysTheRest
silenced_says_the_rest script = ap (λ lines. stream_of (lines_said nothing_said 1 lines)) (lines_again script) ∙ ap stream_of (same_lines nothing_said 1 (lines_of script))
