-- Where a line with a number begins, and which places are on it.
use Rattle.std.proofs.Common.{◌≡◌, ◌≢◌, ◌+◌, ◌-◌, ◌<◌, ◌≤◌, ◌==◌, ℕ, Bool, true, false, not, zero, suc, cond, List, [], ◌∷◌, length, take, drop, slice_index, count_by, refl, sym, ◌∙◌, ap, subst, arith, take_all, take-add, length-take, length-drop, le_refl, le_of_eq, IfOk, IsSomeAnd, Result, Ok, Err, eq-eqb, ne_eqb}
use Rattle.std.specs.List.{prefix_len}
use Rattle.std.proofs.lemmas.List.Sums.{count_by_more_yes, count_by_more_no, sum_by-append, sum_by-cons}
use Rattle.diagnostics.specs.Line.{is_line_byte, is_line_feed, line_feed, line_number, line_of, line_start}
use Rattle.diagnostics.specs.Message.{IsAt}
use Rattle.diagnostics.specs.declared.message.Message.{Message}
use Rattle.script_errors.specs.Line.{IsLine, IsLineBegin, line_count}
use Rattle.script_errors.specs.Telling.{IsOn, IsOnLine}
use Rattle.script_errors.specs.declared.line.Line.{Line}

-- ---- going on by a byte

pub number_behind_feed : (text : List ℕ) (at : ℕ) → at < length text → slice_index text at ≡ line_feed
    → line_number text (at + 1) ≡ line_number text at + 1
number_behind_feed text at inside feed =
    ap (λ n. n + 1) (count_by_more_yes is_line_feed text at 0 inside (eq-eqb (slice_index text at) line_feed feed))

pub number_behind_other : (text : List ℕ) (at : ℕ) → at < length text → slice_index text at ≢ line_feed
    → line_number text (at + 1) ≡ line_number text at
number_behind_other text at inside other =
    ap (λ n. n + 1) (count_by_more_no is_line_feed text at 0 inside (ne_eqb (slice_index text at) line_feed other))

by_byte : (byte x y : ℕ) → byte ≡ line_feed → cond (byte == line_feed) x y ≡ x
by_byte byte x y e = rw e refl

pub start_behind_feed : (text : List ℕ) (at : ℕ) → slice_index text at ≡ line_feed → line_start text (at + 1) ≡ at + 1
unfolding line_start
start_behind_feed text at feed = subst (λ n. line_start text n ≡ n) (the_next at) (by_byte (slice_index text at) (suc at) (line_start text at) feed)
  where
    the_next : (at : ℕ) → suc at ≡ at + 1
    the_next at = omega arith

pub start_of_text : (text : List ℕ) → line_start text 0 ≡ 0
unfolding line_start
start_of_text text = refl

-- what the search for a line keeps
abbrev pub Keeps : List ℕ → (number at line : ℕ) → Type 0
Keeps text number at line = (at ≤ length text) × (line ≡ line_number text at) × (line ≤ number) × (number ≤ line → line_start text at ≡ at)

pub kept_behind_feed : (text : List ℕ) (number at line next : ℕ) → at < length text → line < number → line ≡ line_number text at
    → slice_index text at ≡ line_feed → next ≡ line + 1 → Keeps text number (at + 1) next
kept_behind_feed text number at line next inside below is feed more = (
  omega (arith, inside),
  more ∙ ap (λ n. n + 1) is ∙ sym (number_behind_feed text at inside feed),
  omega (arith, below, more),
  λ _. start_behind_feed text at feed,
)

pub kept_behind_other : (text : List ℕ) (number at line next : ℕ) → at < length text → line < number → line ≡ line_number text at
    → slice_index text at ≢ line_feed → next ≡ line → Keeps text number (at + 1) next
kept_behind_other text number at line next inside below is other same = (
  omega (arith, inside),
  same ∙ is ∙ sym (number_behind_other text at inside other),
  omega (arith, below, same),
  λ reached. absurd (omega (arith, below, same, reached)),
)

pub found_line : (text : List ℕ) (number at line : ℕ) → Keeps text number at line → number ≤ line → IsLineBegin text number at
found_line text number at line kept reached = record {
  within = kept.0;
  first = kept.3 reached;
  line = sym kept.1 ∙ omega (arith, kept.2, reached);
}

-- the last line's number is how many lines there are
pub number_at_end : (text : List ℕ) → line_number text (length text) ≡ line_count text
number_at_end text = ap (λ bytes. count_by is_line_feed bytes + 1) (take_all (length text) text (le_refl (length text)))

pub found_last : (text : List ℕ) (number at line : ℕ) → Keeps text number at line → length text ≤ at → number ≤ line_count text
    → IsLineBegin text number at
found_last text number at line kept end there =
    let whole : at ≡ length text = omega (arith, kept.0, end) in
    let last : line ≡ line_count text = kept.1 ∙ ap (λ n. line_number text n) whole ∙ number_at_end text in
    found_line text number at line kept (omega (arith, last, there))

-- ---- places on a line

one_byte : (n byte : ℕ) (bytes : List ℕ) (b : Bool) → (byte == line_feed) ≡ b → suc n ≤ prefix_len is_line_byte (byte ∷ bytes)
    → (n ≤ prefix_len is_line_byte bytes → count_by is_line_feed (take n bytes) ≡ 0) → count_by is_line_feed (byte ∷ take n bytes) ≡ 0
one_byte n byte bytes true is short rest =
    let none : prefix_len is_line_byte (byte ∷ bytes) ≡ 0 = ap (λ t. cond (not t) (1 + prefix_len is_line_byte bytes) 0) is in
    absurd (omega (arith, short, none))
one_byte n byte bytes false is short rest =
    let more : prefix_len is_line_byte (byte ∷ bytes) ≡ 1 + prefix_len is_line_byte bytes = ap (λ t. cond (not t) (1 + prefix_len is_line_byte bytes) 0) is in
    let first : ◌≡◌ {A = ℕ} (cond (is_line_feed byte) 1 0) 0 = ap (λ t. cond {A = ℕ} t 1 0) is in
    let whole = sum_by-cons (λ x. cond (is_line_feed x) 1 0) byte (take n bytes) in
    let none = rest (omega (arith, short, more)) in
    omega (arith, first, whole, none)

no_feeds : (n : ℕ) (bytes : List ℕ) → n ≤ prefix_len is_line_byte bytes → count_by is_line_feed (take n bytes) ≡ 0
no_feeds zero bytes short = refl
no_feeds (suc n) [] short = absurd (omega (arith, short))
no_feeds (suc n) (byte ∷ bytes) short = one_byte n byte bytes (byte == line_feed) refl short (no_feeds n bytes)

count_of_parts : (n m : ℕ) (text : List ℕ)
    → count_by is_line_feed (take (n + m) text) ≡ count_by is_line_feed (take n text) + count_by is_line_feed (take m (drop n text))
count_of_parts n m text =
    ap (λ bytes. count_by is_line_feed bytes) (take-add n m text)
    ∙ sum_by-append (λ x. cond (is_line_feed x) 1 0) (take n text) (take m (drop n text))

taken_within : (n k : ℕ) (bytes : List ℕ) → n ≤ length (take k bytes) → n ≤ k
taken_within n k bytes short = let size = length-take k bytes in grind (arith, size, short)

number_on : (text : List ℕ) (begin offset size : ℕ) → offset ≤ length (take (prefix_len is_line_byte (drop begin text)) (drop begin text))
    → line_number text (begin + offset) ≡ line_number text begin
number_on text begin offset size short =
    let whole = count_of_parts begin offset text in
    let none = no_feeds offset (drop begin text) (taken_within offset (prefix_len is_line_byte (drop begin text)) (drop begin text) short) in
    omega (arith, whole, none)

-- the line that begins there, as far as the next line feed
pub line_from : (text : List ℕ) (number begin : ℕ) (line : Line) → IsLineBegin text number begin → line.begin ≡ begin
    → line.bytes.now ≡ line_of text begin → IsLine text number line
line_from text number begin line begins is_begin is_bytes =
    let rest : List ℕ = drop begin text in
    let size : ℕ = prefix_len is_line_byte rest in
    let bytes : line.bytes.now ≡ take size rest = is_bytes ∙ ap (λ at. take (prefix_len is_line_byte (drop at text)) (drop at text)) begins.first in
    let taken : length line.bytes.now ≡ length (take size rest) = ap length bytes in
    record {
      within = let a = length-take size rest in let b = length-drop begin text in let c = begins.within in grind (arith, is_begin, taken, a, b, c);
      on = λ offset short.
          ap (λ at. line_number text (at + offset)) is_begin
          ∙ number_on text begin offset size (omega (arith, short, taken)) ∙ begins.line;
    }

-- ---- messages on a line

on_line : (text : List ℕ) (number : ℕ) (line : Line) (at : ℕ) → 1 ≤ number → IsLine text number line → line.begin ≤ at
    → at ≤ line.begin + length line.bytes.now → IsOnLine text number at
on_line text number line at some is from to =
    let whole : line.begin + (at - line.begin) ≡ at = omega (arith, from) in
    record {
      within = omega (arith, to, is.within);
      on = λ positive. ap (λ n. line_number text n) (sym whole) ∙ is.on (at - line.begin) (omega (arith, from, to));
      end = λ none. absurd (omega (arith, some, none));
    }

-- a message at a place of a line is on it
pub is_on : {E : Type 0} (text : List ℕ) (number : ℕ) (line : Line) (code at : ℕ) (result : Result Message E) → line.begin ≤ at
    → at ≤ line.begin + length line.bytes.now → IfOk result (IsAt code at) → 1 ≤ number → IsLine text number line
    → IfOk result (IsOn text code number)
is_on text number line code at (Ok message) from to told some is =
    record { told = told.0; place = subst (λ p. IsSomeAnd p (IsOnLine text number)) (sym told.1) (on_line text number line at some is from to) }
is_on text number line code at (Err failed) from to told some is = told

-- a message at the text's end
pub is_at_end : (text : List ℕ) (code at : ℕ) (message : Message) → at ≡ length text → IsAt code at message → IsOn text code 0 message
is_at_end text code at message end told = record {
  told = told.0;
  place = subst (λ p. IsSomeAnd p (IsOnLine text 0)) (sym told.1) (record { within = le_of_eq end; on = λ some. absurd (omega (arith, some)); end = λ none. end });
}
