-- What a pass over an entry's words leaves behind the last: the answers of the definitions' tests.
use Rattle.std.proofs.Common.{◌≡◌, refl, sym, ◌∙◌, ap, subst, ℕ, suc, ◌+◌, ◌-◌, ◌<◌, Bool, true, false, not, cond, ◌&&◌, ◌||◌, nat_lt, ◌==◌, List, [], ◌∷◌, ◌++◌, length, take, drop, count_by, fold, get_or, arith, append-nil, append_assoc}
use Rattle.std.specs.List.{list_any, list_all, position_or_len}
use Rattle.std.proofs.lemmas.List.{drop_more, take-append-drop}
use Rattle.std.proofs.lemmas.List.Sums.{sum_by-append, fold-append}
use Rattle.lc_model.specs.Tables.Equation.{equal_word, is_mention, is_binary, waiting}
use Rattle.lc_model.specs.Tables.Image.{first_code, most_waiting, operands_of, with_words_before, words_before_equal, words_after_equal}
use Rattle.lc_model.proofs.Tables.SoundWords.{unknown, missing, too_few, too_many}
use Rattle.lc_model.proofs.Facts.{or_false, tested_equal, or_assoc, unequal_turned}
use Rattle.table_validator.specs.declared.operands.OperandCount.{OperandCount}
use Rattle.table_validator.specs.declared.equation_words.WordScan.{WordScan}
use Rattle.table_validator.specs.Scan.{operands_waiting, word_counted, unread, word_read, scan_tests, word_tests}

-- ---- truth values

or_and : (a b c : Bool) → ((a || not b) || not c) ≡ (a || not (b && c))
or_and true b c = refl
or_and false true c = refl
or_and false false c = refl

-- ---- what stands before and after the first EQUAL

before_later : (w : ℕ) (ws : List ℕ) → (w == equal_word) ≡ false → words_before_equal (w ∷ ws) ≡ w ∷ words_before_equal ws
before_later w ws e =
    let p : ℕ → Bool = λ w. w == equal_word in
    let one : 1 + position_or_len p ws ≡ suc (position_or_len p ws) = omega arith in
    ap (λ b. take (cond (not b) (1 + position_or_len p ws) 0) (w ∷ ws)) e ∙ ap (λ n. take n (w ∷ ws)) one

after_later : (w : ℕ) (ws : List ℕ) → (w == equal_word) ≡ false → words_after_equal (w ∷ ws) ≡ words_after_equal ws
after_later w ws e =
    let p : ℕ → Bool = λ w. w == equal_word in
    let one : 1 + position_or_len p ws + 1 ≡ suc (position_or_len p ws + 1) = omega arith in
    ap (λ b. drop (cond (not b) (1 + position_or_len p ws) 0 + 1) (w ∷ ws)) e ∙ ap (λ n. drop n (w ∷ ws)) one

-- an equation that ends is shorter than its words
pub ends_before : (ws : List ℕ) → list_any (◌==◌ equal_word) ws ≡ true → length (words_before_equal ws) < length ws
ends_before [] e = absurd (cc e)
ends_before (w ∷ ws) e = go (w == equal_word) refl (ends_before ws)
  where
    go : (b : Bool) → (w == equal_word) ≡ b → (list_any (◌==◌ equal_word) ws ≡ true → length (words_before_equal ws) < length ws) →
        length (words_before_equal (w ∷ ws)) < length (w ∷ ws)
    go true is others = rw is (omega arith)
    go false is others =
        let rest : list_any (◌==◌ equal_word) ws ≡ true = rw (unequal_turned w equal_word is) at e in
        rw (before_later w ws is) (omega (arith, others rest))

-- ---- counts of operands

-- the counts are those of the words
record CountsOf (ws : List ℕ) (m j : ℕ) : Type 0 where
  ms : m ≡ count_by is_mention ws
  js : j ≡ count_by is_binary ws

counts_more : (ws : List ℕ) (m j w : ℕ) → CountsOf ws m j → CountsOf (ws ++ w ∷ []) (m + cond (is_mention w) 1 0) (j + cond (is_binary w) 1 0)
counts_more ws m j w c = record {
  ms = omega (arith, c.ms, sum_by-append (λ w. cond (is_mention w) 1 0) ws (w ∷ []));
  js = omega (arith, c.js, sum_by-append (λ w. cond (is_binary w) 1 0) ws (w ∷ []));
}

waits : (ws : List ℕ) (m j : ℕ) → CountsOf ws m j → waiting ws ≡ m - j
waits ws m j c = λ i. sym c.ms i - sym c.js i

-- ---- a pass

-- Below, u, v, c and d say whether an unknown word, an unknown watchpoint, a missing operand and a ninth one were met so far;
-- m and j are the mentions and the binary operators so far.

-- before EQUAL
abbrev scan_before : (u v c d : Bool) (m j : ℕ) → WordScan
scan_before u v c d m j = record {
  ended = false;
  word_behind = false;
  unknown_word = u;
  unknown_watchpoint = v;
  operands = record { mentions = m; joins = j; missing = c; crowded = d };
}

-- behind EQUAL
abbrev scan_behind : (b u v : Bool) (o : OperandCount) → WordScan
scan_behind b u v o = record { ended = true; word_behind = b; unknown_word = u; unknown_watchpoint = v; operands = o }

behind : (count : ℕ) (ws : List ℕ) (b u v : Bool) (o : OperandCount) →
    fold (word_read count) (scan_behind b u v o) ws ≡ scan_behind (b || not (list_all (◌==◌ 0) ws)) u v o
behind count [] b u v o = ap (λ x. scan_behind x u v o) (sym (or_false b))
behind count (w ∷ ws) b u v o =
    behind count ws (b || not (0 == w)) u v o ∙ ap (λ x. scan_behind x u v o) (or_and b (0 == w) (list_all (◌==◌ 0) ws))

-- of the words behind EQUAL it counts alone whether one is not 0
pub reads_behind : (count : ℕ) (scan : WordScan) (ws : List ℕ) → scan.ended ≡ true →
    fold (word_read count) scan ws ≡ record scan { word_behind = scan.word_behind || not (list_all (◌==◌ 0) ws) }
reads_behind count scan ws is =
    subst (λ (e : Bool). fold (word_read count) (record scan { ended = e }) ws
    ≡ record scan { ended = e; word_behind = scan.word_behind || not (list_all (◌==◌ 0) ws) }) (sym is)
    (behind count ws scan.word_behind scan.unknown_word scan.unknown_watchpoint scan.operands)

-- words that are read up to one, that one, and those behind it are all words
pub read_to_the_end : (count : ℕ) (ws : List ℕ) (n : ℕ) (scan here all : WordScan) → n < length ws → scan ≡ fold (word_read count) unread (take n ws) →
    here ≡ word_read count scan (get_or ws n 0) → all ≡ fold (word_read count) here (drop (n + 1) ws) → all ≡ fold (word_read count) unread ws
read_to_the_end count ws n scan here all within before one rest =
    rest ∙ ap (λ (s : WordScan). fold (word_read count) s (drop (n + 1) ws)) one
    ∙ ap (fold (word_read count) scan) (sym (drop_more ws n 0 within))
    ∙ ap (λ (s : WordScan). fold (word_read count) s (drop n ws)) before
    ∙ sym (fold-append (word_read count) unread (take n ws) (drop n ws))
    ∙ ap (fold (word_read count) unread) (take-append-drop n ws)

-- behind one word that is not EQUAL
abbrev scan_after : (count w : ℕ) (u v c d : Bool) (m j : ℕ) → WordScan
scan_after count w u v c d m j =
    scan_before (u || unknown w) (v || missing count w) (c || nat_lt (m - j) (operands_of w)) (d || nat_lt most_waiting (m - j))
    (m + cond (is_mention w) 1 0) (j + cond (is_binary w) 1 0)

one_word : (count w : ℕ) (u v c d : Bool) (m j : ℕ) → (w == equal_word) ≡ false →
    word_read count (scan_before u v c d m j) w ≡ scan_after count w u v c d m j
one_word count w u v c d m j e = rw e refl

-- without EQUAL the pass never ends
never_ended : (count : ℕ) (ws : List ℕ) (u v c d : Bool) (m j : ℕ) → list_any (◌==◌ equal_word) ws ≡ false →
    (fold (word_read count) (scan_before u v c d m j) ws).ended ≡ false
never_ended count [] u v c d m j e = refl
never_ended count (w ∷ ws) u v c d m j e =
    go (w == equal_word) refl (never_ended count ws (u || unknown w) (v || missing count w) (c || nat_lt (m - j) (operands_of w)) (d || nat_lt most_waiting (m - j))
    (m + cond (is_mention w) 1 0) (j + cond (is_binary w) 1 0))
  where
    go : (b : Bool) → (w == equal_word) ≡ b → (list_any (◌==◌ equal_word) ws ≡ false → (fold (word_read count) (scan_after count w u v c d m j) ws).ended ≡ false) →
        (fold (word_read count) (scan_before u v c d m j) (w ∷ ws)).ended ≡ false
    go true is others = let same : w ≡ equal_word = tested_equal w equal_word is in absurd (cc (rw same at e))
    go false is others =
        let rest : list_any (◌==◌ equal_word) ws ≡ false = rw (unequal_turned w equal_word is) at e in
        ap (λ (s : WordScan). (fold (word_read count) s ws).ended) (one_word count w u v c d m j is) ∙ others rest

-- what the pass leaves, where these words stand before EQUAL and those after it
record Leaves (count : ℕ) (before front rest : List ℕ) (u v c d : Bool) (scan : WordScan) : Type 0 where
  ended : scan.ended ≡ true
  word_behind : scan.word_behind ≡ not (list_all (◌==◌ 0) rest)
  unknown_word : scan.unknown_word ≡ (u || list_any unknown front)
  unknown_watchpoint : scan.unknown_watchpoint ≡ (v || list_any (missing count) front)
  lacks : scan.operands.missing ≡ (c || list_any too_few (with_words_before before (front ++ equal_word ∷ [])))
  crowds : scan.operands.crowded ≡ (d || list_any too_many (with_words_before before (front ++ equal_word ∷ [])))
  left_over : operands_waiting scan.operands ≡ waiting (before ++ front)

at_equal : (count : ℕ) (before rest : List ℕ) (u v c d : Bool) (m j : ℕ) → CountsOf before m j →
    Leaves count before [] rest u v c d (fold (word_read count) (scan_before u v c d m j) (equal_word ∷ rest))
at_equal count before rest u v c d m j counts =
    let wait : waiting before ≡ m - j = waits before m j counts in
    let all : fold (word_read count) (scan_before u v c d m j) (equal_word ∷ rest)
    ≡ scan_behind (not (list_all (◌==◌ 0) rest)) u v (word_counted (record { mentions = m; joins = j; missing = c; crowded = d }) equal_word) =
    behind count rest false u v (word_counted (record { mentions = m; joins = j; missing = c; crowded = d }) equal_word) in
    subst (λ (s : WordScan). Leaves count before [] rest u v c d s) (sym all) (record {
      ended = refl;
      word_behind = refl;
      unknown_word = sym (or_false u);
      unknown_watchpoint = sym (or_false v);
      lacks = ap (λ x. c || x) (ap (λ n. nat_lt n 1) (sym wait) ∙ sym (or_false (nat_lt (waiting before) 1)));
      crowds = ap (λ x. d || x) (ap (λ n. nat_lt most_waiting n) (sym wait) ∙ sym (or_false (nat_lt most_waiting (waiting before))));
      left_over = omega (arith, ap waiting (append-nil before) ∙ wait);
    })

-- behind one word more, of the words from there on
word_before : (count w : ℕ) (before front rest : List ℕ) (u v c d : Bool) (m j : ℕ) (scan : WordScan) → CountsOf before m j →
    Leaves count (before ++ w ∷ []) front rest (u || unknown w) (v || missing count w) (c || nat_lt (m - j) (operands_of w)) (d || nat_lt most_waiting (m - j)) scan →
    Leaves count before (w ∷ front) rest u v c d scan
word_before count w before front rest u v c d m j scan counts l =
    let wait : waiting before ≡ m - j = waits before m j counts in
    let steps : List (List ℕ × ℕ) = with_words_before (before ++ w ∷ []) (front ++ equal_word ∷ []) in
    record {
      ended = l.ended;
      word_behind = l.word_behind;
      unknown_word = l.unknown_word ∙ or_assoc u (unknown w) (list_any unknown front);
      unknown_watchpoint = l.unknown_watchpoint ∙ or_assoc v (missing count w) (list_any (missing count) front);
      lacks = l.lacks ∙ or_assoc c (nat_lt (m - j) (operands_of w)) (list_any too_few steps)
          ∙ ap (λ n. c || (nat_lt n (operands_of w) || list_any too_few steps)) (sym wait);
      crowds = l.crowds ∙ or_assoc d (nat_lt most_waiting (m - j)) (list_any too_many steps)
          ∙ ap (λ n. d || (nat_lt most_waiting n || list_any too_many steps)) (sym wait);
      left_over = l.left_over ∙ ap waiting (append_assoc before (w ∷ []) front);
    }

-- behind one word more, as the words from there on leave it
abbrev LeavesBehind : (count w : ℕ) (before ws : List ℕ) (u v c d : Bool) (m j : ℕ) → WordScan → Type 0
LeavesBehind count w before ws u v c d m j scan =
    Leaves count (before ++ w ∷ []) (words_before_equal ws) (words_after_equal ws) (u || unknown w) (v || missing count w)
    (c || nat_lt (m - j) (operands_of w)) (d || nat_lt most_waiting (m - j)) scan

leaves : (count : ℕ) (ws before : List ℕ) (u v c d : Bool) (m j : ℕ) → CountsOf before m j → list_any (◌==◌ equal_word) ws ≡ true →
    Leaves count before (words_before_equal ws) (words_after_equal ws) u v c d (fold (word_read count) (scan_before u v c d m j) ws)
leaves count [] before u v c d m j counts e = absurd (cc e)
leaves count (w ∷ ws) before u v c d m j counts e =
    go (w == equal_word) refl (leaves count ws (before ++ w ∷ []) (u || unknown w) (v || missing count w) (c || nat_lt (m - j) (operands_of w)) (d || nat_lt most_waiting (m - j))
    (m + cond (is_mention w) 1 0) (j + cond (is_binary w) 1 0) (counts_more before m j w counts))
  where
    go : (b : Bool) → (w == equal_word) ≡ b → (list_any (◌==◌ equal_word) ws ≡ true → LeavesBehind count w before ws u v c d m j (fold (word_read count) (scan_after count w u v c d m j) ws)) →
        Leaves count before (words_before_equal (w ∷ ws)) (words_after_equal (w ∷ ws)) u v c d (fold (word_read count) (scan_before u v c d m j) (w ∷ ws))
    go true is others = subst (λ x. Leaves count before (words_before_equal (x ∷ ws)) (words_after_equal (x ∷ ws)) u v c d (fold (word_read count) (scan_before u v c d m j) (x ∷ ws)))
        (sym (tested_equal w equal_word is)) (at_equal count before ws u v c d m j counts)
    go false is others =
        let rest : list_any (◌==◌ equal_word) ws ≡ true = rw (unequal_turned w equal_word is) at e in
        let here : LeavesBehind count w before ws u v c d m j (fold (word_read count) (scan_before u v c d m j) (w ∷ ws)) =
        subst (λ (s : WordScan). LeavesBehind count w before ws u v c d m j (fold (word_read count) s ws)) (sym (one_word count w u v c d m j is)) (others rest) in
        rw (before_later w ws is, after_later w ws is)
        (word_before count w before (words_before_equal ws) (words_after_equal ws) u v c d m j (fold (word_read count) (scan_before u v c d m j) (w ∷ ws)) counts here)

-- the least code of what was read is that of the words
pub words_are_read : (count : ℕ) (ws : List ℕ) → first_code (scan_tests (fold (word_read count) unread ws)) ≡ first_code (word_tests count ws)
words_are_read count ws = go (list_any (◌==◌ equal_word) ws) refl
  where
    none_read : CountsOf [] 0 0
    none_read = record { ms = refl; js = refl }

    go : (b : Bool) → list_any (◌==◌ equal_word) ws ≡ b → first_code (scan_tests (fold (word_read count) unread ws)) ≡ first_code (word_tests count ws)
    go false is = rw (never_ended count ws false false false false 0 0 is, is) refl
    go true is =
        let l : Leaves count [] (words_before_equal ws) (words_after_equal ws) false false false false (fold (word_read count) unread ws) =
        leaves count ws [] false false false false 0 0 none_read is in
        ap first_code (λ i. (not ((l.ended ∙ sym is) i), 74) ∷ (l.word_behind i, 75) ∷ (l.unknown_word i, 76) ∷ (l.unknown_watchpoint i, 77)
        ∷ (l.lacks i, 78) ∷ (l.crowds i, 79) ∷ (nat_lt 1 (l.left_over i), 80) ∷ [])
