-- Pieces, as they are taken off a text.
use Rattle.std.proofs.Common.{◌≡◌, ◌≢◌, refl, sym, ◌∙◌, ap, subst, ℕ, zero, suc, ◌+◌, ◌≤◌, ◌<◌, Bool, true, false, cond, ◌==◌, List, [], ◌∷◌, ◌++◌, length, take, drop, get_or, take-append-drop, append-nil, append_assoc, arith}
use Rattle.std.specs.Prelude.{IsTrue}
use Rattle.std.specs.List.{prefix_len}
use Rattle.std.proofs.lemmas.List.Sums.{prefix_len-le-length}
use Rattle.lc_model.specs.Text.Token as model
use Rattle.lc_model.specs.Text.Token.{Cuts, IsLongest, Splits, is_blank, is_token, line_feed}
use Rattle.rule_lexer.specs.declared.token.Token.{Token as LexedToken}
use Rattle.rule_lexer.specs.Token.{token_of, tokens_of}
use Rattle.rule_layout.specs.Shapes.{HasShapes, Shape, blank, comment, is_comment, line, lines_after, none, one_line_more, token}
use Rattle.rule_layout.specs.Pieces.{HasSkipped, HasTaken, SplitsInto, begins_blank, is_line_byte}
use Rattle.lc_model.proofs.Facts.{tested_equal, tested_unequal}
use Rattle.rule_layout.proofs.Fronts.{HasComment, HasToken, at_token, behind_blank, behind_comment}

-- ---- blanks

pub not_skipped : (text : List ℕ) (tokens : List LexedToken) → SplitsInto text tokens → HasSkipped text text 0 tokens
not_skipped text tokens splits = record { shapes = λ shapes has. has; splits = splits; fewer = omega arith; few = omega arith }

-- one blank more was skipped
pub skipped_more : (text rest next : List ℕ) (lines more : ℕ) (tokens left : List LexedToken) → HasSkipped text rest lines tokens → 0 < length rest →
    is_blank (get_or rest 0 0) ≡ true → next ≡ drop 1 rest → more ≡ lines_after lines (get_or rest 0 0) → more ≤ 2 → left ≡ tokens →
    HasSkipped text next more left
skipped_more text [] next lines more tokens left so some is e count few same = absurd (omega (arith, some))
skipped_more text (c ∷ cs) next lines more tokens left so some is e count few same = record {
  shapes = λ shapes has. so.shapes shapes (step (c == line_feed) refl shapes (subst (λ t. HasShapes more t shapes) behind has));
  splits = (so.splits.0 + 1, so.splits.1, cuts);
  fewer = let before = so.fewer in let size : length next ≡ length cs = ap length behind in omega (arith, before, size);
  few = few;
}
  where
    behind : next ≡ cs
    behind = e

    cuts : Cuts (so.splits.0 + 1) next (tokens_of left) so.splits.1 []
    cuts =
        subst (λ (ts : List LexedToken). Cuts (so.splits.0 + 1) next (tokens_of ts) so.splits.1 []) (sym same)
        (subst (λ t. Cuts (so.splits.0 + 1) t (tokens_of tokens) so.splits.1 []) (sym behind) (behind_blank so.splits.2 c cs refl is))

    step : (b : Bool) → (c == line_feed) ≡ b → (shapes : List Shape) → HasShapes more cs shapes → HasShapes lines (c ∷ cs) shapes
    step true f shapes has =
        let feed : c ≡ line_feed = tested_equal c line_feed f in
        let count_is : more ≡ one_line_more lines = count ∙ ap (λ (b : Bool). cond b (one_line_more lines) lines) f in
        rw feed (line (subst (λ n. HasShapes n cs shapes) count_is has))
    step false f shapes has =
        let other : c ≢ line_feed = tested_unequal c line_feed f in
        let count_is : more ≡ lines = count ∙ ap (λ (b : Bool). cond b (one_line_more lines) lines) f in
        blank is other (subst (λ n. HasShapes n cs shapes) count_is has)

-- ---- comments

pub comment_fits : (text : List ℕ) → prefix_len is_line_byte text ≤ length text
comment_fits text = prefix_len-le-length is_line_byte text

pub comment_taken : (lines : ℕ) (text bytes rest : List ℕ) (tokens left : List LexedToken) (n : ℕ) → SplitsInto text tokens →
    is_comment text ≡ true → n ≡ prefix_len is_line_byte text → bytes ≡ take n text → rest ≡ drop n text →
    left ≡ tokens → HasTaken lines text (record { text = bytes; lines = lines }) rest left
comment_taken lines text bytes rest tokens left n splits begun size bytes_are rest_is same = record {
  shapes = shaped;
  splits = (splits.0 + n, splits.1, cuts);
  fewer = subst (λ t. length t < length text) (sym rest_is) front.some;
}
  where
    front : HasComment splits.0 splits.1 text (tokens_of tokens) n
    front = subst (HasComment splits.0 splits.1 text (tokens_of tokens)) (sym size) (behind_comment splits.2 begun)

    cuts : Cuts (splits.0 + n) rest (tokens_of left) splits.1 []
    cuts =
        subst (λ (ts : List LexedToken). Cuts (splits.0 + n) rest (tokens_of ts) splits.1 []) (sym same)
        (subst (λ t. Cuts (splits.0 + n) t (tokens_of tokens) splits.1 []) (sym rest_is) front.cuts)

    shaped : (shapes : List Shape) → HasShapes 0 rest shapes → HasShapes lines text (record { text = bytes; lines = lines } ∷ shapes)
    shaped shapes has =
        subst (λ (b : List ℕ). HasShapes lines text (record { text = b; lines = lines } ∷ shapes)) (sym bytes_are)
        (subst (λ t. HasShapes lines t (record { text = take n text; lines = lines } ∷ shapes)) (take-append-drop n text)
        (comment (take n text) front.is (subst (λ t. HasShapes 0 t shapes) rest_is has)))

-- ---- tokens

tokens_left : (tokens : List LexedToken) (count : ℕ) (first : model.Token) (others : List model.Token) →
    tokens_of (drop count tokens) ≡ first ∷ others → count < length tokens
tokens_left [] zero first others e = absurd (cc e)
tokens_left [] (suc count) first others e = absurd (cc e)
tokens_left (t ∷ ts) zero first others e = omega arith
tokens_left (t ∷ ts) (suc count) first others e = let rest : count < length ts = tokens_left ts count first others e in omega (arith, rest)

pub token_is_there : (text : List ℕ) (tokens : List LexedToken) (count : ℕ) → SplitsInto text (drop count tokens) → text ≢ [] →
    begins_blank text ≡ false → is_comment text ≡ false → count < length tokens
token_is_there text tokens count splits some b s =
    let front : HasToken splits.0 splits.1 text (tokens_of (drop count tokens)) = at_token splits.2 some b s in
    tokens_left tokens count front.first front.others front.are

-- the token in front is this word, and the text splits into these tokens behind it
record IsFront (at end : ℕ) (text word : List ℕ) (others : List model.Token) : Type 0 where
  pub is : take (length word) text ≡ word
  pub within : length word ≤ length text
  pub good : IsTrue (is_token word)
  pub longest : IsLongest word (drop (length word) text)
  pub cuts : Cuts (at + length word) (drop (length word) text) others end []
  pub some : length (drop (length word) text) < length text

front_of : (at end : ℕ) (text : List ℕ) (first : model.Token) (others : List model.Token) → HasToken at end text (first ∷ others) →
    IsFront at end text first.text others
front_of at end text first others front =
    subst (λ (w : List ℕ). IsFront at end text w others) word
    (subst (λ (ts : List model.Token). IsFront at end text front.first.text ts) behind found)
  where
    found : IsFront at end text front.first.text front.others
    found = record {
      is = front.is;
      within = front.within;
      good = front.good;
      longest = front.longest;
      cuts = front.cuts;
      some = front.some;
    }

    same : first ≡ front.first
    same = cc front.are

    word : front.first.text ≡ first.text
    word = sym (ap (λ (t : model.Token). t.text) same)

    behind : front.others ≡ others
    behind = sym (cc front.are)

front_token : (text : List ℕ) (tokens : List LexedToken) (count : ℕ) (t : LexedToken) (splits : SplitsInto text (drop count tokens)) →
    drop count tokens ≡ t ∷ drop (suc count) tokens → text ≢ [] → begins_blank text ≡ false → is_comment text ≡ false →
    IsFront splits.0 splits.1 text t.text.now (tokens_of (drop (suc count) tokens))
front_token text tokens count t splits e some b s =
    front_of splits.0 splits.1 text (token_of t) (tokens_of (drop (suc count) tokens))
    (subst (λ (ts : List LexedToken). HasToken splits.0 splits.1 text (tokens_of ts)) e (at_token splits.2 some b s))

pub token_fits : (text : List ℕ) (tokens : List LexedToken) (count : ℕ) (t : LexedToken) → SplitsInto text (drop count tokens) →
    drop count tokens ≡ t ∷ drop (suc count) tokens → text ≢ [] → begins_blank text ≡ false → is_comment text ≡ false →
    length t.text.now ≤ length text
token_fits text tokens count t splits e some b s = (front_token text tokens count t splits e some b s).within

pub token_taken : (lines : ℕ) (text bytes rest : List ℕ) (tokens left : List LexedToken) (count n : ℕ) (t : LexedToken) → SplitsInto text (drop count tokens) →
    drop count tokens ≡ t ∷ drop (suc count) tokens → text ≢ [] → begins_blank text ≡ false → is_comment text ≡ false →
    n ≡ length t.text.now → bytes ≡ take n text → rest ≡ drop n text → left ≡ drop (suc count) tokens → HasTaken lines text (record { text = bytes; lines = lines }) rest left
token_taken lines text bytes rest tokens left count n t splits e some b s size bytes_are rest_is left_is = record {
  shapes = shaped;
  splits = (splits.0 + length t.text.now, splits.1, cuts);
  fewer = subst (λ u. length u < length text) (sym behind) front.some;
}
  where
    front : IsFront splits.0 splits.1 text t.text.now (tokens_of (drop (suc count) tokens))
    front = front_token text tokens count t splits e some b s

    behind : rest ≡ drop (length t.text.now) text
    behind = rest_is ∙ ap (λ k. drop k text) size

    word : bytes ≡ t.text.now
    word = bytes_are ∙ ap (λ k. take k text) size ∙ front.is

    cuts : Cuts (splits.0 + length t.text.now) rest (tokens_of left) splits.1 []
    cuts =
        subst (λ (ts : List LexedToken). Cuts (splits.0 + length t.text.now) rest (tokens_of ts) splits.1 []) (sym left_is)
        (subst (λ u. Cuts (splits.0 + length t.text.now) u (tokens_of (drop (suc count) tokens)) splits.1 []) (sym behind) front.cuts)

    whole : t.text.now ++ drop (length t.text.now) text ≡ text
    whole = ap (λ w. w ++ drop (length t.text.now) text) (sym front.is) ∙ take-append-drop (length t.text.now) text

    shaped : (shapes : List Shape) → HasShapes 0 rest shapes → HasShapes lines text (record { text = bytes; lines = lines } ∷ shapes)
    shaped shapes has =
        subst (λ (w : List ℕ). HasShapes lines text (record { text = w; lines = lines } ∷ shapes)) (sym word)
        (subst (λ u. HasShapes lines u (record { text = t.text.now; lines = lines } ∷ shapes)) whole
        (token t.text.now front.good front.longest (subst (λ u. HasShapes 0 u shapes) behind has)))

-- ---- the pieces so far

-- the text is these pieces and those of the rest, which splits into the tokens that are left
pub record HasRead (text : List ℕ) (done : List Shape) (rest : List ℕ) (tokens : List LexedToken) : Type 0 where
  pub shapes : (shapes : List Shape) → HasShapes 0 rest shapes → HasShapes 0 text (done ++ shapes)
  pub splits : SplitsInto rest tokens

pub nothing_read : (text : List ℕ) (tokens : List LexedToken) → Splits text (tokens_of tokens) → HasRead text [] text tokens
nothing_read text tokens splits = record { shapes = λ shapes has. has; splits = (0, length text, splits.1) }

pub one_read : (text : List ℕ) (done : List Shape) (rest next : List ℕ) (tokens left : List LexedToken) (shape : Shape) →
    HasRead text done rest tokens → HasTaken 0 rest shape next left → HasRead text (done ++ shape ∷ []) next left
one_read text done rest next tokens left shape so taken = record {
  shapes = λ shapes has. subst (HasShapes 0 text) (sym (append_assoc done (shape ∷ []) shapes)) (so.shapes (shape ∷ shapes) (taken.shapes shapes has));
  splits = taken.splits;
}

pub all_read : (text : List ℕ) (done : List Shape) (rest : List ℕ) (tokens : List LexedToken) → HasRead text done rest tokens →
    HasShapes 0 rest [] → HasShapes 0 text done
all_read text done rest tokens so has = subst (HasShapes 0 text) (append-nil done) (so.shapes [] has)

-- only blanks are left
pub nothing_left : (text rest : List ℕ) (lines : ℕ) (tokens : List LexedToken) → HasSkipped text rest lines tokens → rest ≡ [] → HasShapes 0 text []
nothing_left text rest lines tokens so e = so.shapes [] (subst (λ t. HasShapes lines t []) (sym e) none)

-- blanks, and then a piece
pub taken_behind : (text rest next : List ℕ) (lines : ℕ) (shape : Shape) (tokens left : List LexedToken) → HasSkipped text rest lines tokens →
    HasTaken lines rest shape next left → HasTaken 0 text shape next left
taken_behind text rest next lines shape tokens left so taken = record {
  shapes = λ shapes has. so.shapes (shape ∷ shapes) (taken.shapes shapes has);
  splits = taken.splits;
  fewer = let before = so.fewer in let less = taken.fewer in omega (arith, before, less);
}
