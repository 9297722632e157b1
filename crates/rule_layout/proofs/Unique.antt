-- A text has its pieces in one way.
use Rattle.std.proofs.Common.{◌≡◌, ◌≢◌, refl, sym, ◌∙◌, ap, subst, ℕ, ◌⊎◌, inl, inr, true, false, List, [], ◌∷◌, ◌++◌, length, take, drop, append-nil}
use Rattle.std.specs.List.{prefix_len}
use Rattle.std.proofs.Math.Seq.{take-append_seam, drop-append_seam}
use Rattle.lc_model.specs.Text.Token.{IsComment, IsLongest, is_blank, is_token, line_feed}
use Rattle.lc_model.proofs.Texts.OneSplit.{fronts, token_is_lexeme}
use Rattle.rule_layout.specs.Shapes.{HasShapes, Shape, blank, comment, line, none, one_line_more, token}
use Rattle.rule_layout.specs.Pieces.{is_line_byte}
use Rattle.rule_layout.proofs.Fronts.{blank_no_sign, blank_no_token, comment_length, sign_no_token}

at_none : {lines : ℕ} {text : List ℕ} {us : List Shape} → HasShapes lines text us → text ≡ [] → us ≡ []
at_none none e = refl
at_none (blank is other has) e = absurd (cc e)
at_none (line has) e = absurd (cc e)
at_none (comment [] is has) e = absurd is
at_none (comment (c ∷ cs) is has) e = absurd (cc e)
at_none (token [] good longest has) e = absurd (cc good)
at_none (token (c ∷ cs) good longest has) e = absurd (cc e)

behind_blank : {lines : ℕ} {text : List ℕ} {us : List Shape} → HasShapes lines text us → (c : ℕ) (rest : List ℕ) → text ≡ c ∷ rest →
    is_blank c ≡ true → c ≢ line_feed → HasShapes lines rest us
behind_blank none c rest e is other = absurd (cc e)
behind_blank {lines = lines} {us = us} (blank b o has) c rest e is other = subst (λ t. HasShapes lines t us) (cc e) has
behind_blank (line has) c rest e is other = absurd (other (sym (cc e)))
behind_blank (comment [] i has) c rest e is other = absurd i
behind_blank (comment (d ∷ ds) i has) c rest e is other =
    let same : c ≡ d = sym (cc e) in
    absurd (blank_no_sign c is (same ∙ i.0))
behind_blank (token [] good longest has) c rest e is other = absurd (cc good)
behind_blank (token (d ∷ ds) good longest has) c rest e is other =
    let same : d ≡ c = cc e in
    absurd (cc (good, subst (λ x. is_token (x ∷ ds) ≡ false) (sym same) (blank_no_token c ds is)))

behind_line : {lines : ℕ} {text : List ℕ} {us : List Shape} → HasShapes lines text us → (rest : List ℕ) → text ≡ line_feed ∷ rest →
    HasShapes (one_line_more lines) rest us
behind_line none rest e = absurd (cc e)
behind_line (blank b o has) rest e = absurd (o (cc e))
behind_line {lines = lines} {us = us} (line has) rest e = subst (λ t. HasShapes (one_line_more lines) t us) (cc e) has
behind_line (comment [] i has) rest e = absurd i
behind_line (comment (d ∷ ds) i has) rest e =
    let same : line_feed ≡ d = sym (cc e) in
    absurd (blank_no_sign line_feed refl (same ∙ i.0))
behind_line (token [] good longest has) rest e = absurd (cc good)
behind_line (token (d ∷ ds) good longest has) rest e =
    let same : d ≡ line_feed = cc e in
    absurd (cc (good, subst (λ x. is_token (x ∷ ds) ≡ false) (sym same) (blank_no_token line_feed ds refl)))

-- a first piece is this one, and these stand behind it
abbrev BeginsWith : ℕ → List ℕ → List ℕ → List Shape → Type 0
BeginsWith lines text rest us = (vs : List Shape) × (us ≡ record { text = text; lines = lines } ∷ vs) × HasShapes 0 rest vs

begins : (lines : ℕ) (text other rest tail : List ℕ) (vs : List Shape) → text ≡ other → rest ≡ tail → HasShapes 0 rest vs →
    BeginsWith lines other tail (record { text = text; lines = lines } ∷ vs)
begins lines text other rest tail vs same behind has = (
  vs,
  ap (λ (t : List ℕ). record { text = t; lines = lines } ∷ vs) same,
  subst (λ t. HasShapes 0 t vs) behind has,
)

behind_comment : {lines : ℕ} {text : List ℕ} {us : List Shape} → HasShapes lines text us → (c : ℕ) (cs rest : List ℕ) →
    text ≡ (c ∷ cs) ++ rest → IsComment (c ∷ cs) rest → BeginsWith lines (c ∷ cs) rest us
behind_comment none c cs rest e i = absurd (cc e)
behind_comment (blank {c = d} b o has) c cs rest e i =
    let same : d ≡ c = cc e in
    absurd (blank_no_sign d b (same ∙ i.0))
behind_comment (line has) c cs rest e i =
    let same : line_feed ≡ c = cc e in
    absurd (blank_no_sign line_feed refl (same ∙ i.0))
behind_comment (comment [] is has) c cs rest e i = absurd is
behind_comment {lines = lines} (comment {text = text} {shapes = vs} (d ∷ ds) is has) c cs rest e i =
    begins lines (d ∷ ds) (c ∷ cs) text rest vs same behind has
  where
    size : length (d ∷ ds) ≡ length (c ∷ cs)
    size = sym (comment_length d ds text is) ∙ ap (prefix_len is_line_byte) e ∙ comment_length c cs rest i

    same : d ∷ ds ≡ c ∷ cs
    same = sym (take-append_seam (d ∷ ds) text) ∙ ap (take (length (d ∷ ds))) e ∙ ap (λ n. take n ((c ∷ cs) ++ rest)) size ∙ take-append_seam (c ∷ cs) rest

    behind : text ≡ rest
    behind = sym (drop-append_seam (d ∷ ds) text) ∙ ap (drop (length (d ∷ ds))) e ∙ ap (λ n. drop n ((c ∷ cs) ++ rest)) size ∙ drop-append_seam (c ∷ cs) rest
behind_comment (token [] good longest has) c cs rest e i = absurd (cc good)
behind_comment (token (d ∷ ds) good longest has) c cs rest e i =
    let same : d ≡ c = cc e in
    absurd (cc (good, sign_no_token d ds (same ∙ i.0)))

behind_token : {lines : ℕ} {text : List ℕ} {us : List Shape} → HasShapes lines text us → (w rest : List ℕ) →
    text ≡ w ++ rest → is_token w ≡ true → IsLongest w rest → BeginsWith lines w rest us
behind_token none [] rest e good longest = absurd (cc good)
behind_token none (c ∷ w) rest e good longest = absurd (cc e)
behind_token (blank b o has) [] rest e good longest = absurd (cc good)
behind_token (blank {c = d} b o has) (c ∷ w) rest e good longest =
    let same : d ≡ c = cc e in
    absurd (cc (good, blank_no_token c w (subst (λ x. is_blank x ≡ true) same b)))
behind_token (line has) [] rest e good longest = absurd (cc good)
behind_token (line has) (c ∷ w) rest e good longest =
    let same : line_feed ≡ c = cc e in
    absurd (cc (good, blank_no_token c w (subst (λ x. is_blank x ≡ true) same refl)))
behind_token (comment [] is has) w rest e good longest = absurd is
behind_token (comment (d ∷ ds) is has) [] rest e good longest = absurd (cc good)
behind_token (comment (d ∷ ds) is has) (c ∷ w) rest e good longest =
    let same : c ≡ d = sym (cc e) in
    absurd (cc (good, sign_no_token c w (same ∙ is.0)))
behind_token {lines = lines} (token {text = text} {shapes = vs} v fine long has) w rest e good longest = go (fronts v text w rest e)
  where
    go : ((more : List ℕ) × (w ≡ v ++ more) × (more ++ rest ≡ text)) ⊎ ((more : List ℕ) × (v ≡ w ++ more) × (more ++ text ≡ rest)) →
        BeginsWith lines w rest (record { text = v; lines = lines } ∷ vs)
    go (inl f) =
        let nothing : f.0 ≡ [] = long f.0 rest f.2 (rw f.1 at (token_is_lexeme w good)) in
        begins lines v w text rest vs (sym (f.1 ∙ ap (λ m. v ++ m) nothing ∙ append-nil v)) (sym f.2 ∙ ap (λ m. m ++ rest) nothing) has
    go (inr f) =
        let nothing : f.0 ≡ [] = longest f.0 text f.2 (rw f.1 at (token_is_lexeme v fine)) in
        begins lines v w text rest vs (f.1 ∙ ap (λ m. w ++ m) nothing ∙ append-nil w) (ap (λ m. m ++ text) (sym nothing) ∙ f.2) has

-- the pieces of a text are one list
pub one_list : {lines : ℕ} {text : List ℕ} {ss : List Shape} → HasShapes lines text ss → {us : List Shape} → HasShapes lines text us → ss ≡ us
one_list none other = sym (at_none other refl)
one_list (blank {c = c} {text = text} is o has) other = one_list has (behind_blank other c text refl is o)
one_list (line {text = text} has) other = one_list has (behind_line other text refl)
one_list (comment [] is has) other = absurd is
one_list (comment {lines = lines} {text = text} (c ∷ cs) is has) other =
    let first = behind_comment other c cs text refl is in
    ap (λ (ss : List Shape). record { text = c ∷ cs; lines = lines } ∷ ss) (one_list has first.2) ∙ sym first.1
one_list (token {lines = lines} {text = text} w good longest has) other =
    let first = behind_token other w text refl good longest in
    ap (λ (ss : List Shape). record { text = w; lines = lines } ∷ ss) (one_list has first.2) ∙ sym first.1
