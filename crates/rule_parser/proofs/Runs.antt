-- Tokens that derive run over the stack: each fits, and at the end nothing is left.
use Rattle.std.proofs.Common.{◌≡◌, refl, sym, ◌∙◌, ap, subst, true, false, cond, ◌&&◌, List, [], ◌∷◌, ◌++◌, Option, Some, None, ℕ, codes, bytes_eq, append_assoc}
use Rattle.std.proofs.lemmas.Slice.Eq.{bytes_eq-Decides}
use Rattle.lc_model.specs.Text.Token.{Token, is_word, is_sign}
use Rattle.lc_model.specs.Text.Syntax as syntax
use Rattle.lc_model.specs.Text.Syntax.{Expression, Item}
use Rattle.lc_model.specs.Text.Class.{Class, Name, Number, Word, word, sign, fits, Fits, Phrase, done, next}
use Rattle.lc_model.specs.Text.Grammar as grammar
use Rattle.lc_model.specs.Text.Grammar.{Part, Derives, DerivesOption, DerivesReport, DerivesItem, DerivesFile}
use Rattle.lc_model.proofs.Facts.{and_second}
use Rattle.lc_model.proofs.Texts.OneFile.{word_text}
use Rattle.rule_parser.specs.Stack.{Symbol, one, option, operand, after, ones, packet_left, field_left, rule_left, joins, step}

-- from one stack to another
abbrev pub Runs : List Symbol → List Token → List Symbol → Type 0
Runs s [] u = s ≡ u
Runs s (t ∷ ts) u = (m : List Symbol) × (step s t ≡ Some m) × Runs m ts u

pub Runs-append : (ts us : List Token) (s u v : List Symbol) → Runs s ts u → Runs u us v → Runs s (ts ++ us) v
Runs-append [] us s u v r q = subst (λ s. Runs s us v) (sym r) q
Runs-append (t ∷ ts) us s u v r q = (r.0, r.1, Runs-append ts us r.0 u v r.2 q)

-- a run over two lists is two runs
pub Runs-split : (ts us : List Token) (s v : List Symbol) → Runs s (ts ++ us) v → (u : List Symbol) × Runs s ts u × Runs u us v
Runs-split [] us s v r = (s, refl, r)
Runs-split (t ∷ ts) us s v r = let rest = Runs-split ts us r.0 v r.2 in (rest.0, (r.0, r.1, rest.1), rest.2)

-- a run ends in one stack
pub one_run : (ts : List Token) (s u v : List Symbol) → Runs s ts u → Runs s ts v → u ≡ v
one_run [] s u v r q = sym r ∙ q
one_run (t ∷ ts) s u v r q = one_run ts q.0 u v (subst (λ m. Runs m ts u) (cc (r.1, q.1)) r.2) q.2

-- ---- single tokens

pub sign_text : (letters : List ℕ) (t : Token) → Fits (Class.Sign letters) t → letters ≡ t.text
sign_text letters t fit = (bytes_eq-Decides letters t.text).0 (and_second (is_sign t.text) _ fit)

pub on_packet : (t : Token) → Fits (word "packet") t → step [] t ≡ Some packet_left
on_packet t fit = rw (sym (word_text (codes "packet") t fit)) refl

pub on_field : (t : Token) → Fits (word "field") t → step [] t ≡ Some field_left
on_field t fit = rw (sym (word_text (codes "field") t fit)) refl

pub on_rule : (t : Token) → Fits (word "rule") t → step [] t ≡ Some rule_left
on_rule t fit = rw (sym (word_text (codes "rule") t fit)) refl

module _ (t : Token) (c : Class) (s : List Symbol) where
  pub on_name : Fits Name t → step (operand c ∷ s) t ≡ Some (one Class.Compare ∷ one Number ∷ after c ∷ s)
  on_name fit = rw fit refl

  pub on_not : Fits (word "not") t → step (operand c ∷ s) t ≡ Some (operand c ∷ s)
  on_not fit = rw (sym (word_text (codes "not") t fit)) refl

  pub on_open : Fits (sign "(") t → step (operand c ∷ s) t ≡ Some (operand (sign ")") ∷ after c ∷ s)
  on_open fit = rw (sym (sign_text (codes "(") t fit)) refl

  pub on_join : joins t ≡ true → step (after c ∷ s) t ≡ Some (operand c ∷ s)
  on_join is = ap (λ b. cond b (Some (operand c ∷ s)) (cond (fits c t.text) (Some s) None)) is

  pub on_close : joins t ≡ false → Fits c t → step (after c ∷ s) t ≡ Some s
  on_close is fit = rw (is, fit) refl

  pub on_one : Fits c t → step (one c ∷ s) t ≡ Some s
  on_one fit = rw fit refl

pub and_joins : (t : Token) → Fits (word "and") t → joins t ≡ true
and_joins t fit = rw (sym (word_text (codes "and") t fit)) refl

pub xor_joins : (t : Token) → Fits (word "xor") t → joins t ≡ true
xor_joins t fit = rw (sym (word_text (codes "xor") t fit)) refl

pub or_joins : (t : Token) → Fits (word "or") t → joins t ≡ true
or_joins t fit = rw (sym (word_text (codes "or") t fit)) refl

pub close_joins_not : (t : Token) → Fits (sign ")") t → joins t ≡ false
close_joins_not t fit = rw (sym (sign_text (codes ")") t fit)) refl

pub end_joins_not : (t : Token) → Fits (sign ";") t → joins t ≡ false
end_joins_not t fit = rw (sym (sign_text (codes ";") t fit)) refl

-- ---- phrases and conditions

runs_phrase : {classes : List Class} {ts : List Token} → Phrase classes ts → (s : List Symbol) → Runs (ones classes ++ s) ts s
runs_phrase done s = refl
runs_phrase (next {class = c} {t = t} {classes = classes} fit others) s = (ones classes ++ s, on_one t c (ones classes ++ s) fit, runs_phrase others s)

runs_condition : {part : Part} {ts : List Token} {e : Expression} → Derives part ts e → (c : Class) (s : List Symbol) → Runs (operand c ∷ s) ts (after c ∷ s)
runs_condition (grammar.cond_one d) c s = runs_condition d c s
runs_condition (grammar.cond_or {ts = ts} {us = us} t d fit f) c s =
    Runs-append ts (t ∷ us) (operand c ∷ s) (after c ∷ s) (after c ∷ s) (runs_condition d c s)
    (operand c ∷ s, on_join t c s (or_joins t fit), runs_condition f c s)
runs_condition (grammar.xors_one d) c s = runs_condition d c s
runs_condition (grammar.xors_xor {ts = ts} {us = us} t d fit f) c s =
    Runs-append ts (t ∷ us) (operand c ∷ s) (after c ∷ s) (after c ∷ s) (runs_condition d c s)
    (operand c ∷ s, on_join t c s (xor_joins t fit), runs_condition f c s)
runs_condition (grammar.ands_one d) c s = runs_condition d c s
runs_condition (grammar.ands_and {ts = ts} {us = us} t d fit f) c s =
    Runs-append ts (t ∷ us) (operand c ∷ s) (after c ∷ s) (after c ∷ s) (runs_condition d c s)
    (operand c ∷ s, on_join t c s (and_joins t fit), runs_condition f c s)
runs_condition (grammar.nots_not {t = t} fit d) c s = (operand c ∷ s, on_not t c s fit, runs_condition d c s)
runs_condition (grammar.nots_parentheses {ts = ts} t u fit d fit') c s = (
  operand (sign ")") ∷ after c ∷ s,
  on_open t c s fit,
  Runs-append ts (u ∷ []) (operand (sign ")") ∷ after c ∷ s) (after (sign ")") ∷ after c ∷ s) (after c ∷ s) (runs_condition d (sign ")") (after c ∷ s))
      (after c ∷ s, on_close u (sign ")") (after c ∷ s) (close_joins_not u fit') fit', refl),
)
runs_condition (grammar.nots_compare {n = n} {o = o} {k = k} (next a (next b (next d done))) is) c s = (
  one Class.Compare ∷ one Number ∷ after c ∷ s,
  on_name n c s a,
  (one Number ∷ after c ∷ s, on_one o Class.Compare (one Number ∷ after c ∷ s) b, (after c ∷ s, on_one k Number (after c ∷ s) d, refl)),
)

-- ---- what may be left out

-- the first token of the list is not this word
abbrev Starts : List ℕ → List Token → Type 0
Starts letters ts = (t : Token) × (us : List Token) × (ts ≡ t ∷ us) × (fits (Word letters) t.text ≡ false)

runs_past : (letters : List ℕ) (following : List Class) (s v : List Symbol) (ts : List Token) → Starts letters ts → Runs s ts v →
    Runs (option letters following ∷ s) ts v
runs_past letters following s v [] starts r = absurd (cc starts.2)
runs_past letters following s v (t ∷ ts) starts r =
    let same : t ≡ starts.0 = cc starts.2 in
    let other : fits (Word letters) t.text ≡ false = ap (λ (t : Token). fits (Word letters) t.text) same ∙ starts.3 in
    (r.0, ap (λ b. cond b (Some (ones following ++ s)) (step s t)) other ∙ r.1, r.2)

runs_option : (letters : List ℕ) (following : List Class) (s : List Symbol) {ts : List Token} → Phrase (Word letters ∷ following) ts →
    Runs (option letters following ∷ s) ts s
runs_option letters following s (next {t = t} fit others) =
    (ones following ++ s, ap (λ b. cond b (Some (ones following ++ s)) (step s t)) fit, runs_phrase others s)

-- a number that may be left out, before other tokens
runs_number : (letters : List ℕ) (s v : List Symbol) {front : List Token} {o : Option syntax.Number} (back : List Token) →
    DerivesOption (Word letters) front o → Starts letters back → Runs s back v → Runs (option letters (Number ∷ []) ∷ s) (front ++ back) v
runs_number letters s v back DerivesOption.absent starts r = runs_past letters (Number ∷ []) s v back starts r
runs_number letters s v back (DerivesOption.present {w = w} {n = n} phrase) starts r =
    Runs-append (w ∷ n ∷ []) back (option letters (Number ∷ []) ∷ s) s v (runs_option letters (Number ∷ []) s phrase) r

runs_report : (s v : List Symbol) {front : List Token} {o : Option syntax.ReportItem} (back : List Token) →
    DerivesReport front o → Starts (codes "report") back → Runs s back v →
    Runs (option (codes "report") (Number ∷ Number ∷ Number ∷ []) ∷ s) (front ++ back) v
runs_report s v back DerivesReport.absent starts r = runs_past (codes "report") (Number ∷ Number ∷ Number ∷ []) s v back starts r
runs_report s v back (DerivesReport.present {w = w} {a = a} {b = b} {c = c} phrase) starts r =
    Runs-append (w ∷ a ∷ b ∷ c ∷ []) back (option (codes "report") (Number ∷ Number ∷ Number ∷ []) ∷ s) s v
    (runs_option (codes "report") (Number ∷ Number ∷ Number ∷ []) s phrase) r

-- ---- items

end_starts : (letters : List ℕ) → (is_word (codes ";") && bytes_eq letters (codes ";")) ≡ false → (e : Token) (ts : List Token) → Fits (sign ";") e →
    Starts letters (e ∷ ts)
end_starts letters other e ts fit = (e, ts, refl, ap (fits (Word letters)) (sym (sign_text (codes ";") e fit)) ∙ other)

when_starts : (w : Token) (ts : List Token) → Fits (word "when") w → Starts (codes "report") (w ∷ ts)
when_starts w ts fit = (w, ts, refl, ap (fits (word "report")) (sym (word_text (codes "when") w fit)))

stale_starts : {stales : List Token} {o : Option syntax.Number} (e : Token) → DerivesOption (word "stale") stales o → Fits (sign ";") e →
    Starts (codes "mask") (stales ++ e ∷ [])
stale_starts e DerivesOption.absent fit = end_starts (codes "mask") refl e [] fit
stale_starts e (DerivesOption.present {w = w} {n = n} (next fit' others)) fit =
    (w, n ∷ e ∷ [], refl, ap (fits (word "mask")) (sym (word_text (codes "stale") w fit')))

runs_item : {ts : List Token} {item : Item} → DerivesItem ts item → Runs [] ts []
runs_item (DerivesItem.packet {a = a} (next fit others)) = (packet_left, on_packet a fit, runs_phrase others [])
runs_item (DerivesItem.field {a = a} {name = n} {b = b} {packet = p} {k = k} {c = c} {o = o} {masks = ms} {stales = ss} e (next fit others) is dm ds ends) = (
  field_left,
  on_field a fit,
  Runs-append (n ∷ b ∷ p ∷ k ∷ c ∷ o ∷ []) (ms ++ ss ++ e ∷ []) field_left mask_left [] (runs_phrase others mask_left)
      (subst (λ ts. Runs mask_left ts []) (sym (append_assoc ms ss (e ∷ [])))
      (runs_number (codes "mask") stale_left [] (ss ++ e ∷ []) dm (stale_starts e ds ends)
      (runs_number (codes "stale") (one (sign ";") ∷ []) [] (e ∷ []) ds (end_starts (codes "stale") refl e [] ends)
      ([], on_one e (sign ";") [] ends, refl)))),
)
  where
    stale_left : List Symbol
    stale_left = option (codes "stale") (Number ∷ []) ∷ one (sign ";") ∷ []

    mask_left : List Symbol
    mask_left = option (codes "mask") (Number ∷ []) ∷ stale_left
runs_item (DerivesItem.rule {a = a} {name = n} {s = s} {b = b} {f = f} {c = c} {q = q} {d = d} {l = l} {i = i} {t = t} {reports = rs} {conditions = cs} w e
    (next fit others) is_mode is_kind dr is_when dc ends) = (
      rule_left,
      on_rule a fit,
      Runs-append (n ∷ s ∷ b ∷ f ∷ c ∷ q ∷ d ∷ l ∷ i ∷ t ∷ []) (rs ++ w ∷ cs ++ e ∷ []) rule_left report_left [] (runs_phrase others report_left)
          (subst (λ ts. Runs report_left ts []) (sym (append_assoc rs (w ∷ cs) (e ∷ [])))
          (runs_report when_left [] (w ∷ cs ++ e ∷ []) dr (when_starts w (cs ++ e ∷ []) is_when) (
            operand (sign ";") ∷ [],
            on_one w (word "when") (operand (sign ";") ∷ []) is_when,
            Runs-append cs (e ∷ []) (operand (sign ";") ∷ []) (after (sign ";") ∷ []) [] (runs_condition dc (sign ";") [])
                ([], on_close e (sign ";") [] (end_joins_not e ends) ends, refl),
          ))),
    )
  where
    when_left : List Symbol
    when_left = one (word "when") ∷ operand (sign ";") ∷ []

    report_left : List Symbol
    report_left = option (codes "report") (Number ∷ Number ∷ Number ∷ []) ∷ when_left

pub runs_file : {ts : List Token} {items : List Item} → DerivesFile ts items → Runs [] ts []
runs_file DerivesFile.done = refl
runs_file (DerivesFile.next {ts = ts} {us = us} item others) = Runs-append ts us [] [] [] (runs_item item) (runs_file others)
