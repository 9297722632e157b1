-- Tokens derive at most one list of items.
use Rattle.std.proofs.Common.{◌≡◌, refl, sym, ◌∙◌, ap, subst, ℕ, Bool, true, false, ◌&&◌, ◌||◌, List, [], ◌∷◌, ◌++◌, Option, Some, is_some, codes, bytes_eq, append_assoc}
use Rattle.std.specs.List.{list_any}
use Rattle.std.proofs.lemmas.Slice.Eq.{bytes_eq-Decides}
use Rattle.lc_model.specs.Text.Token.{Token, is_word, is_sign, number, string_text}
use Rattle.lc_model.specs.Text.Syntax as syntax
use Rattle.lc_model.specs.Text.Syntax.{Expression, Item, ReportItem}
use Rattle.lc_model.specs.Text.Class.{Class, Word, word, sign, Fits, done, next, is_name, comparison, field_type, state, event_kind}
use Rattle.lc_model.specs.Text.Grammar as grammar
use Rattle.lc_model.specs.Text.Grammar.{Part, Derives, DerivesOption, DerivesReport, DerivesItem, DerivesFile, number_of}
use Rattle.lc_model.specs.Text.Reading.{ends_item}
use Rattle.lc_model.proofs.Tables.SoundWords.{list_any-append}
use Rattle.lc_model.proofs.Facts.{or_neither, or_first, or_second, and_second}
use Rattle.lc_model.proofs.Texts.OneCondition.{one_condition}

-- ---- conditions hold no `;`

-- a token that passes a test which `;` fails is no `;`
no_end : (f : List ℕ → Bool) → f (codes ";") ≡ false → (t : Token) → f t.text ≡ true → ends_item t ≡ false
no_end f fails t fit = go (is_sign t.text && bytes_eq (codes ";") t.text) refl
  where
    go : (b : Bool) → (is_sign t.text && bytes_eq (codes ";") t.text) ≡ b → b ≡ false
    go false e = refl
    go true e =
        let is : codes ";" ≡ t.text = (bytes_eq-Decides (codes ";") t.text).0 (and_second (is_sign t.text) _ e) in
        absurd (cc (fails, rw (sym is) at fit))

no_end_word : (letters : List ℕ) → (is_word (codes ";") && bytes_eq letters (codes ";")) ≡ false → (t : Token) → Fits (Word letters) t → ends_item t ≡ false
no_end_word letters fails t fit = no_end (λ text. is_word text && bytes_eq letters text) fails t fit

none_ends : {part : Part} {ts : List Token} {e : Expression} → Derives part ts e → list_any ends_item ts ≡ false
none_ends (grammar.cond_one d) = none_ends d
none_ends (grammar.cond_or {ts = ts} {us = us} t d fit f) =
    list_any-append ends_item ts (t ∷ us) ∙ or_neither _ _ (none_ends d) (or_neither (ends_item t) _ (no_end_word (codes "or") refl t fit) (none_ends f))
none_ends (grammar.xors_one d) = none_ends d
none_ends (grammar.xors_xor {ts = ts} {us = us} t d fit f) =
    list_any-append ends_item ts (t ∷ us) ∙ or_neither _ _ (none_ends d) (or_neither (ends_item t) _ (no_end_word (codes "xor") refl t fit) (none_ends f))
none_ends (grammar.ands_one d) = none_ends d
none_ends (grammar.ands_and {ts = ts} {us = us} t d fit f) =
    list_any-append ends_item ts (t ∷ us) ∙ or_neither _ _ (none_ends d) (or_neither (ends_item t) _ (no_end_word (codes "and") refl t fit) (none_ends f))
none_ends (grammar.nots_not {t = t} fit d) = or_neither (ends_item t) _ (no_end_word (codes "not") refl t fit) (none_ends d)
none_ends (grammar.nots_parentheses {ts = ts} t u fit d fit') =
    or_neither (ends_item t) _ (no_end (λ text. is_sign text && bytes_eq (codes "(") text) refl t fit)
    (list_any-append ends_item ts (u ∷ []) ∙ or_neither _ _ (none_ends d)
    (or_neither (ends_item u) _ (no_end (λ text. is_sign text && bytes_eq (codes ")") text) refl u fit') refl))
none_ends (grammar.nots_compare {n = n} {o = o} {k = k} (next a (next b (next c done))) is) =
    or_neither (ends_item n) _ (no_end is_name refl n a)
    (or_neither (ends_item o) _ (no_end (λ text. is_some (comparison text)) refl o b)
    (or_neither (ends_item k) _ (no_end (λ text. is_some (number text)) refl k c) refl))

-- two lists that end at the first `;`
one_end : (cs ds xs ys : List Token) (e f : Token) → list_any ends_item cs ≡ false → list_any ends_item ds ≡ false → ends_item e ≡ true → ends_item f ≡ true →
    cs ++ e ∷ xs ≡ ds ++ f ∷ ys → (cs ≡ ds) × (xs ≡ ys)
one_end [] [] xs ys e f a b c d s = (refl, cc s)
one_end [] (x ∷ ds) xs ys e f a b c d s = let same : e ≡ x = cc s in absurd (cc (rw same at c, first (ends_item x) (list_any ends_item ds) b))
  where
    first : (p q : Bool) → (p || q) ≡ false → p ≡ false
    first true q e = e
    first false q e = refl
one_end (x ∷ cs) [] xs ys e f a b c d s = let same : f ≡ x = sym (cc s) in absurd (cc (rw same at d, or_first (ends_item x) (list_any ends_item cs) a))
one_end (x ∷ cs) (y ∷ ds) xs ys e f a b c d s =
    let rest : (cs ≡ ds) × (xs ≡ ys) = one_end cs ds xs ys e f (or_second _ _ a) (or_second _ _ b) c d (cc s) in
    let same : x ≡ y = cc s in
    (cc (same, rest.0), rest.1)

-- ---- items

pub word_text : (letters : List ℕ) (t : Token) → Fits (Word letters) t → letters ≡ t.text
word_text letters t fit = (bytes_eq-Decides letters t.text).0 (and_second (is_word t.text) _ fit)

end_text : (t : Token) → Fits (sign ";") t → codes ";" ≡ t.text
end_text t fit = (bytes_eq-Decides (codes ";") t.text).0 (and_second (is_sign t.text) _ fit)

-- two tokens in one place with two words
two_words : (letters others : List ℕ) (t u : Token) → t ≡ u → Fits (Word letters) t → Fits (Word others) u → letters ≡ others
two_words letters others t u same a b = word_text letters t a ∙ ap (λ (x : Token). x.text) same ∙ sym (word_text others u b)

-- the list does not begin with a token of the class
abbrev Blocks : Class → List Token → Type 0
Blocks class xs = (t : Token) (rest : List Token) → xs ≡ t ∷ rest → Fits class t → ⊥

one_option : {w : Class} {ms ns : List Token} {m n : Option syntax.Number} → DerivesOption w ms m → DerivesOption w ns n →
    (xs ys : List Token) → Blocks w xs → Blocks w ys → ms ++ xs ≡ ns ++ ys → (m ≡ n) × (xs ≡ ys)
one_option DerivesOption.absent DerivesOption.absent xs ys p q e = (refl, e)
one_option DerivesOption.absent (DerivesOption.present {w = t} {n = k} (next fit others)) xs ys p q e = absurd (p t (k ∷ ys) e fit)
one_option (DerivesOption.present {w = t} {n = k} (next fit others)) DerivesOption.absent xs ys p q e = absurd (q t (k ∷ xs) (sym e) fit)
one_option (DerivesOption.present {w = t} {n = k} (next fit others)) (DerivesOption.present {w = u} {n = l} (next fit' others')) xs ys p q e =
    let same : k ≡ l = cc e in
    (ap (λ (x : Token). Some (number_of x)) same, cc e)

one_report : {ms ns : List Token} {m n : Option ReportItem} → DerivesReport ms m → DerivesReport ns n →
    (xs ys : List Token) → Blocks (word "report") xs → Blocks (word "report") ys → ms ++ xs ≡ ns ++ ys → (m ≡ n) × (xs ≡ ys)
one_report DerivesReport.absent DerivesReport.absent xs ys p q e = (refl, e)
one_report DerivesReport.absent (DerivesReport.present {w = t} {a = a} {b = b} {c = c} (next fit others)) xs ys p q e = absurd (p t (a ∷ b ∷ c ∷ ys) e fit)
one_report (DerivesReport.present {w = t} {a = a} {b = b} {c = c} (next fit others)) DerivesReport.absent xs ys p q e = absurd (q t (a ∷ b ∷ c ∷ xs) (sym e) fit)
one_report (DerivesReport.present {a = a} {b = b} {c = c} p') (DerivesReport.present {a = a'} {b = b'} {c = c'} q') xs ys p q e =
    let firsts : a ≡ a' = cc e in
    let bs : b ≡ b' = cc e in
    let cs : c ≡ c' = cc e in
    (λ i. Some (record { passive = number_of (firsts i); pass_to_fail = number_of (bs i); fail_to_pass = number_of (cs i) }), cc e)

blocks_word : (letters others : List ℕ) (t : Token) (rest : List Token) → (letters ≡ others → ⊥) → Fits (Word others) t → Blocks (Word letters) (t ∷ rest)
blocks_word letters others t rest differ fit u tail e fit' = differ (two_words letters others u t (cc e) fit' fit)

blocks_end : (letters : List ℕ) (t : Token) (rest : List Token) → (letters ≡ codes ";" → ⊥) → Fits (sign ";") t → Blocks (Word letters) (t ∷ rest)
blocks_end letters t rest differ fit u tail e fit' =
    let same : u ≡ t = cc e in
    differ (word_text letters u fit' ∙ ap (λ (x : Token). x.text) same ∙ sym (end_text t fit))

-- `mask` stands before no `stale` and no end
blocks_mask : {ss : List Token} {s : Option syntax.Number} → DerivesOption (word "stale") ss s → (e : Token) (xs : List Token) → Fits (sign ";") e →
    Blocks (word "mask") (ss ++ e ∷ xs)
blocks_mask DerivesOption.absent e xs fit = blocks_end (codes "mask") e xs (λ p. absurd (cc p)) fit
blocks_mask (DerivesOption.present {w = t} {n = n} (next fit' others)) e xs fit = blocks_word (codes "mask") (codes "stale") t (n ∷ e ∷ xs) (λ p. absurd (cc p)) fit'

regroup : (ms ss : List Token) (e : Token) (xs : List Token) → (ms ++ ss ++ e ∷ []) ++ xs ≡ ms ++ (ss ++ e ∷ xs)
regroup ms ss e xs = append_assoc (ms ++ ss) (e ∷ []) xs ∙ append_assoc ms ss (e ∷ xs)

rule_regroup : (rs cs : List Token) (w e : Token) (xs : List Token) → (rs ++ w ∷ cs ++ e ∷ []) ++ xs ≡ rs ++ (w ∷ (cs ++ e ∷ xs))
rule_regroup rs cs w e xs = append_assoc (rs ++ w ∷ cs) (e ∷ []) xs ∙ append_assoc rs (w ∷ cs) (e ∷ xs)

one_item : {ts us : List Token} {i j : Item} → DerivesItem ts i → DerivesItem us j → (xs ys : List Token) → ts ++ xs ≡ us ++ ys → (i ≡ j) × (xs ≡ ys)
one_item (DerivesItem.packet {name = n} {m = m} {l = l} p) (DerivesItem.packet {name = n'} {m = m'} {l = l'} p') xs ys e =
    let names : n ≡ n' = cc e in
    let mids : m ≡ m' = cc e in
    let lengths : l ≡ l' = cc e in
    (λ i. syntax.Packet (record { name = names i; mid = number_of (mids i); length = number_of (lengths i) }), cc e)
one_item (DerivesItem.packet {a = a} (next p ps)) (DerivesItem.field {a = b} _ (next q qs) _ _ _ _) xs ys e =
    absurd (cc (two_words (codes "packet") (codes "field") a b (cc e) p q))
one_item (DerivesItem.packet {a = a} (next p ps)) (DerivesItem.rule {a = b} _ _ (next q qs) _ _ _ _ _ _) xs ys e =
    absurd (cc (two_words (codes "packet") (codes "rule") a b (cc e) p q))
one_item (DerivesItem.field {a = a} _ (next p ps) _ _ _ _) (DerivesItem.packet {a = b} (next q qs)) xs ys e =
    absurd (cc (two_words (codes "field") (codes "packet") a b (cc e) p q))
one_item (DerivesItem.field {a = a} _ (next p ps) _ _ _ _) (DerivesItem.rule {a = b} _ _ (next q qs) _ _ _ _ _ _) xs ys e =
    absurd (cc (two_words (codes "field") (codes "rule") a b (cc e) p q))
one_item (DerivesItem.rule {a = a} _ _ (next p ps) _ _ _ _ _ _) (DerivesItem.packet {a = b} (next q qs)) xs ys e =
    absurd (cc (two_words (codes "rule") (codes "packet") a b (cc e) p q))
one_item (DerivesItem.rule {a = a} _ _ (next p ps) _ _ _ _ _ _) (DerivesItem.field {a = b} _ (next q qs) _ _ _ _) xs ys e =
    absurd (cc (two_words (codes "rule") (codes "field") a b (cc e) p q))
one_item (DerivesItem.field {name = n} {packet = p} {k = k} {o = o} {masks = ms} {stales = ss} {kind = kind} {mask = m} {stale = s} e ph is_kind dm ds is_end)
    (DerivesItem.field {name = n'} {packet = p'} {k = k'} {o = o'} {masks = ms'} {stales = ss'} {kind = kind'} {mask = m'} {stale = s'} e' ph' is_kind' dm' ds' is_end') xs ys q =
    let names : n ≡ n' = cc q in
    let packets : p ≡ p' = cc q in
    let words : k ≡ k' = cc q in
    let offsets : o ≡ o' = cc q in
    let kinds : kind ≡ kind' = cc (ap (λ (t : Token). field_type t.text) words, is_kind, is_kind') in
    let tails : (ms ++ ss ++ e ∷ []) ++ xs ≡ (ms' ++ ss' ++ e' ∷ []) ++ ys = cc q in
    let split : ms ++ (ss ++ e ∷ xs) ≡ ms' ++ (ss' ++ e' ∷ ys) = sym (regroup ms ss e xs) ∙ tails ∙ regroup ms' ss' e' ys in
    let masks = one_option dm dm' (ss ++ e ∷ xs) (ss' ++ e' ∷ ys) (blocks_mask ds e xs is_end) (blocks_mask ds' e' ys is_end') split in
    let stales = one_option ds ds' (e ∷ xs) (e' ∷ ys) (blocks_end (codes "stale") e xs (λ p. absurd (cc p)) is_end)
    (blocks_end (codes "stale") e' ys (λ p. absurd (cc p)) is_end') masks.1 in
    let mask_is : m ≡ m' = masks.0 in
    let stale_is : s ≡ s' = stales.0 in (
      λ i. syntax.Field (record { name = names i; packet = packets i; kind = kinds i; offset = number_of (offsets i); mask = mask_is i; stale = stale_is i }),
      cc stales.1,
    )
one_item (DerivesItem.rule {name = n} {s = s} {f = f} {q = q} {l = l} {i = d} {t = t} {reports = rs} {conditions = cs} {mode = mode} {kind = kind} {report = r} {condition = c} w e ph is_mode is_kind dr is_when dc is_end)
    (DerivesItem.rule {name = n'} {s = s'} {f = f'} {q = q'} {l = l'} {i = d'} {t = t'} {reports = rs'} {conditions = cs'} {mode = mode'} {kind = kind'} {report = r'} {condition = c'} w' e' ph' is_mode' is_kind' dr' is_when' dc' is_end') xs ys z =
    let names : n ≡ n' = cc z in
    let states : s ≡ s' = cc z in
    let fails : f ≡ f' = cc z in
    let sequences : q ≡ q' = cc z in
    let levels : l ≡ l' = cc z in
    let ids : d ≡ d' = cc z in
    let texts : t ≡ t' = cc z in
    let modes : mode ≡ mode' = cc (ap (λ (t : Token). state t.text) states, is_mode, is_mode') in
    let kinds : kind ≡ kind' = cc (ap (λ (t : Token). event_kind t.text) levels, is_kind, is_kind') in
    let tails : (rs ++ w ∷ cs ++ e ∷ []) ++ xs ≡ (rs' ++ w' ∷ cs' ++ e' ∷ []) ++ ys = cc z in
    let split : rs ++ (w ∷ (cs ++ e ∷ xs)) ≡ rs' ++ (w' ∷ (cs' ++ e' ∷ ys)) = sym (rule_regroup rs cs w e xs) ∙ tails ∙ rule_regroup rs' cs' w' e' ys in
    let reports = one_report dr dr' (w ∷ (cs ++ e ∷ xs)) (w' ∷ (cs' ++ e' ∷ ys))
    (blocks_word (codes "report") (codes "when") w (cs ++ e ∷ xs) (λ p. absurd (cc p)) is_when)
    (blocks_word (codes "report") (codes "when") w' (cs' ++ e' ∷ ys) (λ p. absurd (cc p)) is_when') split in
    let bodies : cs ++ e ∷ xs ≡ cs' ++ e' ∷ ys = cc reports.1 in
    let ends = one_end cs cs' xs ys e e' (none_ends dc) (none_ends dc') is_end is_end' bodies in
    let report_is : r ≡ r' = reports.0 in
    let condition_is : c ≡ c' = one_condition (subst (λ ts. Derives grammar.cond ts c) ends.0 dc) dc' in (
      λ i. syntax.Rule (record {
        name = names i;
        mode = modes i;
        fails = number_of (fails i);
        sequence = number_of (sequences i);
        event_kind = kinds i;
        event_id = number_of (ids i);
        text = string_text (texts i).text;
        report = report_is i;
        condition = condition_is i;
      }),
      ends.1,
    )

-- ---- files

not_empty : {ts : List Token} {i : Item} → DerivesItem ts i → (xs : List Token) → ts ++ xs ≡ [] → ⊥
not_empty (DerivesItem.packet p) xs e = absurd (cc e)
not_empty (DerivesItem.field f p k m s is_end) xs e = absurd (cc e)
not_empty (DerivesItem.rule w f p s k r is_when c is_end) xs e = absurd (cc e)

one_file_of : {ts us : List Token} {is js : List Item} → DerivesFile ts is → DerivesFile us js → ts ≡ us → is ≡ js
one_file_of DerivesFile.done DerivesFile.done e = refl
one_file_of DerivesFile.done (DerivesFile.next {us = us} item others) e = absurd (not_empty item us (sym e))
one_file_of (DerivesFile.next {us = us} item others) DerivesFile.done e = absurd (not_empty item us e)
one_file_of (DerivesFile.next {us = xs} {items = is} d ds) (DerivesFile.next {us = ys} {item = j} {items = js} f fs) e =
    let one = one_item d f xs ys e in
    cc (one.0, one_file_of ds fs one.1)

pub one_file : {ts : List Token} {is js : List Item} → DerivesFile ts is → DerivesFile ts js → is ≡ js
one_file d f = one_file_of d f refl
