-- The two halves of a rule text match, and say its watchpoints and rules.
use Rattle.std.proofs.Common.{◌≡◌, refl, sym, ◌∙◌, ap, subst, ℕ, ◌-◌, ◌≤◌, Bool, true, false, cond, ◌&&◌, ◌==◌, List, [], ◌∷◌, ◌++◌, length, map, flat_map, find, drop, replicate, Option, Some, None, arith, length-append, length-drop}
use Rattle.std.specs.List.{AllZip, AllByRecursion}
use Rattle.std.specs.Option.{option_map_or}
use Rattle.std.specs.Int.{w16, from_be_bytes}
use Rattle.std.proofs.lemmas.List.{drop_at}
use Rattle.std.proofs.lemmas.Nat.{from_be_bytes-to_be_bytes_2}
use Rattle.sha2.specs.Sha256.{sha256}
use Rattle.sha2.proofs.Facts256.{length-sha256}
use Rattle.lc_model.specs.declared.field.Term.{Term}
use Rattle.lc_model.specs.declared.kind.Kind.{Kind}
use Rattle.lc_model.specs.declared.kind.Kind.TheVariants.{Wdt, Adt}
use Rattle.lc_model.specs.Condition.{Condition}
use Rattle.lc_model.specs.Rule.{Actionpoint, NamedRule}
use Rattle.lc_model.specs.Bytes.{u16, u16_at}
use Rattle.lc_model.specs.Codes.{is_kind, kind_code, table_entries}
use Rattle.lc_model.specs.Text.Reading.{Reads}
use Rattle.lc_model.specs.Tables.Equation.{terms_of, IsRearranged, SpellsInOrder, Spells}
use Rattle.lc_model.specs.Tables.Image.{Layout, Watchpoints, Actionpoints, WideActionpoints, kind_of, version_of, preamble, blank_entry, image_length, image_fault, preamble_code, layout_of, wrong_size, TableEntry, FitsWatchpoint, FitsEntry, EndsOnce, term_bytes, entry_bytes, filled, wdt_image, adt_image, hash_of, watchpoint_count, IsSound}
use Rattle.lc_model.specs.Tables.Half.{entry_of, IsEntryOf, HasActionpoints, IsMatch, Says, IsHalf}
use Rattle.lc_model.specs.Rule.{actions}
use Rattle.lc_model.specs.Laws.Tables.{IsSameRule, HalvesOfOneText}
use Rattle.lc_model.proofs.Texts.OneReading.{one_reading}
use Rattle.lc_model.proofs.Tables.TermsFit.{terms_fit, terms_in_type}
use Rattle.lc_model.proofs.Tables.SpellsOnce.{one_condition}
use Rattle.lc_model.proofs.Tables.ImageBytes.{same_items, one_watchpoint, same_length, one_entry}
use Rattle.lc_model.proofs.Facts.{and_second, tested_equal}
use Rattle.lc_model.proofs.Tables.FilesAlike.{hash_of_preamble}

-- ---- the parts of an image

body_again : (l : Layout) (own n : ℕ) (h rest : List ℕ) → length h ≡ 32 → drop 40 (preamble l own n h ++ rest) ≡ rest
body_again l own n h rest long = drop_at h rest 32 long

-- ---- a sound image is short

found_passes : (test : Layout → Bool) (ls : List Layout) (l : Layout) → find test ls ≡ Some l → test l ≡ true
found_passes test [] l e = absurd (cc e)
found_passes test (m ∷ ls) l e = go (test m) refl (found_passes test ls l) e
  where
    go : (b : Bool) → test m ≡ b → (find test ls ≡ Some l → test l ≡ true) → cond b (Some m) (find test ls) ≡ Some l → test l ≡ true
    go true is others e = let same : m ≡ l = cc e in subst (λ (k : Layout). test k ≡ true) same is
    go false is others e = others e

longest : (l : Layout) → image_length l ≤ 19400
longest Watchpoints = omega arith
longest Actionpoints = omega arith
longest WideActionpoints = omega arith

pub sound_is_short : (layouts : List Layout) (kind : Kind) (image : List ℕ) → IsSound layouts kind image → length image ≤ 19400
sound_is_short layouts kind image sound = go (layout_of layouts kind image) refl sound
  where
    go : (o : Option Layout) → layout_of layouts kind image ≡ o →
        option_map_or (λ l. image_fault l image (preamble_code l image)) o (Some wrong_size) ≡ None → length image ≤ 19400
    go None is e = absurd (cc e)
    go (Some l) is e =
        let passes : (is_kind kind (kind_of l) && (image_length l == length image)) ≡ true =
        found_passes (λ m. is_kind kind (kind_of m) && (image_length m == length image)) layouts l is in
        let same : image_length l ≡ length image = tested_equal _ _ (and_second (is_kind kind (kind_of l)) _ passes) in
        omega (arith, same, longest l)

counted : {A : Type 0} (f : A → List ℕ) → ((x : A) → 1 ≤ length (f x)) → (xs : List A) (r : List (List ℕ)) →
    length xs ≤ length (flat_map (λ e. e) (map f xs ++ r))
counted f long [] r = omega arith
counted f long (x ∷ xs) r =
    omega (arith, long x, counted f long xs r, length-append (f x) (flat_map (λ e. e) (map f xs ++ r)))

few_items : {A : Type 0} (f : A → List ℕ) → ((x : A) → 1 ≤ length (f x)) → (xs : List A) (r : List (List ℕ)) (image : List ℕ) →
    drop 40 image ≡ flat_map (λ e. e) (map f xs ++ r) → length image ≤ 19400 → length xs ≤ 19400
few_items f long xs r image body short =
    omega (arith, counted f long xs r, length-drop 40 image, ap (λ (b : List ℕ). length b) body, short)

one_number : (m n : ℕ) → m ≤ 19400 → n ≤ 19400 → from_be_bytes w16 (u16 m) ≡ from_be_bytes w16 (u16 n) → m ≡ n
one_number m n a b e =
    sym (from_be_bytes-to_be_bytes_2 m (omega (arith, a))) ∙ e ∙ from_be_bytes-to_be_bytes_2 n (omega (arith, b))

-- ---- the layout

one_layout : (l m : Layout) → from_be_bytes w16 (u16 (version_of l)) ≡ from_be_bytes w16 (u16 (version_of m)) →
    from_be_bytes w16 (u16 (kind_code (kind_of l))) ≡ from_be_bytes w16 (u16 (kind_code (kind_of m))) → l ≡ m
one_layout Watchpoints Watchpoints v k = refl
one_layout Watchpoints Actionpoints v k = absurd (omega (arith, k))
one_layout Watchpoints WideActionpoints v k = absurd (omega (arith, k))
one_layout Actionpoints Watchpoints v k = absurd (omega (arith, k))
one_layout Actionpoints Actionpoints v k = refl
one_layout Actionpoints WideActionpoints v k = absurd (omega (arith, v))
one_layout WideActionpoints Watchpoints v k = absurd (omega (arith, k))
one_layout WideActionpoints Actionpoints v k = absurd (omega (arith, v))
one_layout WideActionpoints WideActionpoints v k = refl

-- ---- one image, one list of watchpoints

long_term : (t : Term) → 1 ≤ length (term_bytes t)
long_term t = omega arith

long_entry : (l : Layout) (e : TableEntry) → 1 ≤ length (entry_bytes l e)
long_entry l e = omega arith

pub one_list : (h : List ℕ) (ts us : List Term) → length h ≡ 32 → length (wdt_image h ts) ≤ 19400 → AllByRecursion FitsWatchpoint ts →
    AllByRecursion FitsWatchpoint us → wdt_image h ts ≡ wdt_image h us → ts ≡ us
one_list h ts us long short a b e =
    let rest = λ (xs : List Term). replicate (table_entries - length (map term_bytes xs)) (blank_entry Watchpoints) in
    let body_ts : drop 40 (wdt_image h ts) ≡ filled Watchpoints (map term_bytes ts) = body_again Watchpoints (length ts) (length ts) h _ long in
    let body_us : drop 40 (wdt_image h us) ≡ filled Watchpoints (map term_bytes us) = body_again Watchpoints (length us) (length us) h _ long in
    let same_body : filled Watchpoints (map term_bytes ts) ≡ filled Watchpoints (map term_bytes us) = sym body_ts ∙ ap (drop 40) e ∙ body_us in
    let few_ts : length ts ≤ 19400 = few_items term_bytes long_term ts (rest ts) (wdt_image h ts) body_ts short in
    let few_us : length us ≤ 19400 = few_items term_bytes long_term us (rest us) (wdt_image h ts) (body_ts ∙ same_body) short in
    let same : length ts ≡ length us = one_number (length ts) (length us) few_ts few_us (ap (λ (x : List ℕ). u16_at x 4) e) in
    same_items FitsWatchpoint term_bytes (λ x y a b. refl) one_watchpoint ts us (rest ts) (rest us) a b same same_body

-- one list of actionpoints
pub one_table : (l : Layout) (h : List ℕ) (n m : ℕ) (es fs : List TableEntry) → length h ≡ 32 → length (adt_image l h n es) ≤ 19400 →
    AllByRecursion (λ x. FitsEntry l x × EndsOnce x) es → AllByRecursion (λ x. FitsEntry l x × EndsOnce x) fs → adt_image l h n es ≡ adt_image l h m fs → es ≡ fs
one_table l h n m es fs long short a b e =
    let rest = λ (xs : List TableEntry). replicate (table_entries - length (map (entry_bytes l) xs)) (blank_entry l) in
    let body_es : drop 40 (adt_image l h n es) ≡ filled l (map (entry_bytes l) es) = body_again l (length es) n h _ long in
    let body_fs : drop 40 (adt_image l h m fs) ≡ filled l (map (entry_bytes l) fs) = body_again l (length fs) m h _ long in
    let same_body : filled l (map (entry_bytes l) es) ≡ filled l (map (entry_bytes l) fs) = sym body_es ∙ ap (drop 40) e ∙ body_fs in
    let few_es : length es ≤ 19400 = few_items (entry_bytes l) (long_entry l) es (rest es) (adt_image l h n es) body_es short in
    let few_fs : length fs ≤ 19400 = few_items (entry_bytes l) (long_entry l) fs (rest fs) (adt_image l h n es) (body_es ∙ same_body) short in
    let same : length es ≡ length fs = one_number (length es) (length fs) few_es few_fs (ap (λ (x : List ℕ). u16_at x 4) e) in
    same_items (λ x. FitsEntry l x × EndsOnce x) (entry_bytes l) (same_length l) (one_entry l) es fs (rest es) (rest fs) a b same same_body

-- what an image has in two ways it has with the same entries
pub record OneTable (spells others : List ℕ → Condition → Type 0) (rules said : List Actionpoint) : Type 0 where
  pub entries : List TableEntry
  pub first : AllZip (IsEntryOf spells) rules entries
  pub second : AllZip (IsEntryOf others) said entries

pub one_of_two : {spells others : List ℕ → Condition → Type 0} (h : List ℕ) (n : ℕ) (rules said : List Actionpoint) (adt : List ℕ) →
    length h ≡ 32 → length adt ≤ 19400 → HasActionpoints spells h n rules adt → HasActionpoints others h n said adt → OneTable spells others rules said
one_of_two {spells} {others} h n rules said adt long short a b =
    let one : adt_image a.0 h n a.1 ≡ adt_image b.0 h n b.1 = sym a.2 ∙ b.2 in
    let layout : b.0 ≡ a.0 = one_layout b.0 a.0 (sym (ap (λ (x : List ℕ). u16_at x 0) one)) (sym (ap (λ (x : List ℕ). u16_at x 2) one)) in
    let fits : AllByRecursion (λ e. FitsEntry a.0 e × EndsOnce e) b.1 = subst (λ (l : Layout). AllByRecursion (λ e. FitsEntry l e × EndsOnce e) b.1) layout b.3 in
    let again : adt_image a.0 h n a.1 ≡ adt_image a.0 h n b.1 = one ∙ ap (λ (l : Layout). adt_image l h n b.1) layout in
    let same : a.1 ≡ b.1 = one_table a.0 h n n a.1 b.1 long (subst (λ (w : List ℕ). length w ≤ 19400) a.2 short) a.3 fits again in
    record { entries = b.1; first = subst (λ (es : List TableEntry). AllZip (IsEntryOf spells) rules es) same a.4; second = b.4 }

-- ---- one entry, one rule

-- rules of one entry are the same but for their conditions
pub same_but_condition : (spells others : List ℕ → Condition → Type 0) (a b : Actionpoint) (e : TableEntry) →
    IsEntryOf spells a e → IsEntryOf others b e → b ≡ record a { condition = b.condition }
same_but_condition spells others a b e first second =
    let one : entry_of b e.words ≡ entry_of a e.words = sym second.0 ∙ first.0 in
    let reports : b.report ≡ a.report = ap (λ (x : TableEntry). x.report) one in
    let modes : b.mode ≡ a.mode = ap (λ (x : TableEntry). x.mode) one in
    let sequences : b.sequence ≡ a.sequence = ap (λ (x : TableEntry). x.sequence) one in
    let failures : b.fails ≡ a.fails = ap (λ (x : TableEntry). x.fails) one in
    let kinds : b.event_kind ≡ a.event_kind = ap (λ (x : TableEntry). x.event_kind) one in
    let ids : b.event_id ≡ a.event_id = ap (λ (x : TableEntry). x.event_id) one in
    let texts : b.text ≡ a.text = ap (λ (x : TableEntry). x.text) one in
    λ i. record {
      mode = modes i;
      fails = failures i;
      sequence = sequences i;
      event_kind = kinds i;
      event_id = ids i;
      text = texts i;
      report = reports i;
      condition = b.condition;
    }

same_rule : (terms : List Term) → length terms ≤ 65280 → (a b : Actionpoint) (e : TableEntry) →
    IsEntryOf (Spells terms) a e → IsEntryOf (SpellsInOrder terms) b e → IsSameRule a b
same_rule terms few a b e first second =
    let condition : first.1.0 ≡ b.condition = one_condition terms few e.words first.1.0 b.condition first.1.2 second.1 in (
      b.condition,
      same_but_condition (Spells terms) (SpellsInOrder terms) a b e first second,
      subst (λ (c : Condition). IsRearranged a.condition c) condition first.1.1,
    )

same_rules : (terms : List Term) → length terms ≤ 65280 → (rs bs : List Actionpoint) (es : List TableEntry) →
    AllZip (IsEntryOf (Spells terms)) rs es → AllZip (IsEntryOf (SpellsInOrder terms)) bs es → AllZip IsSameRule rs bs
same_rules terms few [] [] [] a b = tt
same_rules terms few [] [] (e ∷ es) a b = absurd a
same_rules terms few [] (y ∷ bs) [] a b = absurd b
same_rules terms few [] (y ∷ bs) (e ∷ es) a b = absurd a
same_rules terms few (x ∷ rs) [] [] a b = absurd a
same_rules terms few (x ∷ rs) [] (e ∷ es) a b = absurd b
same_rules terms few (x ∷ rs) (y ∷ bs) [] a b = absurd a
same_rules terms few (x ∷ rs) (y ∷ bs) (e ∷ es) a b = (same_rule terms few x y e a.0 b.0, same_rules terms few rs bs es a.1 b.1)

-- each entry's words spell its condition with the operands in some order
said_in_order : (terms : List Term) (rs : List Actionpoint) (es : List TableEntry) → AllZip (IsEntryOf (Spells terms)) rs es →
    (said : List Actionpoint) × AllZip (IsEntryOf (SpellsInOrder terms)) said es
said_in_order terms [] [] all = ([], tt)
said_in_order terms [] (e ∷ es) all = absurd all
said_in_order terms (x ∷ rs) [] all = absurd all
said_in_order terms (x ∷ rs) (e ∷ es) all =
    let others : (said : List Actionpoint) × AllZip (IsEntryOf (SpellsInOrder terms)) said es = said_in_order terms rs es all.1 in
    (record x { condition = all.0.1.0 } ∷ others.0, ((all.0.0, all.0.1.2), others.1))

-- ---- the two halves

module _ (layouts : List Layout) (text wdt adt : List ℕ) (rules : List NamedRule) (reads : Reads text rules)
    (wdt_half : IsHalf layouts Wdt wdt text) (adt_half : IsHalf layouts Adt adt text) where
  wdt_is : wdt ≡ wdt_image (sha256 text) (terms_of rules)
  wdt_is = subst (λ (rs : List NamedRule). wdt ≡ wdt_image (sha256 text) (terms_of rs)) (one_reading text wdt_half.0 rules wdt_half.1 reads) wdt_half.3

  adt_has : HasActionpoints (Spells (terms_of rules)) (sha256 text) (length (terms_of rules)) (actions rules) adt
  adt_has =
      subst (λ (rs : List NamedRule). HasActionpoints (Spells (terms_of rs)) (sha256 text) (length (terms_of rs)) (actions rs) adt)
      (one_reading text adt_half.0 rules adt_half.1 reads) adt_half.3

  wdt_hash : hash_of wdt ≡ sha256 text
  wdt_hash = ap hash_of wdt_is ∙ hash_of_preamble Watchpoints (length (terms_of rules)) (length (terms_of rules)) (sha256 text) (filled Watchpoints (map term_bytes (terms_of rules))) (length-sha256 text)

  pub adt_hash : hash_of adt ≡ sha256 text
  adt_hash = ap hash_of adt_has.2 ∙ hash_of_preamble adt_has.0 (length adt_has.1) (length (terms_of rules)) (sha256 text) (filled adt_has.0 (map (entry_bytes adt_has.0) adt_has.1)) (length-sha256 text)

  pub few_terms : length (terms_of rules) ≤ 19400
  few_terms =
      let body : drop 40 wdt ≡ filled Watchpoints (map term_bytes (terms_of rules)) =
      ap (drop 40) wdt_is ∙ body_again Watchpoints (length (terms_of rules)) (length (terms_of rules)) (sha256 text) (filled Watchpoints (map term_bytes (terms_of rules))) (length-sha256 text) in
      few_items term_bytes long_term (terms_of rules) (replicate (table_entries - length (map term_bytes (terms_of rules))) (blank_entry Watchpoints)) wdt body
      (sound_is_short layouts Wdt wdt wdt_half.2)

  they_match : IsMatch wdt adt
  they_match = record {
    hash = wdt_hash ∙ sym adt_hash;
    watchpoints = ap watchpoint_count wdt_is ∙ sym (ap watchpoint_count adt_has.2);
  }

  they_say : (terms : List Term) (said : List Actionpoint) → Says wdt adt terms said → (terms ≡ terms_of rules) × AllZip IsSameRule (actions rules) said
  they_say terms said says =
      let wdt_short : length wdt ≤ 19400 = sound_is_short layouts Wdt wdt wdt_half.2 in
      let adt_short : length adt ≤ 19400 = sound_is_short layouts Adt adt adt_half.2 in
      let said_wdt : wdt ≡ wdt_image (sha256 text) terms = subst (λ (h : List ℕ). wdt ≡ wdt_image h terms) wdt_hash says.watchpoints in
      let same : terms ≡ terms_of rules =
      one_list (sha256 text) terms (terms_of rules) (length-sha256 text) (subst (λ (w : List ℕ). length w ≤ 19400) said_wdt wdt_short)
      says.fit (terms_fit text rules reads) (sym said_wdt ∙ wdt_is) in
      let said_adt : HasActionpoints (SpellsInOrder (terms_of rules)) (sha256 text) (length (terms_of rules)) said adt =
      subst (λ (h : List ℕ). HasActionpoints (SpellsInOrder (terms_of rules)) h (length (terms_of rules)) said adt) adt_hash
      (subst (λ (ts : List Term). HasActionpoints (SpellsInOrder ts) (hash_of adt) (length ts) said adt) same says.actionpoints) in
      let both : OneTable (Spells (terms_of rules)) (SpellsInOrder (terms_of rules)) (actions rules) said =
      one_of_two (sha256 text) (length (terms_of rules)) (actions rules) said adt (length-sha256 text) adt_short adt_has said_adt in
      (same, same_rules (terms_of rules) (omega (arith, few_terms)) (actions rules) said both.entries both.first both.second)

  they_say_something : (said : List Actionpoint) × Says wdt adt (terms_of rules) said
  they_say_something =
      let said : (said : List Actionpoint) × AllZip (IsEntryOf (SpellsInOrder (terms_of rules))) said adt_has.1 =
      said_in_order (terms_of rules) (actions rules) adt_has.1 adt_has.4 in
      let again : adt ≡ adt_image adt_has.0 (hash_of adt) (length (terms_of rules)) adt_has.1 =
      adt_has.2 ∙ ap (λ (h : List ℕ). adt_image adt_has.0 h (length (terms_of rules)) adt_has.1) (sym adt_hash) in (
        said.0,
        record {
          watchpoints = wdt_is ∙ ap (λ (h : List ℕ). wdt_image h (terms_of rules)) (sym wdt_hash);
          fit = terms_fit text rules reads;
          in_type = terms_in_type text rules reads;
          actionpoints = (adt_has.0, adt_has.1, again, adt_has.3, said.1);
        },
      )

pub halves_of_one_text : HalvesOfOneText
halves_of_one_text layouts text wdt adt rules reads wdt_half adt_half = record {
  match = they_match layouts text wdt adt rules reads wdt_half adt_half;
  something = they_say_something layouts text wdt adt rules reads wdt_half adt_half;
  say = they_say layouts text wdt adt rules reads wdt_half adt_half;
}
