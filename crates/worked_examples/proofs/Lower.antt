-- A second rule text over the same field, with its reading and its two tables: one failure below 2,000 requests sequence 8, and a
-- rule that never fails would request sequence 9.
use Rattle.std.proofs.Common.{refl, List, [], ◌∷◌, ◌++◌, ℕ, None, pos, codes, lit≤, lit<, arith}
use Rattle.sha2.specs.Sha256.{sha256, first_words, schedule, rounds, compress, hash_after, digest_bytes}
use Rattle.lc_model.specs.declared.kind.Kind.TheVariants.{Wdt, Adt}
use Rattle.lc_model.specs.declared.field.Term.{Term}
use Rattle.lc_model.specs.declared.field.CmpOp.TheVariants.{Less}
use Rattle.lc_model.specs.declared.mode.ApMode.TheVariants.{Active}
use Rattle.lc_model.specs.declared.rule.EventKind.TheVariants.{Error}
use Rattle.lc_model.specs.Condition as condition
use Rattle.lc_model.specs.Condition.{Watch, And}
use Rattle.lc_model.specs.Rule.{Actionpoint, NamedRule}
use Rattle.lc_model.specs.Text.Token.{Token, Splits, blank}
use Rattle.lc_model.specs.Text.Syntax.{Item, Rule, Compare, Join, Not}
use Rattle.lc_model.specs.Text.Grammar as grammar
use Rattle.lc_model.specs.Text.Grammar.{DerivesItem}
use Rattle.lc_model.specs.Text.Meaning.{Means}
use Rattle.lc_model.specs.Text.Reading.{Reads, Parses}
use Rattle.lc_model.specs.Tables.Compiling.{Compiles}
use Rattle.lc_model.specs.Tables.Edition.{IsCompiledFile}
use Rattle.lc_model.specs.Tables.Equation.{SpellsInOrder, IsRearranged, not_word, operator_word}
use Rattle.lc_model.specs.Tables.File.{file_bytes, wrapped}
use Rattle.lc_model.specs.Tables.Half.{entry_of, IsHalf}
use Rattle.lc_model.specs.Tables.HalvesAndBytes.{Text}
use Rattle.lc_model.specs.Tables.Image.{TableEntry, FitsEntry, EndsOnce, wdt_image, adt_image, IsSound}
use Rattle.lc_model.specs.Tables.InForce.{compiled_actionpoints, edition, layouts, limits}
use Rattle.lc_model.proofs.Texts.Tokens.{next, last, piece, phrase, shallow_by_count}
use Rattle.worked_examples.proofs.Watchpoints.{low_volts, low_action}
use Rattle.worked_examples.proofs.Reading.{packet_tokens, field_tokens, packet_item, field_item, packet_derives, field_derives, number}
use Rattle.worked_examples.proofs.Halves.{bytes_fit}

-- ---- the text

abbrev pub lower_volts_text : List ℕ
lower_volts_text = codes "packet P = mid 0x0883 length 16; field V = P u16be at 12 stale 2; rule LOW active fails 1 sequence 8 event error 1002 \"lower volts\" when V < 2000; rule QUIET active fails 1 sequence 9 event error 1003 \"never\" when V < 2000 and not V < 2000;"

abbrev rule_tokens : List Token
rule_tokens =
    piece 66 (codes "rule") ∷ piece 71 (codes "LOW") ∷ piece 75 (codes "active") ∷ piece 82 (codes "fails") ∷
    piece 88 (codes "1") ∷ piece 90 (codes "sequence") ∷ piece 99 (codes "8") ∷ piece 101 (codes "event") ∷
    piece 107 (codes "error") ∷ piece 113 (codes "1002") ∷ piece 118 (codes "\"lower volts\"") ∷ piece 132 (codes "when") ∷
    piece 137 (codes "V") ∷ piece 139 (codes "<") ∷ piece 141 (codes "2000") ∷ piece 145 (codes ";") ∷ []

abbrev quiet_tokens : List Token
quiet_tokens =
    piece 147 (codes "rule") ∷ piece 152 (codes "QUIET") ∷ piece 158 (codes "active") ∷ piece 165 (codes "fails") ∷
    piece 171 (codes "1") ∷ piece 173 (codes "sequence") ∷ piece 182 (codes "9") ∷ piece 184 (codes "event") ∷
    piece 190 (codes "error") ∷ piece 196 (codes "1003") ∷ piece 201 (codes "\"never\"") ∷ piece 209 (codes "when") ∷
    piece 214 (codes "V") ∷ piece 216 (codes "<") ∷ piece 218 (codes "2000") ∷ piece 223 (codes "and") ∷
    piece 227 (codes "not") ∷ piece 231 (codes "V") ∷ piece 233 (codes "<") ∷ piece 235 (codes "2000") ∷
    piece 239 (codes ";") ∷ []

abbrev tokens : List Token
tokens = packet_tokens ++ (field_tokens ++ (rule_tokens ++ (quiet_tokens ++ [])))

abbrev splits : Splits lower_volts_text tokens
splits = (
  lit≤ tt,
  next (codes "packet") refl (λ more. refl) (blank refl (next (codes "P") refl (λ more. refl) (blank refl (next (
      codes "=") refl (λ more. refl) (blank refl (next (codes "mid") refl (λ more. refl) (blank refl (next (
      codes "0x0883") refl (λ more. refl) (blank refl (next (codes "length") refl (λ more. refl) (blank refl (next (
      codes "16") refl (λ more. refl) (next (codes ";") refl (λ more. refl) (blank refl (next (codes "field") refl (
      λ more. refl) (blank refl (next (codes "V") refl (λ more. refl) (blank refl (next (codes "=") refl (λ more. refl) (
      blank refl (next (codes "P") refl (λ more. refl) (blank refl (next (codes "u16be") refl (λ more. refl) (blank refl (next (
      codes "at") refl (λ more. refl) (blank refl (next (codes "12") refl (λ more. refl) (blank refl (next (
      codes "stale") refl (λ more. refl) (blank refl (next (codes "2") refl (λ more. refl) (next (codes ";") refl (
      λ more. refl) (blank refl (next (codes "rule") refl (λ more. refl) (blank refl (next (codes "LOW") refl (λ more. refl) (
      blank refl (next (codes "active") refl (λ more. refl) (blank refl (next (codes "fails") refl (λ more. refl) (blank refl (
      next (codes "1") refl (λ more. refl) (blank refl (next (codes "sequence") refl (λ more. refl) (blank refl (next (
      codes "8") refl (λ more. refl) (blank refl (next (codes "event") refl (λ more. refl) (blank refl (next (
      codes "error") refl (λ more. refl) (blank refl (next (codes "1002") refl (λ more. refl) (blank refl (next (
      codes "\"lower volts\"") refl (λ more. refl) (blank refl (next (codes "when") refl (λ more. refl) (blank refl (next (
      codes "V") refl (λ more. refl) (blank refl (next (codes "<") refl (λ more. refl) (blank refl (next (codes "2000") refl (
      λ more. refl) (next (codes ";") refl (λ more. refl) (blank refl (next (codes "rule") refl (λ more. refl) (blank refl (next (codes "QUIET") refl (λ more. refl) (blank refl (next (codes "active") refl (λ more. refl) (blank refl (next (codes "fails") refl (λ more. refl) (blank refl (next (codes "1") refl (λ more. refl) (blank refl (next (codes "sequence") refl (λ more. refl) (blank refl (next (codes "9") refl (λ more. refl) (blank refl (next (codes "event") refl (λ more. refl) (blank refl (next (codes "error") refl (λ more. refl) (blank refl (next (codes "1003") refl (λ more. refl) (blank refl (next (codes "\"never\"") refl (λ more. refl) (blank refl (next (codes "when") refl (λ more. refl) (blank refl (next (codes "V") refl (λ more. refl) (blank refl (next (codes "<") refl (λ more. refl) (blank refl (next (codes "2000") refl (λ more. refl) (blank refl (next (codes "and") refl (λ more. refl) (blank refl (next (codes "not") refl (λ more. refl) (blank refl (next (codes "V") refl (λ more. refl) (blank refl (next (codes "<") refl (λ more. refl) (blank refl (next (codes "2000") refl (λ more. refl) (last (codes ";") refl)))))))))))))))))))))))))))))))))))))))))))))))))))))))))))))))))))))))))))))))))))))))))))))))))))))))),
)

abbrev rule_item : Item
rule_item = Rule (record {
  name = piece 71 (codes "LOW");
  mode = Active;
  fails = number 88 1;
  sequence = number 99 8;
  event_kind = Error;
  event_id = number 113 1002;
  text = codes "lower volts";
  report = None;
  condition = Compare (piece 137 (codes "V")) Less (number 141 2000);
})

rule_derives : DerivesItem rule_tokens rule_item
rule_derives = grammar.DerivesItem.rule (piece 132 (codes "when")) (piece 145 (codes ";")) (phrase refl) refl refl grammar.DerivesReport.absent refl
    (grammar.cond_one (grammar.xors_one (grammar.ands_one (grammar.nots_compare (phrase refl) refl)))) refl

abbrev quiet_item : Item
quiet_item = Rule (record {
  name = piece 152 (codes "QUIET");
  mode = Active;
  fails = number 171 1;
  sequence = number 182 9;
  event_kind = Error;
  event_id = number 196 1003;
  text = codes "never";
  report = None;
  condition = Join And (Compare (piece 214 (codes "V")) Less (number 218 2000)) (Not (Compare (piece 231 (codes "V")) Less (number 235 2000)));
})

quiet_derives : DerivesItem quiet_tokens quiet_item
quiet_derives = grammar.DerivesItem.rule (piece 209 (codes "when")) (piece 239 (codes ";")) (phrase refl) refl refl grammar.DerivesReport.absent refl
    (grammar.cond_one (grammar.xors_one (grammar.ands_and (piece 223 (codes "and")) (grammar.ands_one (grammar.nots_compare (phrase refl) refl)) refl (grammar.nots_not refl (grammar.nots_compare (phrase refl) refl))))) refl

abbrev items : List Item
items = packet_item ∷ field_item ∷ rule_item ∷ quiet_item ∷ []

parses : Parses tokens items
parses = (
  grammar.DerivesFile.next packet_derives (grammar.DerivesFile.next field_derives (grammar.DerivesFile.next rule_derives (grammar.DerivesFile.next quiet_derives grammar.DerivesFile.done))),
  shallow_by_count tokens (lit≤ tt),
)

abbrev pub lower_volts : Term
lower_volts = record low_volts { value = pos 2000 }

abbrev lower_action : Actionpoint
lower_action = record low_action { fails = 1; sequence = 8; event_id = 1002; text = codes "lower volts"; condition = Watch lower_volts }

-- no number is below 2,000 and not below 2,000
abbrev pub never : condition.Condition
never = condition.Join And (Watch lower_volts) (condition.Not (Watch lower_volts))

abbrev quiet_action : Actionpoint
quiet_action = record lower_action { sequence = 9; event_id = 1003; text = codes "never"; condition = never }

abbrev pub lower_volts_rules : List NamedRule
lower_volts_rules = record { name = codes "LOW"; action = lower_action } ∷ record { name = codes "QUIET"; action = quiet_action } ∷ []

means : Means items lower_volts_rules
means = record { accepted = refl; meant = refl }

pub lower_volts_reads : Reads lower_volts_text lower_volts_rules
lower_volts_reads = (tokens, items, splits, parses, means)

pub lower_volts_compiles : Compiles limits lower_volts_text lower_volts_rules
lower_volts_compiles = (lower_volts_reads, refl)

abbrev pub lower_text : Text
lower_text = record { source = lower_volts_text; rules = lower_volts_rules }

-- ---- its tables

abbrev hash : List ℕ
hash = sha256 lower_volts_text

abbrev pub lower_wdt : List ℕ
lower_wdt = wdt_image hash (lower_volts ∷ [])

-- the comparison twice, the second time negated
abbrev quiet_words : List ℕ
quiet_words = 0 ∷ 0 ∷ not_word ∷ operator_word And ∷ []

abbrev entries : List TableEntry
entries = entry_of lower_action (0 ∷ []) ∷ entry_of quiet_action quiet_words ∷ []

abbrev pub lower_adt : List ℕ
lower_adt = adt_image compiled_actionpoints hash 1 entries

wdt_sound : IsSound layouts Wdt lower_wdt
unfolding sha256 hash_after compress rounds schedule first_words digest_bytes
wdt_sound = refl

adt_sound : IsSound layouts Adt lower_adt
unfolding sha256 hash_after compress rounds schedule first_words digest_bytes
adt_sound = refl

pub lower_wdt_is_half : IsHalf layouts Wdt lower_wdt lower_volts_text
lower_wdt_is_half = (lower_volts_rules, lower_volts_reads, wdt_sound, refl)

entry_fits : FitsEntry compiled_actionpoints (entry_of lower_action (0 ∷ []))
entry_fits = record {
  passive = lit< tt;
  pass_to_fail = lit< tt;
  fail_to_pass = lit< tt;
  sequence = lit< tt;
  fails = lit< tt;
  event_id = lit< tt;
  text_length = lit< tt;
  text = bytes_fit (codes "lower volts") refl;
  words_length = lit< tt;
  words = (lit< tt, tt);
}

quiet_fits : FitsEntry compiled_actionpoints (entry_of quiet_action quiet_words)
quiet_fits = record {
  passive = lit< tt;
  pass_to_fail = lit< tt;
  fail_to_pass = lit< tt;
  sequence = lit< tt;
  fails = lit< tt;
  event_id = lit< tt;
  text_length = lit< tt;
  text = bytes_fit (codes "never") refl;
  words_length = lit< tt;
  words = (lit< tt, (lit< tt, (lit< tt, (lit< tt, tt))));
}

quiet_words_end_once : EndsOnce (entry_of quiet_action quiet_words)
quiet_words_end_once = ((λ e. absurd (cc e)), ((λ e. absurd (cc e)), ((λ e. omega (arith, e)), ((λ e. omega (arith, e)), tt))))

quiet_spelled : SpellsInOrder (lower_volts ∷ []) quiet_words never
quiet_spelled = SpellsInOrder.binary And (SpellsInOrder.mention refl) (SpellsInOrder.negation (SpellsInOrder.mention refl))

quiet_in_order : IsRearranged never never
quiet_in_order = IsRearranged.in_order IsRearranged.mention (IsRearranged.negation IsRearranged.mention)

lower_adt_is_half : IsHalf layouts Adt lower_adt lower_volts_text
lower_adt_is_half = (
  lower_volts_rules,
  lower_volts_reads,
  adt_sound,
  (
    compiled_actionpoints,
    entries,
    refl,
    ((entry_fits, (λ e. absurd (cc e), tt)), ((quiet_fits, quiet_words_end_once), tt)),
    ((refl, (Watch lower_volts, IsRearranged.mention, SpellsInOrder.mention refl)), ((refl, (never, quiet_in_order, quiet_spelled)), tt)),
  ),
)

-- ---- its files

abbrev pub lower_wdt_file : List ℕ
lower_wdt_file = file_bytes (wrapped Wdt lower_wdt)

abbrev pub lower_adt_file : List ℕ
lower_adt_file = file_bytes (wrapped Adt lower_adt)

pub lower_wdt_compiled : IsCompiledFile edition Wdt lower_wdt_file lower_text
unfolding sha256 hash_after compress rounds schedule first_words digest_bytes
lower_wdt_compiled = (lower_wdt, refl, refl, lower_wdt_is_half)

pub lower_adt_compiled : IsCompiledFile edition Adt lower_adt_file lower_text
unfolding sha256 hash_after compress rounds schedule first_words digest_bytes
lower_adt_compiled = (
  (lower_adt, refl, refl, lower_adt_is_half),
  (compiled_actionpoints, entries, refl, ((entry_fits, (λ e. absurd (cc e), tt)), ((quiet_fits, quiet_words_end_once), tt)), ((refl, refl), ((refl, refl), tt))),
)
