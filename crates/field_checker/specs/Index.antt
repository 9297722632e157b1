-- The index of declared names. This project's own.
use Rattle.std.specs.Prelude.{◌≡◌, ℕ, ◌*◌, ◌%◌, ◌^◌, Bool, false, ◌||◌, List, fold, Option, None, Some, min, option_map, option_and_then, nat_lt, bit_xor}
use Rattle.std.specs.Option.{option_map_or, option_or}
use Rattle.std.specs.List.{list_any}
use Rattle.std.specs.declared.cmp.Ordering.{Ordering}
use Rattle.std.specs.Ordering.{nat_cmp, ordering_then}
use Rattle.std.specs.Cmp.Lexicographic.{slice_cmp}
use Rattle.std.specs.BTreeMap.{BTreeMap, get_by}
use Rattle.lc_model.specs.Text.Syntax as model
use Rattle.lc_model.specs.Text.Meaning as meaning
use Rattle.lc_model.specs.Text.Meaning.{is_earlier, packet_named, field_named}
use Rattle.rule_parser.specs.Syntax.{field_of, packet_of}
use Rattle.field_checker.specs.declared.index.Declared.{Declared}
use Rattle.field_checker.specs.declared.index.Index.{Index}
use denote.Ref.{Bor}

-- The hash of no bytes (FNV-1a, 64 bits).
abbrev pub begin : ℕ
begin = 0xCBF29CE484222325

-- The hash after one more byte.
abbrev pub spread_with : ℕ → ℕ → ℕ
spread_with number byte = (bit_xor number byte * 0x00000100000001B3) % 2 ^ 64

-- The hash of a name.
unfoldable pub spread : List ℕ → ℕ
spread text = fold spread_with begin text

-- The order of a name and a key: by hash, then by bytes.
abbrev pub compared : List ℕ → ℕ × Bor (List ℕ) → Ordering
compared text key = ordering_then (nat_cmp (spread text) key.0) (slice_cmp nat_cmp text key.1.now)

-- The value stored under a name.
abbrev pub at_name : {X : Type 0} → BTreeMap (ℕ × Bor (List ℕ)) X → List ℕ → Option X
at_name map text = get_by (compared text) map

-- Whether the place, if any, is before `at`.
abbrev pub is_before : Option ℕ → ℕ → Bool
is_before place at = option_map_or (λ least. nat_lt least at) place false

-- `d` is what this item alone declares: the place of its name, and its packet or field.
pub record Declares (item : model.Item) (d : Declared) : Type 0 where
  pub least : d.least ≡ (meaning.name_of item).at
  pub packet : option_map (λ p. packet_of p.now) d.packet ≡ meaning.packet_of item
  pub field : option_map (λ f. field_of f.now) d.field ≡ meaning.field_of item

-- The declarations of one name: the least place, and the first packet and field.
abbrev pub both : Declared → Declared → Declared
both first behind = record {
  least = min first.least behind.least;
  packet = option_or first.packet behind.packet;
  field = option_or first.field behind.field;
}

-- The declarations of one name from two parts of a text, of which either may have none.
abbrev pub joined : Option Declared → Option Declared → Option Declared
joined None behind = behind
joined (Some first) None = Some first
joined (Some first) (Some behind) = Some (both first behind)

-- Whether a packet or a field declares the name before place `at`.
abbrev pub is_named_before : Index → List ℕ → ℕ → Bool
is_named_before index text at = is_before (option_map (λ d. d.least) (at_name index.named text)) at

-- Whether a rule declares the name before place `at`.
abbrev pub is_rule_before : Index → List ℕ → ℕ → Bool
is_rule_before index text at = is_before (at_name index.rules text) at

-- The index has, for each name, its least place and the first packet and field declared with it.
pub record IsIndexOf (index : Index) (items : List model.Item) : Type 0 where
  pub places : (text : List ℕ) (at : ℕ) →
      (is_named_before index text at || is_rule_before index text at)
      ≡ list_any (λ other. is_earlier (meaning.name_of other) (record { at = at; text = text })) items
  pub packets : (text : List ℕ) (at : ℕ) →
      option_map (λ p. packet_of p.now) (option_and_then (λ d. d.packet) (at_name index.named text)) ≡ packet_named items (record { at = at; text = text })
  pub fields : (text : List ℕ) (at : ℕ) →
      option_map (λ f. field_of f.now) (option_and_then (λ d. d.field) (at_name index.named text)) ≡ field_named items (record { at = at; text = text })
