-- What rule texts declare. This project's own.
use Rattle.std.specs.Prelude.{◌≡◌, ℕ, ◌+◌, ◌-◌, List, [], ◌∷◌, ◌++◌, nat_le, replicate, unsigned_abs, if◌then◌else◌}
use Rattle.std.specs.Option.{option_map_or}
use Rattle.lc_model.specs.Field.{full_mask}
use Rattle.lc_model.specs.Packet.{telemetry_header_size}
use Rattle.lc_model.specs.Text.Syntax.{FieldItem, Item, Number, PacketItem}
use Rattle.lc_model.specs.Text.Syntax as item
use Rattle.rpn_compiler.specs.Read.{HasItems}
use Rattle.scenarios.specs.Named.{NamedField, NamedPacket, NamedRule}

-- the packets, fields and rules of rule texts, those of the first text first
pub record Declarations : Type 0 where
  pub packets : List NamedPacket
  pub fields : List NamedField
  pub rules : List NamedRule

-- before the first text
abbrev pub nothing_declared : Declarations
nothing_declared = record { packets = []; fields = []; rules = [] }

-- 16 bits hold each number here of a text that compiles; of any other they hold the most
abbrev pub short : ℕ → ℕ
short n = if nat_le n 65_535 then n else 65_535

abbrev pub number_of : Number → ℕ
number_of n = short (unsigned_abs n.value)

-- a packet before its first line: all bytes after its headers are zeros
abbrev pub packet_declared : PacketItem → NamedPacket
packet_declared p =
    record { name = p.name.text; mid = number_of p.mid; count = 0; payload = replicate (number_of p.length - telemetry_header_size) 0 }

-- 32 bits hold each mask of a text that compiles; of any other they hold all ones
abbrev pub mask_of : Number → ℕ
mask_of n = if nat_le (unsigned_abs n.value) 4_294_967_295 then unsigned_abs n.value else 4_294_967_295

-- a field, whose own bits are all of its type where no mask is written
abbrev pub field_declared : FieldItem → NamedField
field_declared f = record {
  name = f.name.text;
  packet = f.packet.text;
  kind = f.kind;
  offset = number_of f.offset;
  mask = option_map_or mask_of f.mask (full_mask f.kind);
}

-- what an item of the text with this number declares; the next rule of the text has this number
abbrev pub with_item : (text next : ℕ) → Item → Declarations → Declarations
with_item text next (item.Packet p) d = record { packets = d.packets ++ packet_declared p ∷ []; fields = d.fields; rules = d.rules }
with_item text next (item.Field f) d = record { packets = d.packets; fields = d.fields ++ field_declared f ∷ []; rules = d.rules }
with_item text next (item.Rule r) d =
    record { packets = d.packets; fields = d.fields; rules = d.rules ++ record { name = r.name.text; text = text; number = short next } ∷ [] }

-- the number of the next rule after an item
abbrev pub next_behind : Item → ℕ → ℕ
next_behind (item.Rule r) next = next + 1
next_behind other next = next

-- the declarations of a text's items, in order
abbrev pub with_items : (text next : ℕ) → List Item → Declarations → Declarations
with_items text next [] d = d
with_items text next (i ∷ items) d = with_items text (next_behind i next) items (with_item text next i d)

-- the text with this number adds these declarations to the earlier ones
abbrev pub IsDeclared : ℕ → List ℕ → Declarations → Declarations → Type 0
IsDeclared number text before after = (items : List Item) × HasItems text items × (after ≡ with_items number 0 items before)

-- these texts add their declarations in order; the first text has this number
abbrev pub AreDeclaredFrom : ℕ → List (List ℕ) → Declarations → Declarations → Type 0
AreDeclaredFrom number [] before after = after ≡ before
AreDeclaredFrom number (text ∷ texts) before after =
    (between : Declarations) × IsDeclared number text before between × AreDeclaredFrom (number + 1) texts between after

-- these texts, numbered from 0, declare that
abbrev pub AreDeclared : List (List ℕ) → Declarations → Declarations → Type 0
AreDeclared texts before after = AreDeclaredFrom 0 texts before after
