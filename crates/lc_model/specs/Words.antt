-- The words and signs of types, comparisons, states and events, in texts and listings. This project's own.
use Rattle.std.specs.Prelude.{ℕ, List, codes}
use Rattle.lc_model.specs.declared.field.FieldType.{FieldType}
use Rattle.lc_model.specs.declared.field.FieldType.TheVariants.{U8, I8, U16Be, U16Le, I16Be, I16Le, U32Be, U32Le, I32Be, I32Le}
use Rattle.lc_model.specs.declared.field.CmpOp.{CmpOp}
use Rattle.lc_model.specs.declared.field.CmpOp.TheVariants.{Less, LessOrEqual, NotEqual, Equal, GreaterOrEqual, Greater}
use Rattle.lc_model.specs.declared.mode.ApMode.{ApMode}
use Rattle.lc_model.specs.declared.mode.ApMode.TheVariants.{Active, Passive, Disabled, PermOff}
use Rattle.lc_model.specs.declared.rule.EventKind.{EventKind}
use Rattle.lc_model.specs.declared.rule.EventKind.TheVariants.{Debug, Information, Error, Critical}

-- The word of a field type.
abbrev pub type_word : FieldType → List ℕ
type_word U8 = codes "u8"
type_word I8 = codes "i8"
type_word U16Be = codes "u16be"
type_word U16Le = codes "u16le"
type_word I16Be = codes "i16be"
type_word I16Le = codes "i16le"
type_word U32Be = codes "u32be"
type_word U32Le = codes "u32le"
type_word I32Be = codes "i32be"
type_word I32Le = codes "i32le"

-- The sign of a comparison.
abbrev pub comparison_sign : CmpOp → List ℕ
comparison_sign Less = codes "<"
comparison_sign LessOrEqual = codes "<="
comparison_sign NotEqual = codes "!="
comparison_sign Equal = codes "=="
comparison_sign GreaterOrEqual = codes ">="
comparison_sign Greater = codes ">"

-- The word of a rule's state; `off` is permanently off, which no text has.
abbrev pub state_word : ApMode → List ℕ
state_word Active = codes "active"
state_word Passive = codes "passive"
state_word Disabled = codes "disabled"
state_word PermOff = codes "off"

-- The word of an event type in rule texts.
abbrev pub level_word : EventKind → List ℕ
level_word Debug = codes "debug"
level_word Information = codes "info"
level_word Error = codes "error"
level_word Critical = codes "critical"

-- The word of an event type in listings of packets.
abbrev pub event_word : EventKind → List ℕ
event_word Debug = codes "debug"
event_word Information = codes "information"
event_word Error = codes "error"
event_word Critical = codes "critical"
