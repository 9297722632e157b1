-- The classes of names. This project's own.
use Rattle.std.specs.Prelude.{Bool, true, false}
use Rattle.editor_text.specs.declared.outline.WordClass.{WordClass}
use Rattle.editor_text.specs.declared.outline.WordClass.TheVariants.{Packet, Field, Rule}

-- whether it is the class of a packet's, a field's or a rule's name
abbrev pub is_name : WordClass → Bool
is_name Packet = true
is_name Field = true
is_name Rule = true
is_name other = false
