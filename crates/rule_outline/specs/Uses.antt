-- The uses of a name. This project's own.
use Rattle.std.specs.Prelude.{◌≡◌}
use Rattle.rule_outline.specs.declared.names.NameUse.{NameUse}

-- both have one kind and one name
abbrev pub IsUseOf : NameUse → NameUse → Type 0
IsUseOf name found = (found.kind ≡ name.kind) × (found.text.now ≡ name.text.now)
