-- Fields that can be read as the low end of four bytes.
use Rattle.std.specs.Prelude.{ℕ, Bool, not, ◌&&◌, nat_le}
use Rattle.lc_model.specs.declared.field.FieldType.{FieldType}
use Rattle.lc_model.specs.Field.{is_little}

-- Whether a field that ends before byte `need` can be read as the low end of four big-endian bytes.
abbrev pub is_by_four : FieldType → ℕ → Bool
is_by_four kind need = not (is_little kind) && nat_le 4 need
