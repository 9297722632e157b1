-- The layouts of tables of actionpoints.
use Rattle.std.proofs.Common.{◌≡◌, refl}
use Rattle.lc_model.specs.declared.kind.Kind.TheVariants.{Adt}
use Rattle.lc_model.specs.Tables.Image.{kind_of}
use Rattle.table_file.specs.declared.image.AdtVersion.{AdtVersion}
use Rattle.table_file.specs.declared.image.AdtVersion.TheVariants.{One, Two}
use Rattle.table_file.specs.Layout.{layout_of_version}

-- each is one of actionpoints
pub of_actionpoints : (version : AdtVersion) → kind_of (layout_of_version version) ≡ Adt
of_actionpoints One = refl
of_actionpoints Two = refl
