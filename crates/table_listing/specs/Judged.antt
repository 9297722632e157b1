-- As which table an image is judged, and which files are sound. This project's own.
use Rattle.std.specs.Prelude.{ℕ, Bool, true, false, if◌then◌else◌, ◌==◌, ◌&&◌, nat_le, List, length, Option, Some, None, Result, Ok, Err}
use Rattle.lc_model.specs.declared.kind.Kind.{Kind}
use Rattle.lc_model.specs.declared.kind.Kind.TheVariants.{Wdt, Adt}
use Rattle.lc_model.specs.Bytes.{u16_at}
use Rattle.lc_model.specs.Tables.File.{TableFile, opened}
use Rattle.lc_model.specs.Tables.Image.{Layout, ImageFault, preamble_length, layout_of, fault_of}
use Rattle.lc_model.specs.Tables.InForce.{layouts}

-- the table of actionpoints if the image has the length of one, else of watchpoints
abbrev pub kind_by_length : Option Layout → Kind
kind_by_length (Some l) = Adt
kind_by_length None = Wdt

-- the table of the preamble's kind; without a known kind, the length decides
abbrev pub kind_judged : List ℕ → Kind
kind_judged image =
    if nat_le preamble_length (length image) && (u16_at image 2 == 1) then Wdt
    else if nat_le preamble_length (length image) && (u16_at image 2 == 2) then Adt
    else kind_by_length (layout_of layouts Adt image)

-- there is no fault
abbrev pub without_fault : Option ImageFault → Bool
without_fault None = true
without_fault (Some fault) = false

-- the image is sound as the table that it is judged as
abbrev pub is_sound_image : List ℕ → Bool
is_sound_image image = without_fault (fault_of layouts (kind_judged image) image)

-- the file opens and has a sound image
abbrev pub holds_sound_image : Result TableFile ℕ → Bool
holds_sound_image (Ok file) = is_sound_image file.image
holds_sound_image (Err code) = false

-- the file opens, and its image is sound
abbrev pub is_sound_file : List ℕ → Bool
is_sound_file bytes = holds_sound_image (opened bytes)
