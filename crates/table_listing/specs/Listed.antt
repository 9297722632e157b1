-- The listing of a sound table file: its headers, its preamble, and each used entry. This project's own.
use Rattle.std.specs.Prelude.{◌≡◌, ℕ, suc, List, [], ◌++◌, length, codes, nat_le, if◌then◌else◌, Option, Result, Ok, Err}
use Rattle.std.specs.Io.KnownBytes.{Appends}
use Rattle.lc_model.specs.declared.kind.Kind.{Kind}
use Rattle.lc_model.specs.declared.kind.Kind.TheVariants.{Wdt, Adt}
use Rattle.lc_model.specs.Name.{name_in}
use Rattle.lc_model.specs.Tables.File.{TableFile, opened}
use Rattle.lc_model.specs.Tables.Image.{Watchpoints, preamble_length, own_count, entry_at, all_words, words_before_equal}
use Rattle.lc_model.specs.Tables.Spelled.{read_entry, spelled_term}
use Rattle.table_validator.specs.Sound.{adt_layout}
use Rattle.table_listing.specs.Formula.{Formula, IsTreeOf}
use Rattle.table_listing.specs.Headers.{file_line, table_line, preamble_lines}
use Rattle.table_listing.specs.Judged.{kind_judged}
use Rattle.table_listing.specs.Lines.{watchpoint_line, actionpoint_line}

-- a text with this property is written
pub record Adds (IsText : List ℕ → Type 0) (before now : Option (List ℕ)) : Type 0 where
  pub text : List ℕ
  pub is : IsText text
  pub appends : Appends before now text

-- a line with its end
abbrev pub ended : List ℕ → List ℕ
ended line = line ++ codes "\n"

-- ---- entries

-- the line of an actionpoint's entry: its fields, and the one condition that its words spell
pub record IsActionpointListed (entry : List ℕ) (n : ℕ) (text : List ℕ) : Type 0 where
  pub condition : Formula
  pub tree : IsTreeOf (words_before_equal (all_words entry)) condition
  pub line : text ≡ ended (actionpoint_line n (read_entry entry) condition)

-- the line of an entry of an image
abbrev pub IsEntryListed : Kind → List ℕ → ℕ → List ℕ → Type 0
IsEntryListed Wdt image n text = text ≡ ended (watchpoint_line n (spelled_term (entry_at Watchpoints image n)))
IsEntryListed Adt image n text = IsActionpointListed (entry_at (adt_layout image) image n) n text

-- the lines of the first entries, in order
pub data AreListed (IsLine : ℕ → List ℕ → Type 0) : ℕ → List ℕ → Type 0 where
  nothing : AreListed IsLine 0 []
  more : {n : ℕ} {lines line : List ℕ} → AreListed IsLine n lines → IsLine n line → AreListed IsLine (suc n) (lines ++ line)

-- the lines of the used entries of an image
abbrev pub AreEntriesListed : Kind → List ℕ → List ℕ → Type 0
AreEntriesListed kind image lines = AreListed (IsEntryListed kind image) (own_count image) lines

-- ---- files

-- the lines of the preamble, if the image is long enough to have one
abbrev pub preamble_shown : List ℕ → List ℕ
preamble_shown image = if nat_le preamble_length (length image) then ended (preamble_lines image) else []

-- the listing of a sound image
pub record IsImageListed (image text : List ℕ) : Type 0 where
  pub entries : List ℕ
  pub listed : AreEntriesListed (kind_judged image) image entries
  pub is : text ≡ preamble_shown image ++ entries

-- the lines of the two headers
abbrev pub headers_shown : TableFile → List ℕ
headers_shown f =
    ended (file_line f.spacecraft f.processor f.application f.seconds f.subseconds)
    ++ ended (table_line (name_in f.name_field) (name_in f.description) f.reserved (length f.image))

-- the listing of a sound file that opens
pub record IsOpenedListed (f : TableFile) (text : List ℕ) : Type 0 where
  pub image : List ℕ
  pub listed : IsImageListed f.image image
  pub is : text ≡ headers_shown f ++ image

-- the listing of a sound file
abbrev pub IsFileListed : Result TableFile ℕ → List ℕ → Type 0
IsFileListed (Ok f) text = IsOpenedListed f text
IsFileListed (Err code) text = ⊥
