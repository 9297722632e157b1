-- The store of files, from the program's fields.
use Rattle.std.specs.Prelude.{◌≡◌, ℕ, ◌+◌, List, length}
use Rattle.lc_model.specs.Name.{Name}

-- A stored file with its name.
abbrev pub NamedFile : Type 0
NamedFile = Name × List ℕ

-- The most stored files.
abbrev pub most_files : ℕ
most_files = 8

-- There are eight file buffers, in use or spare, and both lists have the room for eight that they were made with.
pub record IsStore (list : List NamedFile) (spare : List (List ℕ)) (list_room spare_room : ℕ) : Type 0 where
  pub buffers : length list + length spare ≡ most_files
  pub files_fit : list_room ≡ most_files
  pub spare_fits : spare_room ≡ most_files
