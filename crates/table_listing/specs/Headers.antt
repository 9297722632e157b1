-- The lines of a file's headers and of its image's preamble. This project's own.
use Rattle.std.specs.Prelude.{ℕ, List, ◌++◌, codes}
use Rattle.std.specs.Fmt.{decimal}
use Rattle.lc_model.specs.Bytes.{u16_at}
use Rattle.lc_model.specs.Tables.Image.{own_count, watchpoint_count, hash_of}
use Rattle.table_listing.specs.declared.headers.PreambleLines.{PreambleLines}
use Rattle.table_listing.specs.Shown.{in_hex, named}
use Rattle.table_listing.specs.Words.{kind_word}

-- file: content type 0x63464531 subtype 8 spacecraft 66 processor 1 application 0 seconds 0 subseconds 0
abbrev pub file_line : ℕ → ℕ → ℕ → ℕ → ℕ → List ℕ
file_line spacecraft processor application seconds subseconds =
    codes "file: content type 0x63464531 subtype 8 spacecraft " ++ (decimal spacecraft ++ (codes " processor " ++ (decimal processor
    ++ (codes " application " ++ (decimal application ++ (codes " seconds " ++ (decimal seconds ++ (codes " subseconds " ++ decimal subseconds))))))))

-- table: "LC.LC_WDT" description "" reserved 0 offset 0 bytes 4264
abbrev pub table_line : List ℕ → List ℕ → ℕ → ℕ → List ℕ
table_line name description reserved size =
    codes "table: \"" ++ (named name ++ (codes "\" description \"" ++ (named description ++ (codes "\" reserved "
    ++ (decimal reserved ++ (codes " offset 0 bytes " ++ decimal size))))))

-- image: kind 1 watchpoints version 1 entries 1 watchpoints 1
-- hash: and the hash in hexadecimal
abbrev pub preamble_text : ℕ → ℕ → ℕ → ℕ → List ℕ → List ℕ
preamble_text kind version entries watchpoints hash =
    codes "image: kind " ++ (decimal kind ++ (codes " " ++ (kind_word kind ++ (codes " version " ++ (decimal version ++ (codes " entries "
    ++ (decimal entries ++ (codes " watchpoints " ++ (decimal watchpoints ++ (codes "\nhash: " ++ in_hex hash))))))))))

-- the lines of the program's value
abbrev pub preamble_lines_of : PreambleLines → List ℕ
preamble_lines_of p = preamble_text p.kind p.version p.entries p.watchpoints p.hash.now

-- the lines of an image
abbrev pub preamble_lines : List ℕ → List ℕ
preamble_lines image = preamble_text (u16_at image 2) (u16_at image 0) (own_count image) (watchpoint_count image) (hash_of image)
