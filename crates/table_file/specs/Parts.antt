-- The parts in which entries and headers are written. This project's own layouts.
use Rattle.std.specs.Prelude.{ℕ, List, ◌∷◌, ◌++◌, replicate}
use Rattle.lc_model.specs.declared.kind.Kind.{Kind}
use Rattle.lc_model.specs.Bytes.{u16, u32, zero_filled}
use Rattle.lc_model.specs.Codes.{state_code, event_code}
use Rattle.lc_model.specs.Tables.Image.{TableEntry}
use Rattle.lc_model.specs.Tables.File.{content_type, subtype, file_header_length, table_name}

-- The numbers of an ADT entry, which stand before its text.
abbrev pub entry_numbers : TableEntry → List ℕ
entry_numbers e =
    state_code e.mode ∷ e.report.passive ∷ u16 e.report.pass_to_fail ++ u16 e.report.fail_to_pass
    ++ u16 e.sequence ++ u16 e.fails ++ u16 (event_code e.event_kind) ++ u16 e.event_id

-- The cFE file header, as it is written.
abbrev pub file_header : List ℕ
file_header =
    u32 content_type ++ u32 subtype ++ u32 file_header_length ++ u32 66 ++ u32 1 ++ u32 0 ++ u32 0 ++ u32 0 ++ replicate 32 0

-- The table header for an image of `size` bytes, as it is written.
abbrev pub table_header : Kind → ℕ → List ℕ
table_header kind size = u32 0 ++ u32 0 ++ u32 size ++ zero_filled 40 (table_name kind)
