-- The fields of the table header behind the description.
use Rattle.std.proofs.Common.{◌≡◌, sym, ◌∙◌, ap, ℕ, ◌<◌, ◌^◌, List, ◌++◌, length, drop, append_assoc}
use Rattle.std.specs.Int.{w32, from_be_bytes}
use Rattle.std.proofs.lemmas.List.{drop-drop, drop_at}
use Rattle.std.proofs.lemmas.Nat.{from_be_bytes-to_be_bytes_4}
use Rattle.lc_model.specs.Bytes.{u32}
use Rattle.lc_model.specs.Tables.File.{TableFile, file_bytes}
use Rattle.table_file.specs.File.{offset_in, number_of_bytes_in}

module _ (f : TableFile) (long : length f.description ≡ 32) where
  after_offset : List ℕ
  after_offset = u32 (length f.image) ++ (f.name_field ++ f.image)

  table_header : drop 64 (file_bytes f) ≡ u32 f.reserved ++ (u32 0 ++ after_offset)
  unfolding after_offset
  table_header =
      let grouped : f.description ++ u32 f.reserved ++ u32 0 ++ u32 (length f.image) ++ f.name_field ++ f.image ≡ f.description ++ (u32 f.reserved ++ (u32 0 ++ after_offset)) =
      simp append_assoc in
      ap (drop 32) grouped ∙ drop_at f.description (u32 f.reserved ++ (u32 0 ++ after_offset)) 32 long

  pub offset_is : offset_in (file_bytes f) ≡ 0
  offset_is =
      let here : drop 68 (file_bytes f) ≡ u32 0 ++ after_offset = sym (drop-drop 4 64 (file_bytes f)) ∙ ap (drop 4) table_header in
      ap (from_be_bytes w32) here

  pub number_is : length f.image < 2 ^ 32 → number_of_bytes_in (file_bytes f) ≡ length f.image
  unfolding after_offset
  number_is few =
      let here : drop 72 (file_bytes f) ≡ after_offset = sym (drop-drop 8 64 (file_bytes f)) ∙ ap (drop 8) table_header in
      ap (from_be_bytes w32) here ∙ from_be_bytes-to_be_bytes_4 (length f.image) few
