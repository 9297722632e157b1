-- The fields of a table file's headers that have one valid value, at their places. From the cFE user's guide, table services.
use Rattle.std.specs.Prelude.{◌≡◌, ℕ, ◌<◌, ◌^◌, List, length}
use Rattle.lc_model.specs.Bytes.{u32_at}

-- The content type.
abbrev pub content_type_in : List ℕ → ℕ
content_type_in bytes = u32_at bytes 0

-- The subtype.
abbrev pub subtype_in : List ℕ → ℕ
subtype_in bytes = u32_at bytes 4

-- The length of the cFE file header.
abbrev pub header_length_in : List ℕ → ℕ
header_length_in bytes = u32_at bytes 8

-- The offset of a partial load.
abbrev pub offset_in : List ℕ → ℕ
offset_in bytes = u32_at bytes 68

-- The number of bytes of the image.
abbrev pub number_of_bytes_in : List ℕ → ℕ
number_of_bytes_in bytes = u32_at bytes 72

-- The description has 32 bytes, and the image fewer than 2 ^ 32.
pub record HasWholeHeaders (description image : List ℕ) : Type 0 where
  pub description_size : length description ≡ 32
  pub image_size : length image < 2 ^ 32
