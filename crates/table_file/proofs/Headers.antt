-- The headers that are written, and the file that they make with an image.
use Rattle.std.proofs.Common.{◌≡◌, ℕ, ◌-◌, List, [], ◌++◌, length, replicate, append_assoc}
use Rattle.lc_model.specs.declared.kind.Kind.{Kind}
use Rattle.lc_model.specs.Bytes.{u32}
use Rattle.lc_model.specs.Tables.File.{content_type, subtype, file_header_length, file_bytes, table_name, wrapped}
use Rattle.table_file.specs.Parts.{file_header, table_header}

pub file_header_written : (s₀ s₁ s₂ s₃ s₄ s₅ s₆ : List ℕ) → s₁ ≡ s₀ ++ u32 content_type → s₂ ≡ s₁ ++ u32 subtype → s₃ ≡ s₂ ++ u32 file_header_length →
    s₄ ≡ s₃ ++ u32 66 → s₅ ≡ s₄ ++ u32 1 → s₆ ≡ s₅ ++ replicate 44 0 → s₆ ≡ s₀ ++ file_header
file_header_written s₀ s₁ s₂ s₃ s₄ s₅ s₆ e₁ e₂ e₃ e₄ e₅ e₆ = rw (e₆, e₅, e₄, e₃, e₂, e₁) (simp append_assoc)

pub table_header_written : (kind : Kind) (size : ℕ) (name s₀ s₁ s₂ s₃ s₄ : List ℕ) → name ≡ table_name kind → s₁ ≡ s₀ ++ replicate 8 0 → s₂ ≡ s₁ ++ u32 size →
    s₃ ≡ s₂ ++ name → s₄ ≡ s₃ ++ replicate (40 - length name) 0 → s₄ ≡ s₀ ++ table_header kind size
table_header_written kind size name s₀ s₁ s₂ s₃ s₄ is e₁ e₂ e₃ e₄ = rw (e₄, e₃, e₂, e₁, is) (simp append_assoc)

pub file_written : (kind : Kind) (image s₀ s₁ s₂ s₃ : List ℕ) → s₀ ≡ [] → s₁ ≡ s₀ ++ file_header → s₂ ≡ s₁ ++ table_header kind (length image) →
    s₃ ≡ s₂ ++ image → s₃ ≡ file_bytes (wrapped kind image)
file_written kind image s₀ s₁ s₂ s₃ e₀ e₁ e₂ e₃ = rw (e₃, e₂, e₁, e₀) (simp append_assoc)
