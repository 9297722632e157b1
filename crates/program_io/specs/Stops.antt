-- Where calls on files stop. This project's own.
use Rattle.std.specs.Prelude.{◌≡◌, ℕ, ◌<◌, true, false, List, [], ◌∷◌, ◌++◌, length, map, Option, Some, None, ⊤}
use Rattle.program_io.specs.declared.error.FileError.{FileError}
use Rattle.program_io.specs.declared.error.FileError.TheVariants.{Memory, Unusable}
use Rattle.program_io.specs.FileCall.{FileCall, Reads, Opens, Compares, Makes, Closes, Leaves, Writes, asked, followed_by}

-- the longest rule text, and the longest schedule, in bytes
abbrev pub longest_text : ℕ
longest_text = 65_536

-- a call failed on the file of this name: it can't be used, or is one that is used already, or is longer than any text
abbrev pub HasFailedAt : List ℕ → FileCall → Type 0
HasFailedAt at (Reads name None) = name ≡ at
HasFailedAt at (Reads name (Some bytes)) = (name ≡ at) × (longest_text < length bytes)
HasFailedAt at (Opens name None) = name ≡ at
HasFailedAt at (Opens name (Some source)) = ⊥
HasFailedAt at (Compares first second is_one) = (first ≡ at) × (is_one ≡ true)
HasFailedAt at (Makes name None) = name ≡ at
HasFailedAt at (Makes name (Some sink)) = ⊥
HasFailedAt at (Closes sink is_done) = ⊥
HasFailedAt at (Leaves sink) = ⊥
HasFailedAt at (Writes name bytes is_done) = (name ≡ at) × (is_done ≡ false)

-- the last call is one of these
pub record EndsWith (P : FileCall → Type 0) (calls : List FileCall) : Type 0 where
  pub done : List FileCall
  pub last : FileCall
  pub is : calls ≡ done ++ last ∷ []
  pub so : P last

-- the error is that of the last call, or there was no memory
abbrev pub IsErrorOf : List FileCall → FileError → Type 0
IsErrorOf calls Memory = ⊤
IsErrorOf calls (Unusable name why) = EndsWith (HasFailedAt name.now) calls

-- an error of the file of this name, or want of memory
abbrev pub IsOfFile : List ℕ → FileError → Type 0
IsOfFile name Memory = ⊤
IsOfFile name (Unusable other why) = other.now ≡ name

-- of the calls in this order the first were made, and they are at fault so
pub record StopsIn (F : Type 0) (IsFaultOf : List FileCall → F → Type 0) (order : List FileCall) (before now : Option (List FileCall)) (fault : F) : Type 0 where
  pub calls : List FileCall
  pub rest : List FileCall
  pub made : now ≡ followed_by before calls
  pub in_order : order ≡ map asked calls ++ rest
  pub fault_is : IsFaultOf calls fault
