-- What a file's headers lead to, by the tests that they pass; and what an opened file holds.
use Rattle.std.proofs.Common.{◌≡◌, ◌≢◌, sym, ◌∙◌, subst, ℕ, ◌+◌, ◌-◌, ◌≤◌, ◌<◌, ◌^◌, Bool, true, false, nat_lt, ◌==◌, List, [], ◌∷◌, suc, length, get_or, drop, Result, Ok, Err, arith, length-drop}
use Rattle.std.specs.Prelude.{IfOk}
use Rattle.std.proofs.lemmas.List.{get_or-drop, length-take, take_all}
use Rattle.std.specs.List.{AllByRecursion, slice_range}
use Rattle.lc_model.specs.Bytes.{u32_at}
use Rattle.lc_model.specs.Tables.File.{TableFile, content_type, subtype, file_header_length, headers_length, file_bytes, fields_of, opened}
use Rattle.lc_model.specs.Laws.Tables.{IsTableFile, OneSpelling}
use Rattle.lc_model.proofs.Facts.{tested_equal, tested_not_less}
use Rattle.lc_model.proofs.Tables.FileLaws.{passes, answer, Passes}
use Rattle.table_file.specs.declared.error.FileError.{FileError}
use Rattle.table_file.specs.declared.error.FileError.TheVariants.{ShortFile, NotCfe, WrongSubtype, HeaderLength, PartialLoad, SizeMismatch, Memory}
use Rattle.table_file.specs.Error.{Answers}

-- the number that was read is the one that is asked for, or it isn't
pub is_read : (number there asked : ℕ) → number ≡ there → number ≡ asked → (there == asked) ≡ true
is_read number there asked read tested_equal = grind (arith, read, tested_equal)

pub is_not_read : (number there asked : ℕ) → number ≡ there → number ≢ asked → (there == asked) ≡ false
is_not_read number there asked read other = grind (arith, read, other)

pub by_tests : (bytes : List ℕ) {short content table header whole size : Bool} → nat_lt (length bytes) headers_length ≡ short →
    (u32_at bytes 0 == content_type) ≡ content → (u32_at bytes 4 == subtype) ≡ table → (u32_at bytes 8 == file_header_length) ≡ header →
    (u32_at bytes 68 == 0) ≡ whole → (u32_at bytes 72 == length bytes - headers_length) ≡ size →
    opened bytes ≡ answer short content table header whole size (fields_of bytes)
by_tests bytes a b c d e f = λ i. answer (a i) (b i) (c i) (d i) (e i) (f i) (fields_of bytes)

-- ---- what was opened

abbrev IsBytes : List ℕ → Type 0
IsBytes bytes = (i : ℕ) → get_or bytes i 0 < 256

four_fit : (bytes : List ℕ) (n : ℕ) → IsBytes bytes → u32_at bytes n < 2 ^ 32
four_fit bytes n fits =
    let byte : (i : ℕ) → get_or (drop n bytes) i 0 < 256 = λ i. rw get_or-drop (fits (n + i)) in
    omega (arith, byte 0, byte 1, byte 2, byte 3)

fields_fit : (bytes : List ℕ) → IsBytes bytes → 116 ≤ length bytes → u32_at bytes 72 ≡ length bytes - 116 → IsTableFile (fields_of bytes)
fields_fit bytes fits long size = record {
  spacecraft = four_fit bytes 12 fits;
  processor = four_fit bytes 16 fits;
  application = four_fit bytes 20 fits;
  seconds = four_fit bytes 24 fits;
  subseconds = four_fit bytes 28 fits;
  reserved = four_fit bytes 64 fits;
  description = omega (arith, length-take 32 (drop 32 bytes), length-drop 32 bytes);
  name_field = omega (arith, length-take 40 (drop 76 bytes), length-drop 76 bytes);
  image = omega (arith, four_fit bytes 72 fits, length-drop 116 bytes);
}

opened_fits : (bytes : List ℕ) (f : TableFile) → IsBytes bytes → opened bytes ≡ Ok f → IsTableFile f
opened_fits bytes f fits e =
    let p : Passes _ _ _ _ _ _ (fields_of bytes) f =
    passes (nat_lt (length bytes) headers_length) (u32_at bytes 0 == content_type) (u32_at bytes 4 == subtype) (u32_at bytes 8 == file_header_length)
    (u32_at bytes 68 == 0) (u32_at bytes 72 == length bytes - headers_length) (fields_of bytes) f e in
    subst IsTableFile p.is_found (fields_fit bytes fits (tested_not_less _ _ p.is_long) (tested_equal _ _ p.has_size))

each_byte : (bytes : List ℕ) → IsBytes bytes → AllByRecursion (λ b. b < 256) bytes
each_byte [] fits = tt
each_byte (b ∷ bytes) fits = (fits 0, each_byte bytes (λ i. fits (suc i)))

-- a slice up to the end
pub rest_is : (bytes : List ℕ) (n : ℕ) → slice_range bytes n (length bytes) ≡ drop n bytes
rest_is bytes n = take_all (length bytes - n) (drop n bytes) (omega (arith, length-drop n bytes))

-- ---- answers

-- what was opened was spelled so
pub spelled : (bytes : List ℕ) (answer : Result TableFile FileError) → OneSpelling → IsBytes bytes → Answers answer (opened bytes) →
    IfOk answer (λ f. IsTableFile f × (bytes ≡ file_bytes f))
spelled bytes (Ok f) one fits e =
    (opened_fits bytes f fits e, one.opened_was_spelled bytes f (each_byte bytes fits) e)
spelled bytes (Err error) one fits e = tt

-- an answer whose meaning is known
pub answers_ok : {X : Type 0} (answer : Result X FileError) (meant : Result X ℕ) (x : X) → Answers answer meant → meant ≡ Ok x → answer ≡ Ok x
answers_ok (Ok y) meant x e m = let equal : Ok y ≡ Ok x = sym e ∙ m in cc equal
answers_ok (Err ShortFile) meant x e m = absurd (cc (e, m))
answers_ok (Err NotCfe) meant x e m = absurd (cc (e, m))
answers_ok (Err WrongSubtype) meant x e m = absurd (cc (e, m))
answers_ok (Err HeaderLength) meant x e m = absurd (cc (e, m))
answers_ok (Err PartialLoad) meant x e m = absurd (cc (e, m))
answers_ok (Err SizeMismatch) meant x e m = absurd (cc (e, m))
answers_ok (Err Memory) meant x e m = absurd e
