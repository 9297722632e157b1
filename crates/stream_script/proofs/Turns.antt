-- The script of a stream by what stands in front, and the steps in which it is written.
use Rattle.std.proofs.Common.{◌≡◌, refl, sym, ◌∙◌, ap, ℕ, zero, suc, ◌+◌, ◌≤◌, List, [], ◌∷◌, ◌++◌, length, drop, arith, length-drop, append_assoc, append-nil}
use Rattle.std.specs.Prelude.{codes}
use Rattle.lc_model.specs.Host.Stream.{moment_of, body_size}
use Rattle.stream_script.specs.declared.kind.RecordKind.{RecordKind}
use Rattle.stream_script.specs.declared.front.Front.{Front}
use Rattle.stream_script.specs.declared.front.Front.TheVariants.{End, Record, NoRecord, Cut}
use Rattle.stream_script.specs.Front.{body_in_front, front_in, record_size}
use Rattle.stream_script.specs.Whole.{record_line, script_by, script_of, script_within}

-- a record takes bytes
pub shorter : (size a : ℕ) (bytes : List ℕ) → length bytes ≤ suc a → length (drop (11 + size) bytes) ≤ a
shorter size a bytes few = omega (arith, length-drop (11 + size) bytes, few)

pub at_most_itself : (n : ℕ) → n ≤ n
at_most_itself n = omega arith

enough : (a b : ℕ) (bytes : List ℕ) → length bytes ≤ a → length bytes ≤ b → script_within a bytes ≡ script_within b bytes
enough zero zero bytes few short = refl
enough zero (suc b) [] few short = refl
enough zero (suc b) (x ∷ xs) few short = absurd (omega (arith, few))
enough (suc a) zero [] few short = refl
enough (suc a) zero (x ∷ xs) few short = absurd (omega (arith, short))
enough (suc a) (suc b) bytes few short =
    by_front (front_in bytes) (enough a b (drop (record_size bytes) bytes) (shorter (body_size bytes) a bytes few) (shorter (body_size bytes) b bytes short))
  where
    by_front : (f : Front) → script_within a (drop (record_size bytes) bytes) ≡ script_within b (drop (record_size bytes) bytes) →
        script_by (script_within a) bytes f ≡ script_by (script_within b) bytes f
    by_front End rest = refl
    by_front NoRecord rest = refl
    by_front Cut rest = refl
    by_front (Record kind size) rest = ap (λ (more : List ℕ). record_line (moment_of bytes) kind (body_in_front bytes) ++ codes "\n" ++ more) rest

pub turns : (bytes : List ℕ) → script_of bytes ≡ script_by script_of bytes (front_in bytes)
turns [] = refl
turns (x ∷ xs) =
    by_front (front_in (x ∷ xs))
    (enough (length xs) (length (drop (record_size (x ∷ xs)) (x ∷ xs))) (drop (record_size (x ∷ xs)) (x ∷ xs))
    (shorter (body_size (x ∷ xs)) (length xs) (x ∷ xs) (at_most_itself (length (x ∷ xs)))) (at_most_itself (length (drop (record_size (x ∷ xs)) (x ∷ xs)))))
  where
    by_front : (f : Front) → script_within (length xs) (drop (record_size (x ∷ xs)) (x ∷ xs)) ≡ script_of (drop (record_size (x ∷ xs)) (x ∷ xs)) →
        script_by (script_within (length xs)) (x ∷ xs) f ≡ script_by script_of (x ∷ xs) f
    by_front End rest = refl
    by_front NoRecord rest = refl
    by_front Cut rest = refl
    by_front (Record kind size) rest = ap (λ (more : List ℕ). record_line (moment_of (x ∷ xs)) kind (body_in_front (x ∷ xs)) ++ codes "\n" ++ more) rest

-- ---- written line by line

-- one record more is written
pub one_record : (text left rest after : List ℕ) (kind : RecordKind) (size : ℕ) → front_in left ≡ Record kind size → size ≡ record_size left → rest ≡ drop size left →
    after ≡ text ++ record_line (moment_of left) kind (body_in_front left) ++ codes "\n" → after ++ script_of rest ≡ text ++ script_of left
one_record text left rest after kind size stands same behind written =
    let line : List ℕ = record_line (moment_of left) kind (body_in_front left) in
    let more : List ℕ = script_of (drop (record_size left) left) in
    let there : script_of left ≡ (line ++ codes "\n") ++ more = turns left ∙ ap (script_by script_of left) stands in
    let here : script_of rest ≡ more = ap script_of (behind ∙ ap (λ (n : ℕ). drop n left) same) in
    let one : after ++ script_of rest ≡ ((text ++ line) ++ codes "\n") ++ more = λ i. written i ++ here i in
    let two : ((text ++ line) ++ codes "\n") ++ more ≡ (text ++ line) ++ (codes "\n" ++ more) = append_assoc (text ++ line) (codes "\n") more in
    let three : (text ++ line) ++ (codes "\n" ++ more) ≡ text ++ (line ++ (codes "\n" ++ more)) = append_assoc text line (codes "\n" ++ more) in
    let four : (line ++ codes "\n") ++ more ≡ line ++ (codes "\n" ++ more) = append_assoc line (codes "\n") more in
    one ∙ (two ∙ (three ∙ (ap (λ (xs : List ℕ). text ++ xs) (sym four) ∙ ap (λ (xs : List ℕ). text ++ xs) (sym there))))

-- what is left is no record, and this line says so
pub last_line : (text left after line : List ℕ) (f : Front) → front_in left ≡ f → script_by script_of left f ≡ line → after ≡ text ++ line → after ++ [] ≡ text ++ script_of left
last_line text left after line f stands is written =
    let there : script_of left ≡ line = turns left ∙ (ap (script_by script_of left) stands ∙ is) in
    append-nil after ∙ (written ∙ ap (λ (xs : List ℕ). text ++ xs) (sym there))

-- nothing is left
pub no_line : (text left : List ℕ) → front_in left ≡ End → text ++ [] ≡ text ++ script_of left
no_line text left stands =
    let there : script_of left ≡ [] = turns left ∙ ap (script_by script_of left) stands in
    ap (λ (xs : List ℕ). text ++ xs) (sym there)
