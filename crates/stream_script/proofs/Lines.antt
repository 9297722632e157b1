-- The listing of a stream by what stands in front, and the steps in which it is written.
use Rattle.std.proofs.Common.{◌≡◌, refl, sym, ◌∙◌, ap, ℕ, zero, suc, ◌+◌, ◌≤◌, List, [], ◌∷◌, ◌++◌, length, drop, arith, append_assoc, append-nil, Bool, if◌then◌else◌}
use Rattle.std.specs.Prelude.{codes, decimal}
use Rattle.lc_model.specs.declared.record.Moment.{Moment}
use Rattle.lc_model.specs.Packet.{message_id}
use Rattle.lc_model.proofs.Facts.{test_not_less}
use Rattle.lc_model.specs.Host.Stream.{body_size, moment_of}
use Rattle.stream_script.specs.declared.kind.RecordKind.{RecordKind}
use Rattle.stream_script.specs.declared.front.Front.{Front}
use Rattle.stream_script.specs.declared.front.Front.TheVariants.{End, Record, NoRecord, Cut}
use Rattle.stream_script.specs.Front.{body_in_front, front_in, record_size}
use Rattle.stream_script.specs.Listing.{any_order_shown, head_shown, header_shown, lines_by, lines_from, lines_within, packet_shown, record_shown, size_shown}
use Rattle.stream_script.specs.Kind.{kind_word}
use Rattle.stream_script.proofs.Turns.{at_most_itself, shorter}

enough : (a b number : ℕ) (bytes : List ℕ) → length bytes ≤ a → length bytes ≤ b → lines_within a number bytes ≡ lines_within b number bytes
enough zero zero number bytes few short = refl
enough zero (suc b) number [] few short = refl
enough zero (suc b) number (x ∷ xs) few short = absurd (omega (arith, few))
enough (suc a) zero number [] few short = refl
enough (suc a) zero number (x ∷ xs) few short = absurd (omega (arith, short))
enough (suc a) (suc b) number bytes few short =
    by_front (front_in bytes) (enough a b (number + 1) (drop (record_size bytes) bytes) (shorter (body_size bytes) a bytes few) (shorter (body_size bytes) b bytes short))
  where
    by_front : (f : Front) → lines_within a (number + 1) (drop (record_size bytes) bytes) ≡ lines_within b (number + 1) (drop (record_size bytes) bytes) →
        lines_by (lines_within a) number bytes f ≡ lines_by (lines_within b) number bytes f
    by_front End rest = refl
    by_front NoRecord rest = refl
    by_front Cut rest = refl
    by_front (Record kind size) rest = ap (λ (more : List ℕ). record_shown number (moment_of bytes) kind (body_in_front bytes) ++ more) rest

turns : (number : ℕ) (bytes : List ℕ) → lines_from number bytes ≡ lines_by lines_from number bytes (front_in bytes)
turns number [] = refl
turns number (x ∷ xs) =
    by_front (front_in (x ∷ xs))
    (enough (length xs) (length (drop (record_size (x ∷ xs)) (x ∷ xs))) (number + 1) (drop (record_size (x ∷ xs)) (x ∷ xs))
    (shorter (body_size (x ∷ xs)) (length xs) (x ∷ xs) (at_most_itself (length (x ∷ xs)))) (at_most_itself (length (drop (record_size (x ∷ xs)) (x ∷ xs)))))
  where
    by_front : (f : Front) → lines_within (length xs) (number + 1) (drop (record_size (x ∷ xs)) (x ∷ xs)) ≡ lines_from (number + 1) (drop (record_size (x ∷ xs)) (x ∷ xs)) →
        lines_by (lines_within (length xs)) number (x ∷ xs) f ≡ lines_by lines_from number (x ∷ xs) f
    by_front End rest = refl
    by_front NoRecord rest = refl
    by_front Cut rest = refl
    by_front (Record kind size) rest = ap (λ (more : List ℕ). record_shown number (moment_of (x ∷ xs)) kind (body_in_front (x ∷ xs)) ++ more) rest

-- one record more is shown
pub one_record : (number : ℕ) (text left rest after : List ℕ) (kind : RecordKind) (size : ℕ) → front_in left ≡ Record kind size → size ≡ record_size left → rest ≡ drop size left →
    after ≡ text ++ record_shown number (moment_of left) kind (body_in_front left) → after ++ lines_from (number + 1) rest ≡ text ++ lines_from number left
one_record number text left rest after kind size stands same behind written =
    let line : List ℕ = record_shown number (moment_of left) kind (body_in_front left) in
    let more : List ℕ = lines_from (number + 1) (drop (record_size left) left) in
    let there : lines_from number left ≡ line ++ more = turns number left ∙ ap (lines_by lines_from number left) stands in
    let here : lines_from (number + 1) rest ≡ more = ap (lines_from (number + 1)) (behind ∙ ap (λ (n : ℕ). drop n left) same) in
    let one : after ++ lines_from (number + 1) rest ≡ (text ++ line) ++ more = λ i. written i ++ here i in
    one ∙ (append_assoc text line more ∙ ap (λ (xs : List ℕ). text ++ xs) (sym there))

-- what is left is no record, and this line says so
pub last_line : (number : ℕ) (text left after line : List ℕ) (f : Front) → front_in left ≡ f → lines_by lines_from number left f ≡ line → after ≡ text ++ line → after ++ [] ≡ text ++ lines_from number left
last_line number text left after line f stands is written =
    let there : lines_from number left ≡ line = turns number left ∙ (ap (lines_by lines_from number left) stands ∙ is) in
    append-nil after ∙ (written ∙ ap (λ (xs : List ℕ). text ++ xs) (sym there))

-- nothing is left
pub no_line : (number : ℕ) (text left : List ℕ) → front_in left ≡ End → text ++ [] ≡ text ++ lines_from number left
no_line number text left stands =
    let there : lines_from number left ≡ [] = turns number left ∙ ap (lines_by lines_from number left) stands in
    ap (λ (xs : List ℕ). text ++ xs) (sym there)

-- a packet with a whole header, part by part
pub three_parts : (packet text one two : List ℕ) (mid : ℕ) → 8 ≤ length packet → mid ≡ message_id packet → one ≡ text ++ header_shown packet → two ≡ one ++ any_order_shown mid packet →
    two ++ size_shown (length packet) ≡ text ++ packet_shown packet
three_parts packet text one two mid long is first second =
    let header : List ℕ = header_shown packet in
    let order : List ℕ = any_order_shown (message_id packet) packet in
    let size : List ℕ = size_shown (length packet) in
    let there : two ≡ (text ++ header) ++ order = second ∙ (λ i. first i ++ any_order_shown (is i) packet) in
    let joined : two ++ size ≡ ((text ++ header) ++ order) ++ size = λ i. there i ++ size in
    let left : ((text ++ header) ++ order) ++ size ≡ (text ++ header) ++ (order ++ size) = append_assoc (text ++ header) order size in
    let right : (text ++ header) ++ (order ++ size) ≡ text ++ (header ++ (order ++ size)) = append_assoc text header (order ++ size) in
    let inner : header ++ (order ++ size) ≡ (header ++ order) ++ size = sym (append_assoc header order size) in
    joined ∙ (left ∙ (right ∙ (ap (λ (xs : List ℕ). text ++ xs) inner
    ∙ ap (λ (short : Bool). text ++ (if short then size_shown (length packet) else (header ++ order) ++ size)) (sym (test_not_less (length packet) 8 long)))))

-- ---- a line, part by part

pub joined : (text a b c one two : List ℕ) → one ≡ text ++ a → two ≡ one ++ b → two ++ c ≡ text ++ (a ++ b ++ c)
joined text a b c one two first second =
    let there : two ≡ (text ++ a) ++ b = second ∙ (λ i. first i ++ b) in
    let left : ((text ++ a) ++ b) ++ c ≡ (text ++ a) ++ (b ++ c) = append_assoc (text ++ a) b c in
    let right : (text ++ a) ++ (b ++ c) ≡ text ++ (a ++ (b ++ c)) = append_assoc text a (b ++ c) in
    let inner : a ++ (b ++ c) ≡ (a ++ b) ++ c = sym (append_assoc a b c) in
    (λ i. there i ++ c) ∙ (left ∙ (right ∙ ap (λ (xs : List ℕ). text ++ xs) inner))

regrouped : (text n s f k gap : List ℕ) → (((((text ++ n) ++ gap) ++ s) ++ gap) ++ f) ++ gap ++ k ≡ text ++ (n ++ gap ++ s ++ gap ++ f ++ gap ++ k)
regrouped text n s f k gap = simp append_assoc

pub head_is_shown : (number seconds subseconds : ℕ) (moment : Moment) (kind : RecordKind) (word text one two three : List ℕ) → seconds ≡ moment.seconds → subseconds ≡ moment.subseconds →
    word ≡ kind_word kind → one ≡ text ++ decimal number ++ codes " " → two ≡ one ++ decimal seconds ++ codes " " → three ≡ two ++ decimal subseconds ++ codes " " →
    three ++ word ≡ text ++ head_shown number moment kind
head_is_shown number seconds subseconds moment kind word text one two three early late is first second third =
    let two_is : two ≡ (((text ++ decimal number) ++ codes " ") ++ decimal moment.seconds) ++ codes " " = second ∙ (λ i. first i ++ decimal (early i) ++ codes " ") in
    let three_is : three ≡ (((((text ++ decimal number) ++ codes " ") ++ decimal moment.seconds) ++ codes " ") ++ decimal moment.subseconds) ++ codes " " =
    third ∙ (λ i. two_is i ++ decimal (late i) ++ codes " ") in
    (λ i. three_is i ++ is i) ∙ regrouped text (decimal number) (decimal moment.seconds) (decimal moment.subseconds) (kind_word kind) (codes " ")
