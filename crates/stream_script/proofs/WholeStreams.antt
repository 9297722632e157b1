-- A stream that ends behind a whole record is the bytes of its records.
use Rattle.std.proofs.Common.{◌≡◌, refl, sym, ◌∙◌, ap, ℕ, zero, suc, ◌+◌, ◌≤◌, List, [], ◌∷◌, ◌++◌, length, take, drop, arith, Result, Ok}
use Rattle.std.proofs.lemmas.List.{take-append-drop}
use Rattle.hex.specs.Hex.{IsBytes}
use Rattle.lc_model.specs.Host.Stream.{Whole, all_kinds, body_size, records_by_front, records_from}
use Rattle.lc_model.specs.Host.Stream as stream
use Rattle.stream_script.specs.declared.front.Front.{Front}
use Rattle.stream_script.specs.declared.front.Front.TheVariants.{End, Record, NoRecord, Cut}
use Rattle.stream_script.specs.Error.{ScriptFault}
use Rattle.stream_script.specs.Front.{Reads, any_text, front_in, record_size}
use Rattle.stream_script.specs.Whole.{SaysTheStream, records_by, records_within}
use Rattle.stream_script.proofs.Again.{says_the_records}
use Rattle.stream_script.proofs.InFront.{reads_so}
use Rattle.stream_script.proofs.Stands.{bytes_behind}
use Rattle.stream_script.proofs.Turns.{at_most_itself, shorter}

-- ---- all records

whole_stays : (most number : ℕ) (bytes : List ℕ) → length bytes ≤ most → IsBytes bytes → (records_from all_kinds any_text most number bytes).1 ≡ Whole → records_within most bytes ≡ bytes
whole_stays zero number [] few are whole = refl
whole_stays zero number (x ∷ xs) few are whole = absurd (omega (arith, few))
whole_stays (suc most) number bytes few are whole =
    by_front (front_in bytes) (reads_so bytes (front_in bytes) are refl)
    (whole_stays most (number + 1) (drop (record_size bytes) bytes) (shorter (body_size bytes) most bytes few) (bytes_behind (record_size bytes) bytes are))
  where
    by_front : (f : Front) → Reads bytes f →
        ((records_from all_kinds any_text most (number + 1) (drop (record_size bytes) bytes)).1 ≡ Whole → records_within most (drop (record_size bytes) bytes) ≡ drop (record_size bytes) bytes) →
        records_by (records_within most) bytes f ≡ bytes
    by_front End none rest = sym none
    by_front NoRecord is rest =
        let never = sym (ap (λ (f : stream.Front). (records_by_front (records_from all_kinds any_text most (number + 1)) number f).1) is) ∙ whole in cc never
    by_front Cut is rest =
        let never = sym (ap (λ (f : stream.Front). (records_by_front (records_from all_kinds any_text most (number + 1)) number f).1) is) ∙ whole in cc never
    by_front (Record kind size) there rest =
        let ends : (records_from all_kinds any_text most (number + 1) (drop (record_size bytes) bytes)).1 ≡ Whole =
        sym (ap (λ (f : stream.Front). (records_by_front (records_from all_kinds any_text most (number + 1)) number f).1) there.there) ∙ whole in
        ap (λ (more : List ℕ). take (record_size bytes) bytes ++ more) (rest ends) ∙ take-append-drop (record_size bytes) bytes

abbrev okay : List ℕ → Result (List ℕ) ScriptFault
okay bytes = Ok bytes

pub says_the_stream : SaysTheStream
says_the_stream bytes are whole = says_the_records bytes are ∙ ap okay (whole_stays (length bytes) 1 bytes (at_most_itself (length bytes)) are whole)
