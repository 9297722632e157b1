-- What stands in front of a stream decides its records.
use Rattle.std.proofs.Common.{◌≡◌, refl, ap, subst, ℕ, zero, suc, ◌+◌, ◌<◌, ◌≤◌, Bool, true, false, not, cond, nat_lt, List, [], ◌∷◌, length, take, drop, Option, Some, None, arith, length-drop}
use Rattle.lc_model.specs.Host.Stream.{StreamEntry, End, Contents, Front, EndOfStream, Record, NoRecord, CutRecord, header_size, body_size, fits_body, contents_of, moment_of, record_of, front, records_by_front, records_from}
use Rattle.lc_model.specs.Laws.Stream.{FrontDecides}

-- the rest behind a record is shorter
pub shorter : (kinds : List ℕ) (texts : ℕ) (bytes : List ℕ) (entry : StreamEntry) (rest : List ℕ) →
    front kinds texts bytes ≡ Record entry rest → length rest < length bytes
shorter kinds texts [] entry rest e = absurd (cc e)
shorter kinds texts (kind ∷ bytes) entry rest e =
    by_tests (nat_lt (length stream) header_size) (fits_body kinds kind (body_size stream)) (nat_lt (length stream) (header_size + body_size stream))
    (contents_of texts kind (drop header_size (take (header_size + body_size stream) stream))) e
  where
    stream : List ℕ
    stream = kind ∷ bytes

    behind : length (drop (header_size + body_size stream) stream) < length stream
    behind = omega (arith, length-drop {A = ℕ})

    by_tests : (short fits cut : Bool) (contents : Option Contents) →
        cond short CutRecord (cond (not fits) NoRecord (cond cut CutRecord
        (record_of contents (moment_of stream) (drop (header_size + body_size stream) stream)))) ≡ Record entry rest →
        length rest < length stream
    by_tests true fits cut contents is = absurd (cc is)
    by_tests false false cut contents is = absurd (cc is)
    by_tests false true true contents is = absurd (cc is)
    by_tests false true false None is = absurd (cc is)
    by_tests false true false (Some contents) is =
        let same : drop (header_size + body_size stream) stream ≡ rest = cc is in subst (λ (r : List ℕ). length r < length stream) same behind

-- what goes on alike behind a record is alike
alike : (others those : List ℕ → List StreamEntry × End) (number : ℕ) (f : Front) →
    ((entry : StreamEntry) (rest : List ℕ) → f ≡ Record entry rest → others rest ≡ those rest) →
    records_by_front others number f ≡ records_by_front those number f
alike others those number EndOfStream same = refl
alike others those number NoRecord same = refl
alike others those number CutRecord same = refl
alike others those number (Record entry rest) same = ap (λ (r : List StreamEntry × End). (entry ∷ r.0, r.1)) (same entry rest refl)

-- more room than bytes changes nothing
same_records : (kinds : List ℕ) (texts most more number : ℕ) (bytes : List ℕ) → length bytes ≤ most → length bytes ≤ more →
    records_from kinds texts most number bytes ≡ records_from kinds texts more number bytes
same_records kinds texts zero zero number bytes few enough = refl
same_records kinds texts zero (suc more) number [] few enough = refl
same_records kinds texts zero (suc more) number (b ∷ bytes) few enough = absurd (omega (arith, few))
same_records kinds texts (suc most) zero number [] few enough = refl
same_records kinds texts (suc most) zero number (b ∷ bytes) few enough = absurd (omega (arith, enough))
same_records kinds texts (suc most) (suc more) number bytes few enough =
    alike (records_from kinds texts most (number + 1)) (records_from kinds texts more (number + 1)) number (front kinds texts bytes)
    (λ entry rest is. same_records kinds texts most more (number + 1) rest
    (omega (arith, shorter kinds texts bytes entry rest is, few)) (omega (arith, shorter kinds texts bytes entry rest is, enough)))

pub front_decides : FrontDecides
front_decides kinds texts number [] = refl
front_decides kinds texts number (b ∷ bytes) =
    alike (records_from kinds texts (length bytes) (number + 1)) (λ rest. records_from kinds texts (length rest) (number + 1) rest) number
    (front kinds texts (b ∷ bytes))
    (λ entry rest is. same_records kinds texts (length bytes) (length rest) (number + 1) rest
    (omega (arith, shorter kinds texts (b ∷ bytes) entry rest is)) (omega arith))
