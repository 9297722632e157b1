-- What is found of two runs, record by record.
use Rattle.std.proofs.Common.{◌≡◌, refl, sym, ◌∙◌, ap, subst, ℕ, ◌+◌, Bool, List, [], ◌∷◌, ◌++◌, length, length-append, map, option_map, Option, Some, None, arith}
use Rattle.std.specs.List.{cons_option, filter_map}
use Rattle.std.proofs.lemmas.List.{append-nil, map-append}
use Rattle.std.proofs.lemmas.List.Elements.{filter_map-append}
use Rattle.run_comparison.specs.Asked.{HasAsked}
use Rattle.run_comparison.specs.Comparing.{AreFound, HasFound, with_met}
use Rattle.run_comparison.specs.Met.{Both, Shown, both_from, kept, kept_of, shown_by, shown_of}
use Rattle.run_comparison.specs.declared.asked.Asked.{Asked}
use Rattle.run_comparison.specs.declared.comparing.Found.{Found}
use Rattle.run_comparison.specs.declared.met.MetRecord.{MetRecord}

-- the next record
abbrev next_of : ℕ → (old new : List ℕ) → Both
next_of number old new = record { number = number; old = old; new = new }

both_more : (number : ℕ) (olds news : List (List ℕ)) (old new : List ℕ) → length news ≡ length olds →
    both_from number (olds ++ old ∷ []) (news ++ new ∷ []) ≡ both_from number olds news ++ next_of (length olds + number) old new ∷ []
both_more number [] [] old new even =
    let same : number ≡ 0 + number = omega arith in
    ap (λ n. next_of n old new ∷ []) same
both_more number [] (w ∷ news) old new even = absurd (omega (arith, even))
both_more number (o ∷ olds) [] old new even = absurd (omega (arith, even))
both_more number (o ∷ olds) (w ∷ news) old new even =
    let rest : both_from (number + 1) (olds ++ old ∷ []) (news ++ new ∷ []) ≡ both_from (number + 1) olds news ++ next_of (length olds + (number + 1)) old new ∷ [] =
    both_more (number + 1) olds news old new (omega (arith, even)) in
    let same : length olds + (number + 1) ≡ length (o ∷ olds) + number = omega arith in
    ap (λ more. next_of number o w ∷ more) (rest ∙ ap (λ n. both_from (number + 1) olds news ++ next_of n old new ∷ []) same)

abbrev kept_one : Bool → Both → Option Shown
kept_one keeps_all both = kept keeps_all (shown_by both)

kept_more : (keeps_all : Bool) (olds news : List (List ℕ)) (old new : List ℕ) → length news ≡ length olds →
    kept_of keeps_all (olds ++ old ∷ []) (news ++ new ∷ []) ≡ kept_of keeps_all olds news ++ filter_map (kept_one keeps_all) (next_of (length olds + 1) old new ∷ [])
kept_more keeps_all olds news old new even =
    ap (filter_map (kept_one keeps_all)) (both_more 1 olds news old new even)
    ∙ filter_map-append (kept_one keeps_all) (both_from 1 olds news) (next_of (length olds + 1) old new ∷ [])

records_more : (keeps_all : Bool) (records : List MetRecord) (olds news : List (List ℕ)) (old new : List ℕ) (number : ℕ) (met : Option MetRecord) → length news ≡ length olds → number ≡ length olds + 1 →
    map shown_of records ≡ kept_of keeps_all olds news → option_map shown_of met ≡ kept_one keeps_all (next_of number old new) →
    map shown_of (with_met records met) ≡ kept_of keeps_all (olds ++ old ∷ []) (news ++ new ∷ [])
records_more keeps_all records olds news old new number None even is so one =
    sym (append-nil (map shown_of records))
    ∙ (λ i. so i ++ cons_option (one i) [])
    ∙ ap (λ n. kept_of keeps_all olds news ++ filter_map (kept_one keeps_all) (next_of n old new ∷ [])) is
    ∙ sym (kept_more keeps_all olds news old new even)
records_more keeps_all records olds news old new number (Some met) even is so one =
    map-append shown_of records (met ∷ [])
    ∙ (λ i. so i ++ cons_option (one i) [])
    ∙ ap (λ n. kept_of keeps_all olds news ++ filter_map (kept_one keeps_all) (next_of n old new ∷ [])) is
    ∙ sym (kept_more keeps_all olds news old new even)

-- one record more
pub found_more : (before after : Found) (olds news : List (List ℕ)) (old new : List ℕ) (number : ℕ) (met : Option MetRecord) → HasFound before olds news → number ≡ before.number + 1 →
    option_map shown_of met ≡ kept_one before.keeps_all (next_of number old new) → after.records.items ≡ with_met before.records.items met → after.keeps_all ≡ before.keeps_all → after.number ≡ number →
    (length news ≡ length olds → HasAsked before.asked olds news → HasAsked after.asked (olds ++ old ∷ []) (news ++ new ∷ [])) → HasFound after (olds ++ old ∷ []) (news ++ new ∷ [])
found_more before after olds news old new number met has is one records keeps counted asked =
    let next : number ≡ length olds + 1 = is ∙ ap (λ n. n + 1) has.number in
    record {
      are = record {
        kept = ap (map shown_of) records ∙ records_more before.keeps_all before.records.items olds news old new number met has.even next has.are.kept one
            ∙ ap (λ keeps_all. kept_of keeps_all (olds ++ old ∷ []) (news ++ new ∷ [])) (sym keeps);
        requested = asked has.even has.are.requested;
      };
      even = omega (arith, has.even, length-append olds (old ∷ []), length-append news (new ∷ []));
      number = omega (arith, counted, next, length-append olds (old ∷ []));
    }
