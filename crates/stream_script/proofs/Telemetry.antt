-- The line that says telemetry says it.
use Rattle.std.proofs.Common.{◌≡◌, refl, ◌∙◌, ap, ℕ, zero, suc, ◌<◌, ◌≤◌, ◌^◌, lit<, Bool, List, [], ◌∷◌, ◌++◌, length, arith, append_assoc, nat_le, Result, Ok, Err, if◌then◌else◌}
use Rattle.std.specs.Prelude.{codes, decimal}
use Rattle.std.proofs.lemmas.Nat.{from_be_bytes-to_be_bytes_2}
use Rattle.hex.specs.Hex.{IsBytes}
use Rattle.lc_model.specs.Bytes.{u16, u16_at}
use Rattle.lc_model.specs.Host.ScheduleText.{words_of}
use Rattle.lc_model.proofs.Facts.{test_at_most}
use Rattle.stream_script.specs.declared.error.Reason.{Reason}
use Rattle.stream_script.specs.declared.error.Reason.TheVariants.{BadBody}
use Rattle.stream_script.specs.Error.{◌>>=◌}
use Rattle.stream_script.specs.Number.{bytes_word}
use Rattle.stream_script.specs.Script.{Said, line_said, mid_in, mid_of, telemetry_brought, telemetry_fits, told}
use Rattle.stream_script.specs.Telemetry.{SaysTelemetry, telemetry_line}
use Rattle.stream_script.proofs.Again.{IsWord, bytes_again, bytes_are_word, decimal_is_word, last_word, next_word, number_again}

joined : (m n b : List ℕ) → codes "telemetry " ++ m ++ codes " " ++ n ++ codes " " ++ b ≡ codes "telemetry" ++ (32 ∷ (m ++ (32 ∷ (n ++ (32 ∷ b)))))
joined m n b = simp append_assoc

words : (m n b : List ℕ) → IsWord m → IsWord n → IsWord b → words_of (codes "telemetry " ++ m ++ codes " " ++ n ++ codes " " ++ b) ≡ codes "telemetry" ∷ m ∷ n ∷ b ∷ []
words m n b is_m is_n is_b =
    ap words_of (joined m n b)
    ∙ (next_word (codes "telemetry") (m ++ (32 ∷ (n ++ (32 ∷ b)))) (record { plain = refl; some = lit< tt })
    ∙ ap (λ (ws : List (List ℕ)). codes "telemetry" ∷ ws) (next_word m (n ++ (32 ∷ b)) is_m
    ∙ ap (λ (ws : List (List ℕ)). m ∷ ws) (next_word n b is_n ∙ ap (λ (ws : List (List ℕ)). n ∷ ws) (last_word b is_b))))

module _ (mid : ℕ) (small : mid < 2 ^ 16) where
  are_bytes : IsBytes (u16 mid)
  are_bytes zero = omega arith
  are_bytes (suc zero) = omega arith
  are_bytes (suc (suc i)) = lit< tt

  mid_again : mid_in (bytes_word (u16 mid)) ≡ Ok mid
  mid_again = ap (λ (r : Result (List ℕ) Reason). r >>= mid_of) (bytes_again (u16 mid) are_bytes) ∙ ap okay (from_be_bytes-to_be_bytes_2 mid small)
    where
      okay : ℕ → Result ℕ Reason
      okay n = Ok n

pub says_telemetry : SaysTelemetry
says_telemetry said mid count payload small few are short =
    let less : count < 2 ^ 32 = omega (arith, few) in
    let most : count ≤ 16383 = omega (arith, few) in
    ap (line_said said) (words (bytes_word (u16 mid)) (decimal count) (bytes_word payload) (bytes_are_word (u16 mid) (are_bytes mid small)) (decimal_is_word count less) (bytes_are_word payload are))
    ∙ (λ i. mid_again mid small i >>= (λ (m : ℕ). number_again 16383 count most less i >>= (λ (n : ℕ). bytes_again payload are i >>= (λ (bytes : List ℕ). telemetry_fits m n bytes said))))
    ∙ ap (λ (b : Bool). if b then Ok (told mid count payload said) else Err BadBody) (test_at_most (length payload) 2036 short)
