-- One character more.
use Rattle.std.proofs.Common.{◌≡◌, ◌+◌, ◌<◌, ◌++◌, ℕ, suc, List, [], ◌∷◌, length, take, get_or, take-suc, encode_utf8, encode_utf8_all, refl, sym, ◌∙◌, ap, arith, append_assoc, append-nil}

of_parts : (front back : List ℕ) → encode_utf8_all (front ++ back) ≡ encode_utf8_all front ++ encode_utf8_all back
of_parts [] back = refl
of_parts (char ∷ front) back =
    ap (λ rest. encode_utf8 char ++ rest) (of_parts front back)
    ∙ sym (append_assoc (encode_utf8 char) (encode_utf8_all front) (encode_utf8_all back))

pub pushed : (text before columns : List ℕ) (number char : ℕ) → number < length columns → char ≡ get_or columns number char
    → text ≡ before ++ encode_utf8_all (take number columns) → text ++ encode_utf8 char ≡ before ++ encode_utf8_all (take (number + 1) columns)
pushed text before columns number char inside is so_far =
    let next : take (number + 1) columns ≡ take number columns ++ char ∷ [] =
    ap (λ n. take n columns) (one_more number) ∙ take-suc columns number char inside ∙ ap (λ c. take number columns ++ c ∷ []) (sym is) in
    ap (λ bytes. bytes ++ encode_utf8 char) so_far
    ∙ append_assoc before (encode_utf8_all (take number columns)) (encode_utf8 char)
    ∙ ap (λ bytes. before ++ bytes)
    (sym (ap encode_utf8_all next ∙ of_parts (take number columns) (char ∷ []) ∙ ap (λ bytes. encode_utf8_all (take number columns) ++ bytes) (append-nil (encode_utf8 char))))
  where
    one_more : (n : ℕ) → n + 1 ≡ suc n
    one_more n = omega arith
