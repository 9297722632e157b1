-- Cuts one behind the other.
use Rattle.std.proofs.Common.{◌≡◌, refl, ℕ, ◌+◌, List, [], ◌∷◌, ◌++◌, length, length-append, arith}
use Rattle.lc_model.specs.Text.Token.{Token, Cuts, here, blank, comment, token}

-- what is cut further
pub join : {at mid end : ℕ} {text rest tail : List ℕ} {ts us : List Token} → Cuts at text ts mid rest → Cuts mid rest us end tail →
    Cuts at text (ts ++ us) end tail
join here others = others
join (blank is cuts) others = blank is (join cuts others)
join (comment bytes is cuts) others = comment bytes is (join cuts others)
join (token word is longest cuts) others = token word is longest (join cuts others)

-- what is cut off is the difference of the places
pub cut_length : {at end : ℕ} {text rest : List ℕ} {ts : List Token} → Cuts at text ts end rest → end + length rest ≡ at + length text
cut_length here = refl
cut_length (blank {at = at} {end = end} {c = c} {text = text} {rest = rest} is cuts) =
    let others : end + length rest ≡ at + 1 + length text = cut_length cuts in
    omega (arith, others, length-append (c ∷ []) text)
cut_length (comment {at = at} {end = end} {text = text} {rest = rest} bytes is cuts) =
    let others : end + length rest ≡ at + length bytes + length text = cut_length cuts in
    omega (arith, others, length-append bytes text)
cut_length (token {at = at} {end = end} {text = text} {rest = rest} word is longest cuts) =
    let others : end + length rest ≡ at + length word + length text = cut_length cuts in
    omega (arith, others, length-append word text)
