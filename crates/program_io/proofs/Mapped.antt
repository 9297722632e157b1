-- A list that is mapped item by item.
use Rattle.std.proofs.Common.{◌≡◌, ◌∙◌, sym, ap, ℕ, ◌+◌, ◌<◌, suc, List, [], ◌∷◌, ◌++◌, map, take, length, get_or, arith}
use Rattle.std.proofs.Math.Seq.{take-suc}
use Rattle.std.proofs.lemmas.List.{map-append}

-- one item more
pub mapped_more : {B X Y : Type 0} (now : B → Y) (f : X → Y) (done after : List B) (more : B) (xs : List X) (i : ℕ) (item : X) → map now done ≡ map f (take i xs) → i < length xs →
    after ≡ done ++ more ∷ [] → get_or xs i item ≡ item → now more ≡ f item → map now after ≡ map f (take (i + 1) xs)
mapped_more now f done after more xs i item same less is at equal =
    let next : i + 1 ≡ suc i = omega arith in
    ap (map now) is ∙ map-append now done (more ∷ []) ∙ (λ j. same j ++ equal j ∷ [])
    ∙ ap (λ x. map f (take i xs) ++ f x ∷ []) (sym at) ∙ sym (map-append f (take i xs) (get_or xs i item ∷ [])) ∙ ap (map f) (sym (take-suc xs i item less)) ∙ ap (λ n. map f (take n xs)) (sym next)
