-- A stock that was filled by three, one after the other, has their names.
use Rattle.std.proofs.Common.{◌≡◌, ◌∙◌, ap, List, [], ◌∷◌, ◌++◌, map}
use Rattle.lc_model.specs.Name.{Name}
use Rattle.app_host.specs.Hosted.{Object}
use Rattle.flight_profile.specs.Stock.{names_of}

pub three : {B : Type 0} (f : B → Object) (none one two all : List B) (a b c : Name) → none ≡ [] → names_of (map f one) ≡ names_of (map f none) ++ a ∷ [] →
    names_of (map f two) ≡ names_of (map f one) ++ b ∷ [] → names_of (map f all) ≡ names_of (map f two) ++ c ∷ [] → names_of (map f all) ≡ a ∷ b ∷ c ∷ []
three f none one two all a b c e₀ e₁ e₂ e₃ = e₃ ∙ ap (λ xs. xs ++ c ∷ []) (e₂ ∙ ap (λ xs. xs ++ b ∷ []) (e₁ ∙ ap (λ items. names_of (map f items) ++ a ∷ []) e₀))
