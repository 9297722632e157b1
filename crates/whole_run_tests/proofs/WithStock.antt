-- What a run promises is what it promises of the usual mission, spare by spare.
use Rattle.std.proofs.Common.{◌≡◌, refl, ◌∙◌, ap, subst, ℕ, List, [], ◌∷◌, ◌++◌, map}
use Rattle.lc_model.specs.Name.{Name}
use Rattle.lc_model.specs.Tables.InForce.{edition}
use Rattle.lc_model.specs.Host.Schedule.{Schedule}
use Rattle.lc_model.specs.Host.Outcome.{Devices, Ending}
use Rattle.lc_model.specs.Host.Promise.{WritesWhatIsCalledFor}
use Rattle.lc_model.specs.Kept.Executive.{Member}
use Rattle.app_host.specs.Hosted.{Object}
use Rattle.flight_core.specs.Failures.{TellsFailures}
use Rattle.flight_core.specs.Fitting.{RefusesUnfitAlone}
use Rattle.flight_core.specs.Run.{members_of}
use Rattle.whole_run_tests.specs.WithStock.{KeepsItsPromises, names, names_of}

called_so : (stock : List Object) → map (λ (member : Member). member.called) (members_of stock) ≡ names_of stock
called_so [] = refl
called_so (o ∷ stock) = ap (λ others. o.called ∷ others) (called_so stock)

pub four : {B : Type 0} (f : B → Object) (none one two three all : List B) (a b c d : Name) → none ≡ [] → names_of (map f one) ≡ names_of (map f none) ++ a ∷ [] →
    names_of (map f two) ≡ names_of (map f one) ++ b ∷ [] → names_of (map f three) ≡ names_of (map f two) ++ c ∷ [] → names_of (map f all) ≡ names_of (map f three) ++ d ∷ [] →
    map (λ (member : Member). member.called) (members_of (map f all)) ≡ a ∷ b ∷ c ∷ d ∷ []
four f none one two three all a b c d e₀ e₁ e₂ e₃ e₄ =
    called_so (map f all)
    ∙ e₄ ∙ ap (λ xs. xs ++ d ∷ []) (e₃ ∙ ap (λ xs. xs ++ c ∷ []) (e₂ ∙ ap (λ xs. xs ++ b ∷ []) (e₁ ∙ ap (λ items. names_of (map f items) ++ a ∷ []) e₀)))

pub keeps : (sources : List (List ℕ)) (schedule : Schedule) (stock : List Name) (d : Devices) (ending : Ending) → stock ≡ names →
    WritesWhatIsCalledFor (record { edition = edition; sources = sources; schedule = schedule; stock = stock; most_reads = 4_294_967_296 }) d ending →
    TellsFailures 4_294_967_296 d ending → RefusesUnfitAlone sources d ending → KeepsItsPromises sources schedule d ending
keeps sources schedule stock d ending of_names wrote told refuses = record {
  by_texts = subst (λ ns. WritesWhatIsCalledFor (record { edition = edition; sources = sources; schedule = schedule; stock = ns; most_reads = 4_294_967_296 }) d ending) of_names wrote;
  failures = told;
  refuses = refuses;
}
