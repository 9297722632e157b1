-- A stock that was filled spare by spare has these names, and what is promised of it is promised of them.
use Rattle.std.proofs.Common.{◌≡◌, refl, sym, ◌∙◌, ap, subst, List, [], ◌∷◌, ◌++◌, map}
use Rattle.std.specs.Borrow.{Bor}
use Rattle.std.specs.Prelude.{ℕ, Result, ⊤}
use Rattle.lc_model.specs.Name.{Name}
use Rattle.lc_model.specs.Host.Outcome.{Devices, Ending, Complete, Uncompiled, MetNoRecord, MetTheEnd, FailedToRead, FailedToWrite, ReachedTheBound, NoMemory}
use Rattle.lc_model.specs.Host.Promise.{Mission}
use Rattle.lc_model.specs.Host.Schedule.{Schedule}
use Rattle.lc_model.specs.Kept.Executive.{Member}
use Rattle.lc_model.specs.Tables.InForce.{edition}
use Rattle.app_host.specs.Hosted.{Object, Hosted}
use Rattle.flight_core.specs.declared.error.Report.{Report}
use Rattle.flight_core.specs.declared.error.RunError.{RunError}
use Rattle.flight_core.specs.Compiled.{sources_of}
use Rattle.flight_core.specs.Promises.{Promises}
use Rattle.flight_core.specs.Ending.{ending_of}
use Rattle.flight_core.specs.Run.{AreThese, IsOfProfile, members_of}
use Rattle.flight_core.specs.Steps.{AnswersForItsReason}
use Rattle.flight_profile.specs.Stock.{names_of, own_names, own_mission, AreOwn, most_reads}

called_so : (stock : List Object) → map (λ (member : Member). member.called) (members_of stock) ≡ names_of stock
called_so [] = refl
called_so (o ∷ stock) = ap (λ others. o.called ∷ others) (called_so stock)

-- eight spares, one behind the other
pub eight : {B : Type 0} (f : B → Object) (l₀ l₁ l₂ l₃ l₄ l₅ l₆ l₇ l₈ : List B) (a b c d e f' g h : Name) → l₀ ≡ [] →
    names_of (map f l₁) ≡ names_of (map f l₀) ++ a ∷ [] → names_of (map f l₂) ≡ names_of (map f l₁) ++ b ∷ [] →
    names_of (map f l₃) ≡ names_of (map f l₂) ++ c ∷ [] → names_of (map f l₄) ≡ names_of (map f l₃) ++ d ∷ [] →
    names_of (map f l₅) ≡ names_of (map f l₄) ++ e ∷ [] → names_of (map f l₆) ≡ names_of (map f l₅) ++ f' ∷ [] →
    names_of (map f l₇) ≡ names_of (map f l₆) ++ g ∷ [] → names_of (map f l₈) ≡ names_of (map f l₇) ++ h ∷ [] →
    names_of (map f l₈) ≡ a ∷ b ∷ c ∷ d ∷ e ∷ f' ∷ g ∷ h ∷ []
eight f l₀ l₁ l₂ l₃ l₄ l₅ l₆ l₇ l₈ a b c d e f' g h e₀ e₁ e₂ e₃ e₄ e₅ e₆ e₇ e₈ =
    let four = e₄ ∙ ap (λ xs. xs ++ d ∷ []) (e₃ ∙ ap (λ xs. xs ++ c ∷ []) (e₂ ∙ ap (λ xs. xs ++ b ∷ []) (e₁ ∙ ap (λ items. names_of (map f items) ++ a ∷ []) e₀))) in
    e₈ ∙ ap (λ xs. xs ++ h ∷ []) (e₇ ∙ ap (λ xs. xs ++ g ∷ []) (e₆ ∙ ap (λ xs. xs ++ f' ∷ []) (e₅ ∙ ap (λ xs. xs ++ e ∷ []) four)))

-- a mission with a stock of these names
abbrev mission_with : List (Bor (List ℕ)) → Schedule → List Name → Mission
mission_with texts schedule stock = record { edition = edition; sources = sources_of texts; schedule = schedule; stock = stock; most_reads = most_reads }

-- what is known of a stock may be said of it in other words
in_other_words : {P Q : List Member → Type 0} (IsClosed : Hosted → Type 0) → ((members : List Member) → P members → Q members) → (m : Mission) (d : Devices) (ending : Ending) → AnswersForItsReason P IsClosed m d ending →
    AnswersForItsReason Q IsClosed m d ending
in_other_words IsClosed so m d (Complete entries count) answers = record { pairs = answers.pairs; compiled = answers.compiled; members = answers.members; stock = so _ answers.stock; run = answers.run }
in_other_words IsClosed so m d (Uncompiled text refusal) answers = tt
in_other_words IsClosed so m d (MetNoRecord number) answers = record { pairs = answers.pairs; compiled = answers.compiled; members = answers.members; stock = so _ answers.stock; run = answers.run }
in_other_words IsClosed so m d (MetTheEnd number) answers = record { pairs = answers.pairs; compiled = answers.compiled; members = answers.members; stock = so _ answers.stock; run = answers.run }
in_other_words IsClosed so m d FailedToRead answers = record { pairs = answers.pairs; compiled = answers.compiled; members = answers.members; stock = so _ answers.stock; run = answers.run }
in_other_words IsClosed so m d (FailedToWrite sent) answers = record { pairs = answers.pairs; compiled = answers.compiled; members = answers.members; stock = so _ answers.stock; run = answers.run }
in_other_words IsClosed so m d ReachedTheBound answers = record { pairs = answers.pairs; compiled = answers.compiled; members = answers.members; stock = so _ answers.stock; run = answers.run }
in_other_words IsClosed so m d NoMemory answers = tt

-- a run of this profile's stock with these names promises all that one of its own does
pub keeps : (IsClosed : Hosted → Type 0) (texts : List (Bor (List ℕ))) (schedule : Schedule) (stock : List Object) → IsOfProfile schedule stock → (d : Devices) (result : Result Report RunError) → names_of stock ≡ own_names →
    Promises (IsOfProfile schedule stock) (AreThese stock) IsClosed (mission_with texts schedule (map (λ (member : Member). member.called) (members_of stock))) d result →
    Promises ⊤ (AreOwn schedule) IsClosed (own_mission texts schedule) d result
keeps IsClosed texts schedule stock is d result same promises =
    let own = subst (λ names. Promises (IsOfProfile schedule stock) (AreThese stock) IsClosed (mission_with texts schedule names) d result) (called_so stock ∙ same) promises in
    record {
      profile = λ nothing. own.profile is;
      refuses = own.refuses;
      named = own.named;
      reasons = in_other_words IsClosed (λ members these. subst (AreOwn schedule) (sym these) (is, called_so stock ∙ same)) _ d (ending_of result) own.reasons;
      not_retried = own.not_retried;
      bounded = own.bounded;
    }
