-- The words of the line at a place.
use Rattle.std.proofs.Common.{◌≡◌, sym, ◌∙◌, ap, ℕ, ◌<◌, List, [], length, get_or, Option, unwrap_or, option_map}
use Rattle.std.proofs.lemmas.Option.{slice_get-get_or, slice_get-map}
use denote.Ref.{Bor}
use Rattle.text_lines.specs.Lines.{texts_of}
use Rattle.scenarios.specs.Plain.{Going, words_at}
use Rattle.scenarios.specs.Words.{words_in}

pub words_there : (lines : List (Bor (List ℕ))) (place : ℕ) (none : Bor (List ℕ)) (words : List (Bor (List ℕ))) → place < length lines →
    texts_of words ≡ words_in (get_or lines place none).now → texts_of words ≡ words_at (texts_of lines) place
words_there lines place none words inside are =
    are ∙ ap (λ (o : Option (List ℕ)). words_in (unwrap_or o []))
    (sym (slice_get-map (λ (word : Bor (List ℕ)). word.now) lines place
    ∙ ap (option_map (λ (word : Bor (List ℕ)). word.now)) (slice_get-get_or lines place none inside)))

pub same_words : (lines : List (Bor (List ℕ))) (none : Bor (List ℕ)) (slice words : List (Bor (List ℕ))) (going : Going) (place : ℕ) → place ≡ going.place →
    place < length lines → slice ≡ words → texts_of words ≡ words_in (get_or lines place none).now → texts_of slice ≡ words_at (texts_of lines) going.place
same_words lines none slice words going place at inside same are =
    ap texts_of same ∙ words_there lines place none words inside are ∙ ap (words_at (texts_of lines)) at
