-- A scenario, line by line.
use Rattle.std.proofs.Common.{◌≡◌, refl, sym, ◌∙◌, ap, ℕ, zero, suc, ◌+◌, ◌<◌, ◌≤◌, Bool, true, false, nat_lt, if◌then◌else◌, List, length, Result, Ok, Err, arith}
use Rattle.std.proofs.lemmas.List.{length-map}
use denote.Ref.{Bor}
use Rattle.text_lines.specs.Lines.{texts_of}
use Rattle.scenarios.specs.declared.error.Reason.{Reason}
use Rattle.scenarios.specs.declared.error.Reason.TheVariants.{TooLong}
use Rattle.scenarios.specs.declared.force.ForceChange.{ForceChange}
use Rattle.scenarios.specs.Error.{ScenarioFault}
use Rattle.scenarios.specs.Named.{NamedRule}
use Rattle.scenarios.specs.Plain.{Going, behind_step, said_within, step, words_at}
use Rattle.scenarios.specs.Said.{Said}

-- so many steps may be left: what they say is what the whole says
pub record Stepping (rules : List NamedRule) (changes : List ForceChange) (lines : List (List ℕ)) (whole : Result Said ScenarioFault) (counter end : ℕ) (going : Going) : Type 0 where
  pub most : ℕ
  pub spare : counter + most ≡ end
  pub says : said_within most rules changes lines going ≡ whole

pub begun : (rules : List NamedRule) (changes : List ForceChange) (lines : List (List ℕ)) (most : ℕ) (going : Going) →
    Stepping rules changes lines (said_within most rules changes lines going) 0 most going
begun rules changes lines most going = record { most = most; spare = omega arith; says = refl }

at_zero : (rules : List NamedRule) (changes : List ForceChange) (lines : List (List ℕ)) (going : Going) →
    said_within zero rules changes lines going ≡ (if nat_lt going.place (length lines) then Err (record { line = going.place + 1; reason = TooLong }) else Ok going.said)
unfolding said_within
at_zero rules changes lines going = refl

at_more : (rules : List NamedRule) (changes : List ForceChange) (lines : List (List ℕ)) (most : ℕ) (going : Going) →
    said_within (suc most) rules changes lines going
    ≡ (if nat_lt going.place (length lines) then behind_step (said_within most rules changes lines) going.place (step rules changes lines (words_at lines going.place) going) else Ok going.said)
unfolding said_within
at_more rules changes lines most going = refl

module _ (rules : List NamedRule) (changes : List ForceChange) (lines : List (List ℕ)) (whole : Result Said ScenarioFault) (counter end : ℕ) (going : Going)
    (so_far : Stepping rules changes lines whole counter end going) where
  -- no line is left
  pub ended : nat_lt going.place (length lines) ≡ false → whole ≡ Ok going.said
  ended none = by_most so_far.most so_far.says
    where
      by_most : (most : ℕ) → said_within most rules changes lines going ≡ whole → whole ≡ Ok going.said
      by_most zero says = sym says ∙ at_zero rules changes lines going ∙ rw none refl
      by_most (suc most) says = sym says ∙ at_more rules changes lines most going ∙ rw none refl

  -- no step is left
  pub spent : end ≤ counter → nat_lt going.place (length lines) ≡ true → whole ≡ Err (record { line = going.place + 1; reason = TooLong })
  spent past some = by_most so_far.most so_far.spare so_far.says
    where
      by_most : (most : ℕ) → counter + most ≡ end → said_within most rules changes lines going ≡ whole → whole ≡ Err (record { line = going.place + 1; reason = TooLong })
      by_most zero spare says = sym says ∙ at_zero rules changes lines going ∙ rw some refl
      by_most (suc most) spare says = absurd (omega (arith, spare, past))

  module _ (within : counter < end) (some : nat_lt going.place (length lines) ≡ true) where
    -- a line that is refused
    pub refused : (reason : Reason) → step rules changes lines (words_at lines going.place) going ≡ Err reason → whole ≡ Err (record { line = going.place + 1; reason = reason })
    refused reason is = by_most so_far.most so_far.spare so_far.says
      where
        by_most : (most : ℕ) → counter + most ≡ end → said_within most rules changes lines going ≡ whole → whole ≡ Err (record { line = going.place + 1; reason = reason })
        by_most zero spare says = absurd (omega (arith, spare, within))
        by_most (suc most) spare says =
            sym says ∙ at_more rules changes lines most going
            ∙ ap (λ (b : Bool). if b then behind_step (said_within most rules changes lines) going.place (step rules changes lines (words_at lines going.place) going) else Ok going.said) some
            ∙ ap (behind_step (said_within most rules changes lines) going.place) is

    -- one that says something
    pub one_more : (after : Going) → step rules changes lines (words_at lines going.place) going ≡ Ok after → Stepping rules changes lines whole (counter + 1) end after
    one_more after is = by_most so_far.most so_far.spare so_far.says
      where
        by_most : (most : ℕ) → counter + most ≡ end → said_within most rules changes lines going ≡ whole → Stepping rules changes lines whole (counter + 1) end after
        by_most zero spare says = absurd (omega (arith, spare, within))
        by_most (suc most) spare says = record {
          most = most;
          spare = omega (arith, spare);
          says =
              sym (at_more rules changes lines most going
              ∙ ap (λ (b : Bool). if b then behind_step (said_within most rules changes lines) going.place (step rules changes lines (words_at lines going.place) going) else Ok going.said) some
              ∙ ap (behind_step (said_within most rules changes lines) going.place) is)
              ∙ says;
        }

-- ---- with the lines as they are held

before_end : (lines : List (Bor (List ℕ))) (place : ℕ) → place < length lines → nat_lt place (length (texts_of lines)) ≡ true
before_end lines place inside =
    let same : length (texts_of lines) ≡ length lines = length-map lines (λ (word : Bor (List ℕ)). word.now) in
    grind (arith, inside, same)

at_end : (lines : List (Bor (List ℕ))) (place : ℕ) → length lines ≤ place → nat_lt place (length (texts_of lines)) ≡ false
at_end lines place past =
    let same : length (texts_of lines) ≡ length lines = length-map lines (λ (word : Bor (List ℕ)). word.now) in
    grind (arith, past, same)

module _ (rules : List NamedRule) (changes : List ForceChange) (lines : List (Bor (List ℕ))) (whole : Result Said ScenarioFault) (counter end : ℕ) (going : Going)
    (so_far : Stepping rules changes (texts_of lines) whole counter end going) where
  pub ended_there : (place : ℕ) (said : Said) → going.place ≡ place → going.said ≡ said → length lines ≤ place → whole ≡ Ok said
  ended_there place said at same past =
      ended rules changes (texts_of lines) whole counter end going so_far (ap (λ n. nat_lt n (length (texts_of lines))) at ∙ at_end lines place past) ∙ ap Ok same

  pub spent_there : (place : ℕ) → going.place ≡ place → place < length lines → end ≤ counter → whole ≡ Err (record { line = place + 1; reason = TooLong })
  spent_there place at inside past =
      spent rules changes (texts_of lines) whole counter end going so_far past (ap (λ n. nat_lt n (length (texts_of lines))) at ∙ before_end lines place inside)
      ∙ ap (λ (n : ℕ). Err (record { line = n + 1; reason = TooLong })) at

  pub refused_there : (place : ℕ) (reason : Reason) → going.place ≡ place → place < length lines → counter < end →
      step rules changes (texts_of lines) (words_at (texts_of lines) going.place) going ≡ Err reason → whole ≡ Err (record { line = place + 1; reason = reason })
  refused_there place reason at inside within is =
      refused rules changes (texts_of lines) whole counter end going so_far within (ap (λ n. nat_lt n (length (texts_of lines))) at ∙ before_end lines place inside) reason is
      ∙ ap (λ (n : ℕ). Err (record { line = n + 1; reason = reason })) at

  pub more_there : (place : ℕ) (after : Going) → going.place ≡ place → place < length lines → counter < end →
      step rules changes (texts_of lines) (words_at (texts_of lines) going.place) going ≡ Ok after → Stepping rules changes (texts_of lines) whole (counter + 1) end after
  more_there place after at inside within is =
      one_more rules changes (texts_of lines) whole counter end going so_far within (ap (λ n. nat_lt n (length (texts_of lines))) at ∙ before_end lines place inside) after is
