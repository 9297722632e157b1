use Rattle.std.proofs.Common.{◌≡◌, ◌∙◌, refl, ap, sym, Bool, true, false, true≢false, [], ◌∷◌, inl, inr}
use Rattle.clap.specs.Words.{Kinds, fault_of}
use Rattle.clap.proofs.OnLiterals.{clap_on_literals}
use Rattle.flight_run_args.specs.Words.{GiveAPlan, command_line, compile_words, words_lacking_a_file, run_words, run_words_otherwise}
use Rattle.flight_run_args.proofs.laws.words_give_plans.Goals as goal

abbrev is_none : Kinds → Bool
is_none [] = true
is_none (kind ∷ kinds) = false

compiles : GiveAPlan compile_words
unfolding clap_on_literals
compiles = (refl, inl (refl, refl, refl, refl))

runs : GiveAPlan run_words
unfolding clap_on_literals
runs = (refl, inr (refl, refl, refl, refl, refl))

runs_otherwise : GiveAPlan run_words_otherwise
unfolding clap_on_literals
runs_otherwise = (refl, inr (refl, refl, refl, refl, refl))

lacks : is_none (fault_of command_line words_lacking_a_file) ≡ false
unfolding clap_on_literals
lacks = refl

pub returns : goal.returns
returns c = record {
  compile_words = compiles;
  run_words = runs;
  run_words_otherwise = runs_otherwise;
  words_lacking_a_file = λ gives. true≢false (sym (ap is_none gives.0) ∙ lacks);
}
