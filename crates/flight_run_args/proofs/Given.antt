-- What a plan holds of what words give, and which words are none.
use Rattle.std.proofs.Common.{◌≡◌, ◌∙◌, ◌⊎◌, ap, sym, subst, inl, inr, true≢false, Option, Some, None, Result, Ok, Err, List, [], length, ◌≤◌}
use Rattle.std.specs.Prelude.{IfOk, IsErrAnd, IsOk, IsSomeAnd, MatchResult, is_ok, is_some}
use Rattle.clap.specs.Words.{App, FailsBy, HasMatchesOf, IsAmong, Kinds, Row, Text, is_simple, kind_of, subcommand_of, subcommand_rows_of}
use Rattle.clap.specs.declared.error.Error.{Error}
use Rattle.clap.specs.declared.error.kind.ErrorKind.TheVariants.{OutOfMemory}
use Rattle.clap.specs.declared.parser.matches.ArgMatches.{ArgMatches}
use Rattle.flight_run_args.specs.declared.command_line.WordsError.{WordsError}
use Rattle.flight_run_args.specs.declared.command_line.WordsError.TheVariants.{Usage}
use Rattle.flight_run_args.specs.declared.command_line.Plan.{Plan}
use Rattle.flight_run_args.specs.declared.command_line.Plan.TheVariants.{Stored, Compile, Run}
use Rattle.flight_run_args.specs.Words.{HasWhatItNeeds, HoldsRows, HoldsWords, command_line, given}

-- a plan that holds what a command is given holds what the words give
pub holds : (words : List Text) (found : Option (Text × List Row)) → found ≡ given words → (plan : Plan) → IsSomeAnd found (λ command. HoldsRows command plan) → HoldsWords words plan
holds words found is Stored some = stored found some
  where
    stored : (o : Option (Text × List Row)) → IsSomeAnd o (λ command. HoldsRows command Stored) → length words ≤ 1
    stored None some = absurd some
    stored (Some command) some = absurd some
holds words found is (Compile rules wdt adt) some = subst (λ o. IsSomeAnd o (λ command. HoldsRows command (Compile rules wdt adt))) is some
holds words found is (Run schedule stream out rules) some = subst (λ o. IsSomeAnd o (λ command. HoldsRows command (Run schedule stream out rules))) is some

-- what is found has the rows that the words give
pub rows_given : (app : App) (words : List Text) (tried : Result ArgMatches Error) (found : ArgMatches) → app ≡ command_line → tried ≡ Ok found
    → IfOk tried (HasMatchesOf app words) → subcommand_rows_of found ≡ given words
rows_given app words tried found app_is is has =
    (subst (λ r. IfOk r (HasMatchesOf app words)) is has (ap is_simple app_is)).1 ∙ ap (λ app. subcommand_of app words) app_is

-- and a command whose rows a plan holds has what it needs
pub whole : (found : Option (Text × List Row)) (plan : Plan) → IsSomeAnd found (λ command. HoldsRows command plan) → IsSomeAnd found HasWhatItNeeds
whole None plan some = absurd some
whole (Some command) Stored some = absurd some
whole (Some command) (Compile rules wdt adt) some = inl (some.0, ap is_some some.1, ap is_some some.2, ap is_some some.3)
whole (Some command) (Run schedule stream out rules) some = inr (some.0, ap is_some some.1, ap is_some some.2, ap is_some some.3, ap is_some some.4)

pub whole_of : (found : Option (Text × List Row)) (told : Result Plan WordsError) → IsOk told → IfOk told (λ plan. IsSomeAnd found (λ command. HoldsRows command plan)) → IsSomeAnd found HasWhatItNeeds
whole_of found (Ok plan) is_ok some = whole found plan some
whole_of found (Err error) is_ok some = absurd (true≢false (sym is_ok))

-- where a refusal is no want of memory something is wrong with the words
pub not_taken : (kinds : Kinds) (tried : Result ArgMatches Error) (told : Result ArgMatches WordsError) (error : WordsError) → FailsBy kinds tried
    → MatchResult tried (λ found. told ≡ Ok found) (λ cause. IsErrAnd told (λ said. said ≡ Usage → kind_of cause ≡ OutOfMemory → ⊥))
    → told ≡ Err error → error ≡ Usage → kinds ≡ [] → ⊥
not_taken kinds (Ok found) told error fails says is usage none = true≢false (ap is_ok (sym says ∙ is))
not_taken kinds (Err cause) told error fails says is usage none = wrong fails
  where
    refuses : error ≡ Usage → kind_of cause ≡ OutOfMemory → ⊥
    refuses = subst (λ r. IsErrAnd r (λ said. said ≡ Usage → kind_of cause ≡ OutOfMemory → ⊥)) is says

    wrong : (kind_of cause ≡ OutOfMemory) ⊎ IsAmong (kind_of cause) kinds → ⊥
    wrong (inl memory) = refuses usage memory
    wrong (inr among) = subst (IsAmong (kind_of cause)) none among
