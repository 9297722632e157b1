-- Which rules sample requests reach. This project's own.
use Rattle.std.specs.Prelude.{ℕ, Bool, List}
use Rattle.std.specs.List.{list_any}
use Rattle.lc_model.specs.declared.command.SampleRequest.{SampleRequest}
use Rattle.lc_model.specs.Command.{takes}

-- some request takes the rule of this number
abbrev pub is_sampled : List SampleRequest → ℕ → Bool
is_sampled samples rule = list_any (λ (sample : SampleRequest). takes sample rule) samples
