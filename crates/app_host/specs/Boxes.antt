-- The boxes themselves, where other definitions speak of their meanings.
use Rattle.std.specs.Prelude.{◌≡◌, ℕ, List, Option, None, IsSomeAnd, slice_index_or}
use Rattle.app_host.specs.declared.services.Services.{Services}
use Rattle.app_host.specs.Object.{Object}
use Rattle.app_host.specs.Objects.{HasRetired}

module _ {B : Type 0} (meaning : B → Object) (seats : List (Option B)) (before : Services) where
  -- The box on this seat was retired over these services: a box `gone` has the meaning that `retire` leaves, the same name and
  -- no seat. That `gone` is that very box is not stated.
  pub record BoxHasGone (seat : ℕ) : Type 0 where
    pub after : Services
    pub gone : B
    pub retired : IsSomeAnd (slice_index_or seats seat None) (λ (there : B). ((meaning gone).called ≡ (meaning there).called) × HasRetired seat before after (meaning there) (meaning gone))
