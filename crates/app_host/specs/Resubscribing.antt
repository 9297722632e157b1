-- Subscriptions that end. From the cFE user's guide, software bus services.
use Rattle.std.specs.Prelude.{ℕ, ◌==◌, not, List, [], ◌∷◌, map, filter}
use Rattle.lc_model.specs.declared.field.Term.{Term}

-- The subscriptions without these message ids.
unfoldable pub without_mids : List ℕ → List ℕ → List ℕ
without_mids [] mids = mids
without_mids (mid ∷ more) mids = without_mids more (filter (λ other. not (mid == other)) mids)

-- The message ids of these watchpoints, in their order.
abbrev pub mids_of : List Term → List ℕ
mids_of terms = map (λ (t : Term). t.mid) terms
