-- The filters of a sender, each of another event id.
use Rattle.std.specs.Prelude.{ℕ, ◌+◌, ◌==◌, List, [], ◌∷◌, map, ⊤, IsFalse}
use Rattle.std.specs.List.{list_any}
use Rattle.lc_model.specs.Count.{capped}
use Rattle.lc_model.specs.Kept.Summary.{Filter}

-- The event ids of the filters, in the order in which they were first set.
abbrev pub ids_of : List Filter → List ℕ
ids_of filters = map (λ (filter : Filter). filter.id) filters

-- No number stands in the list twice.
abbrev pub AreDistinct : List ℕ → Type 0
AreDistinct [] = ⊤
AreDistinct (id ∷ ids) = IsFalse (list_any (λ other. id == other) ids) × AreDistinct ids

-- No event id has two filters.
abbrev pub HaveOwnIds : List Filter → Type 0
HaveOwnIds filters = AreDistinct (ids_of filters)

-- The filter after one more counted request.
abbrev pub asked_once : Filter → Filter
asked_once filter = record filter { count = capped (filter.count + 1) }

-- The filter with a new mask and a count of 0.
abbrev pub renewed : ℕ → Filter → Filter
renewed mask filter = record filter { mask = mask; count = 0 }
