-- What a sample notes, in order.
use Rattle.std.proofs.Common.{◌≡◌, refl, sym, true≢false, ◌<◌, ◌≤◌, ◌+◌, ℕ, Bool, true, false, ◌||◌, IsTrue, List, [], ◌∷◌, ◌++◌, Option, Some, None, is_some, arith}
use Rattle.limit_engine.specs.declared.reaction.Asked.{Asked}
use Rattle.limit_engine.specs.Reactions.{asks, AreInOrder}

-- items below a number are below a greater one
pub below_more : (from below more : ℕ) (asked : List Asked) → below ≤ more → AreInOrder from below asked → AreInOrder from more asked
below_more from below more [] less order = tt
below_more from below more (a ∷ asked) less order =
    let under : a.rule < below = order.1 in (order.0, omega (arith, under, less), order.2, below_more (a.rule + 1) below more asked less order.3)

-- one item more behind them
pub one_more : (from below : ℕ) (asked : List Asked) (a : Asked) → from ≤ a.rule → below ≤ a.rule → IsTrue (asks a.reactions) →
    AreInOrder from below asked → AreInOrder from (a.rule + 1) (asked ++ a ∷ [])
one_more from below [] a first behind asking order = (first, omega arith, asking, tt)
one_more from below (b ∷ asked) a first behind asking order =
    let under : b.rule < below = order.1 in
    (order.0, omega (arith, under, behind), order.2, one_more (b.rule + 1) below asked a (omega (arith, under, behind)) behind asking order.3)

-- one of two is there
pub either_first : {A : Type 0} (o : Option A) (other : Bool) → is_some o ≡ true → IsTrue (is_some o || other)
either_first (Some x) other some = refl
either_first None other some = absurd (true≢false (sym some))

pub either_second : {A : Type 0} (other : Bool) (o : Option A) → is_some o ≡ true → IsTrue (other || is_some o)
either_second true o some = refl
either_second false o some = some
