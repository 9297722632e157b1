-- Tests joined by `&&` and `||`.
use Rattle.std.proofs.Common.{◌≡◌, refl, Bool, true, false, ◌&&◌, ◌||◌}
use Rattle.lc_model.proofs.Facts.{and_first, and_second, and_true, and_first_false, or_none_of_four, and_second_false}

pub only_first : (a b c d : Bool) → b ≡ false → c ≡ false → d ≡ false → (a || b || c || d) ≡ a
only_first true b c d p q r = refl
only_first false true c d p q r = absurd (cc p)
only_first false false true d p q r = absurd (cc q)
only_first false false false true p q r = absurd (cc r)
only_first false false false false p q r = refl

pub only_second : (a b c d : Bool) → a ≡ false → c ≡ false → d ≡ false → (a || b || c || d) ≡ b
only_second true b c d p q r = absurd (cc p)
only_second false true c d p q r = refl
only_second false false true d p q r = absurd (cc q)
only_second false false false true p q r = absurd (cc r)
only_second false false false false p q r = refl

pub only_third : (a b c d : Bool) → a ≡ false → b ≡ false → d ≡ false → (a || b || c || d) ≡ c
only_third true b c d p q r = absurd (cc p)
only_third false true c d p q r = absurd (cc q)
only_third false false true d p q r = refl
only_third false false false true p q r = absurd (cc r)
only_third false false false false p q r = refl
