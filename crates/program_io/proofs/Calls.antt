-- Calls on files, one after the other.
use Rattle.std.proofs.Common.{◌≡◌, ◌∙◌, refl, sym, ap, ℕ, ◌+◌, ◌<◌, ◌≤◌, suc, false, List, [], ◌∷◌, ◌++◌, map, take, drop, length, get_or, Option, Some, None, Bor, Vec, Global, arith, append_assoc, append-nil}
use Rattle.std.proofs.Math.Seq.{take-suc}
use Rattle.std.proofs.lemmas.List.{length-append, length-map, length-take-le, map-append, take-append-drop}
use Rattle.program_io.specs.FileCall.{FileCall, Reads, Compares, all_apart, all_read, asked, followed_by}

pub followed_twice : (before : Option (List FileCall)) (a b : List FileCall) → followed_by (followed_by before a) b ≡ followed_by before (a ++ b)
followed_twice None a b = refl
followed_twice (Some known) a b = ap Some (append_assoc known a b)

-- some calls, and then others
pub then_more : (before mid now : Option (List FileCall)) (a b : List FileCall) → mid ≡ followed_by before a → now ≡ followed_by mid b → now ≡ followed_by before (a ++ b)
then_more before mid now a b e f = f ∙ ap (λ x. followed_by x b) e ∙ followed_twice before a b

-- a list that is mapped item by item
pub map_next : {X Y : Type 0} (f : X → Y) (xs : List X) (i : ℕ) (none item : X) → i < length xs → get_or xs i none ≡ item → map f (take (i + 1) xs) ≡ map f (take i xs) ++ f item ∷ []
map_next f xs i none item less at =
    let next : i + 1 ≡ suc i = omega arith in
    ap (λ n. map f (take n xs)) next ∙ ap (map f) (take-suc xs i none less) ∙ map-append f (take i xs) (get_or xs i none ∷ [])
    ∙ ap (λ x. map f (take i xs) ++ f x ∷ []) at

pub name_next : (xs : List (Bor (List ℕ))) (i : ℕ) (none item : Bor (List ℕ)) → i < length xs → get_or xs i none ≡ item →
    map (λ (x : Bor (List ℕ)). x.now) (take (i + 1) xs) ≡ map (λ (x : Bor (List ℕ)). x.now) (take i xs) ++ item.now ∷ []
name_next xs i none item less at = map_next (λ (x : Bor (List ℕ)). x.now) xs i none item less at

-- one file more
pub all_read_append : (names texts : List (List ℕ)) (name text : List ℕ) → length texts ≡ length names → all_read (names ++ name ∷ []) (texts ++ text ∷ []) ≡ all_read names texts ++ Reads name (Some text) ∷ []
unfolding all_read
all_read_append [] [] name text same = refl
all_read_append [] (t ∷ texts) name text same = cc
all_read_append (n ∷ names) [] name text same = cc
all_read_append (n ∷ names) (t ∷ texts) name text same = ap (λ calls. Reads n (Some t) ∷ calls) (all_read_append names texts name text (omega arith))

-- at first
pub none_yet : (before : Option (List FileCall)) → before ≡ followed_by before []
none_yet None = refl
none_yet (Some known) = ap Some (sym (append-nil known))

pub none_read : (texts : List (List ℕ)) → all_read [] texts ≡ []
unfolding all_read
none_read texts = refl

-- one file more was read
pub read_next : (names : List (Bor (List ℕ))) (i : ℕ) (none name : Bor (List ℕ)) (texts : List (Vec ℕ Global)) (text : Vec ℕ Global) (after : List (Vec ℕ Global)) (before mid now : Option (List FileCall)) →
    i < length names → get_or names i none ≡ name → length texts ≡ i →
    mid ≡ followed_by before (all_read (map (λ (x : Bor (List ℕ)). x.now) (take i names)) (map (λ (x : Vec ℕ Global). x.items) texts)) →
    now ≡ followed_by mid (Reads name.now (Some text.items) ∷ []) → after ≡ texts ++ text ∷ [] →
    now ≡ followed_by before (all_read (map (λ (x : Bor (List ℕ)). x.now) (take (i + 1) names)) (map (λ (x : Vec ℕ Global). x.items) after))
read_next names i none name texts text after before mid now less at many e f pushed =
    let so_far = map (λ (x : Bor (List ℕ)). x.now) (take i names) in
    let bytes = map (λ (x : Vec ℕ Global). x.items) texts in
    let same : length bytes ≡ length so_far = length-map texts (λ (x : Vec ℕ Global). x.items) ∙ many ∙ sym (length-map (take i names) (λ (x : Bor (List ℕ)). x.now) ∙ length-take-le i names (omega arith)) in
    then_more before mid now (all_read so_far bytes) (Reads name.now (Some text.items) ∷ []) e f
    ∙ ap (followed_by before) (sym (all_read_append so_far bytes name.now text.items same)
    ∙ (λ j. all_read (sym (name_next names i none name less at) j) (sym (ap (map (λ (x : Vec ℕ Global). x.items)) pushed ∙ map-append (λ (x : Vec ℕ Global). x.items) texts (text ∷ [])) j)))

-- a list that is mapped around one of its items
pub map_around : {X Y : Type 0} (f : X → Y) (xs : List X) (i : ℕ) (none item : X) → i < length xs → get_or xs i none ≡ item → map f xs ≡ map f (take i xs) ++ (f item ∷ [] ++ map f (drop (i + 1) xs))
map_around f xs i none item less at =
    ap (map f) (sym (take-append-drop (i + 1) xs)) ∙ map-append f (take (i + 1) xs) (drop (i + 1) xs) ∙ ap (λ x. x ++ map f (drop (i + 1) xs)) (map_next f xs i none item less at)
    ∙ append_assoc (map f (take i xs)) (f item ∷ []) (map f (drop (i + 1) xs))

-- calls on files, around one of them
pub calls_around : (f : List ℕ → FileCall) (xs : List (Bor (List ℕ))) (i : ℕ) (none item : Bor (List ℕ)) → i < length xs → get_or xs i none ≡ item →
    map f (map (λ (x : Bor (List ℕ)). x.now) xs) ≡ map f (map (λ (x : Bor (List ℕ)). x.now) (take i xs)) ++ (f item.now ∷ [] ++ map f (map (λ (x : Bor (List ℕ)). x.now) (drop (i + 1) xs)))
calls_around f xs i none item less at =
    ap (map f) (map_around (λ (x : Bor (List ℕ)). x.now) xs i none item less at)
    ∙ map-append f (map (λ (x : Bor (List ℕ)). x.now) (take i xs)) (item.now ∷ [] ++ map (λ (x : Bor (List ℕ)). x.now) (drop (i + 1) xs))

-- and up to a place
pub calls_split : (f : List ℕ → FileCall) (xs : List (Bor (List ℕ))) (n : ℕ) →
    map f (map (λ (x : Bor (List ℕ)). x.now) xs) ≡ map f (map (λ (x : Bor (List ℕ)). x.now) (take n xs)) ++ map f (map (λ (x : Bor (List ℕ)). x.now) (drop n xs))
calls_split f xs n =
    ap (λ x. map f (map (λ (x : Bor (List ℕ)). x.now) x)) (sym (take-append-drop n xs)) ∙ ap (map f) (map-append (λ (x : Bor (List ℕ)). x.now) (take n xs) (drop n xs))
    ∙ map-append f (map (λ (x : Bor (List ℕ)). x.now) (take n xs)) (map (λ (x : Bor (List ℕ)). x.now) (drop n xs))

-- nothing came of a comparison that the order does not say
pub asked_apart : (name : List ℕ) (others : List (List ℕ)) → map asked (all_apart name others) ≡ all_apart name others
asked_apart name [] = refl
asked_apart name (other ∷ others) = ap (λ calls. Compares name other false ∷ calls) (asked_apart name others)

-- nor of files that were read
pub asked_read : (names texts : List (List ℕ)) → length texts ≡ length names → map asked (all_read names texts) ≡ map (λ name. Reads name None) names
unfolding all_read
asked_read [] texts same = refl
asked_read (name ∷ names) [] same = cc
asked_read (name ∷ names) (text ∷ texts) same = ap (λ calls. Reads name None ∷ calls) (asked_read names texts (omega arith))

-- as many texts as names
pub as_many : (names : List (Bor (List ℕ))) (i : ℕ) (texts : List (Vec ℕ Global)) → i ≤ length names → length texts ≡ i →
    length (map (λ (x : Vec ℕ Global). x.items) texts) ≡ length (map (λ (x : Bor (List ℕ)). x.now) (take i names))
as_many names i texts fits many = length-map texts (λ (x : Vec ℕ Global). x.items) ∙ many ∙ sym (length-map (take i names) (λ (x : Bor (List ℕ)). x.now) ∙ length-take-le i names fits)

pub one_more : (texts : List (Vec ℕ Global)) (text : Vec ℕ Global) (i : ℕ) → length texts ≡ i → length (texts ++ text ∷ []) ≡ i + 1
one_more texts text i many = length-append texts (text ∷ []) ∙ ap (λ n. n + 1) many

pub each_text : (texts : List (Vec ℕ Global)) (names : List (Bor (List ℕ))) → length texts ≡ length names →
    length (map (λ (x : Vec ℕ Global). x.items) texts) ≡ length (map (λ (x : Bor (List ℕ)). x.now) names)
each_text texts names same = length-map texts (λ (x : Vec ℕ Global). x.items) ∙ same ∙ sym (length-map names (λ (x : Bor (List ℕ)). x.now))
