-- Where calls on files stop.
use Rattle.std.proofs.Common.{◌≡◌, ◌∙◌, refl, sym, ap, ℕ, ◌+◌, ◌<◌, ◌≤◌, true, false, List, [], ◌∷◌, ◌++◌, map, take, drop, get_or, length, Option, Some, None, Bor, Vec, Global, arith, append_assoc, subst, Result, Ok, Err, IfErr, IsErrAnd}
use Rattle.std.proofs.lemmas.List.{map-append}
use Rattle.program_io.specs.declared.error.FileError.{FileError}
use Rattle.program_io.specs.declared.error.FileError.TheVariants.{Memory, Unusable}
use Rattle.program_io.specs.declared.why.Why.{Why}
use Rattle.program_io.specs.FileCall.{FileCall, Reads, Compares, Writes, all_apart, all_read, asked, followed_by}
use Rattle.program_io.specs.Stops.{EndsWith, IsErrorOf, IsOfFile, StopsIn, longest_text}
use Rattle.program_io.proofs.Calls.{as_many, asked_apart, asked_read, calls_around, calls_split, then_more}

-- the exit of a `?`
pub passes : {T F : Type 0} (P : F → Type 0) (r : Result T F) (fault : F) → IsErrAnd r (λ y. y ≡ fault) → P fault → IfErr r P
passes P (Ok x) fault h p = absurd h
passes P (Err y) fault h p = subst P (sym h) p

-- ---- the last call of more calls

pub ends_later : (P : FileCall → Type 0) (a calls : List FileCall) → EndsWith P calls → EndsWith P (a ++ calls)
ends_later P a calls ends = record { done = a ++ ends.done; last = ends.last; is = ap (λ x. a ++ x) ends.is ∙ sym (append_assoc a ends.done (ends.last ∷ [])); so = ends.so }

pub error_later : (a calls : List FileCall) (error : FileError) → IsErrorOf calls error → IsErrorOf (a ++ calls) error
error_later a calls Memory ends = ends
error_later a calls (Unusable name why) ends = ends_later _ a calls ends

-- in an order whose first calls were made, and which goes on
pub faults_later : (F : Type 0) (IsFaultOf : List FileCall → F → Type 0) → ((a calls : List FileCall) (fault : F) → IsFaultOf calls fault → IsFaultOf (a ++ calls) fault) →
    (whole order tail done : List FileCall) (before mid now : Option (List FileCall)) (fault : F) → whole ≡ map asked done ++ (order ++ tail) → mid ≡ followed_by before done →
    StopsIn F IsFaultOf order mid now fault → StopsIn F IsFaultOf whole before now fault
faults_later F IsFaultOf later whole order tail done before mid now fault same e stops = record {
  calls = done ++ stops.calls;
  rest = stops.rest ++ tail;
  made = then_more before mid now done stops.calls e stops.made;
  in_order = same ∙ ap (λ x. map asked done ++ (x ++ tail)) stops.in_order ∙ ap (λ x. map asked done ++ x) (append_assoc (map asked stops.calls) stops.rest tail)
      ∙ sym (append_assoc (map asked done) (map asked stops.calls) (stops.rest ++ tail)) ∙ ap (λ x. x ++ (stops.rest ++ tail)) (sym (map-append asked done stops.calls));
  fault_is = later done stops.calls fault stops.fault_is;
}

pub stops_later : (whole order tail done : List FileCall) (before mid now : Option (List FileCall)) (error : FileError) → whole ≡ map asked done ++ (order ++ tail) → mid ≡ followed_by before done →
    StopsIn FileError IsErrorOf order mid now error → StopsIn FileError IsErrorOf whole before now error
stops_later whole order tail done before mid now error same e stops = faults_later FileError IsErrorOf error_later whole order tail done before mid now error same e stops

-- ---- one call

abbrev one : (call : FileCall) (before now : Option (List FileCall)) (error : FileError) → now ≡ followed_by before (call ∷ []) → IsErrorOf (call ∷ []) error → StopsIn FileError IsErrorOf (asked call ∷ []) before now error
one call before now error e is = record { calls = call ∷ []; rest = []; made = e; in_order = refl; fault_is = is }

abbrev pub last_of : (P : FileCall → Type 0) (call : FileCall) → P call → EndsWith P (call ∷ [])
last_of P call so = record { done = []; last = call; is = refl; so = so }

pub read_stops : (name : List ℕ) (before now : Option (List FileCall)) (error : FileError) → now ≡ followed_by before (Reads name None ∷ []) → IsOfFile name error → StopsIn FileError IsErrorOf (Reads name None ∷ []) before now error
read_stops name before now Memory e of = one (Reads name None) before now Memory e of
read_stops name before now (Unusable other why) e of = one (Reads name None) before now (Unusable other why) e (last_of _ _ (sym of))

pub write_stops : (name bytes : List ℕ) (before now : Option (List FileCall)) (error : FileError) → now ≡ followed_by before (Writes name bytes false ∷ []) → IsOfFile name error →
    StopsIn FileError IsErrorOf (Writes name [] false ∷ []) before now error
write_stops name bytes before now Memory e of = one (Writes name bytes false) before now Memory e of
write_stops name bytes before now (Unusable other why) e of = one (Writes name bytes false) before now (Unusable other why) e (last_of _ _ (sym of, refl))

-- a text that is too long
pub long_stops : (name : Bor (List ℕ)) (why : Why) (text : List ℕ) (before now : Option (List FileCall)) → now ≡ followed_by before (Reads name.now (Some text) ∷ []) → longest_text < length text →
    StopsIn FileError IsErrorOf (Reads name.now None ∷ []) before now (Unusable name why)
long_stops name why text before now e long = one (Reads name.now (Some text)) before now (Unusable name why) e (last_of _ _ (refl, long))

-- a name that is of another's file
pub apart_stops : (name : Bor (List ℕ)) (why : Why) (other : List ℕ) (before now : Option (List FileCall)) → now ≡ followed_by before (Compares name.now other true ∷ []) → StopsIn FileError IsErrorOf (Compares name.now other false ∷ []) before now (Unusable name why)
apart_stops name why other before now e = one (Compares name.now other true) before now (Unusable name why) e (last_of _ _ (refl, refl))

-- a name that is of the file of one of these
pub one_of_these_stops : (name : Bor (List ℕ)) (why : Why) (xs : List (Bor (List ℕ))) (i : ℕ) (none item : Bor (List ℕ)) (before mid now : Option (List FileCall)) → i < length xs → get_or xs i none ≡ item →
    mid ≡ followed_by before (all_apart name.now (map (λ (x : Bor (List ℕ)). x.now) (take i xs))) → now ≡ followed_by mid (Compares name.now item.now true ∷ []) →
    StopsIn FileError IsErrorOf (all_apart name.now (map (λ (x : Bor (List ℕ)). x.now) xs)) before now (Unusable name why)
one_of_these_stops name why xs i none item before mid now less at e f =
    let these = map (λ (x : Bor (List ℕ)). x.now) (take i xs) in
    let rest = all_apart name.now (map (λ (x : Bor (List ℕ)). x.now) (drop (i + 1) xs)) in
    stops_later (all_apart name.now (map (λ (x : Bor (List ℕ)). x.now) xs)) (Compares name.now item.now false ∷ []) rest (all_apart name.now these) before mid now (Unusable name why)
    (calls_around (λ other. Compares name.now other false) xs i none item less at ∙ ap (λ x. x ++ (Compares name.now item.now false ∷ [] ++ rest)) (sym (asked_apart name.now these))) e (apart_stops name why item.now mid now f)

-- ---- the texts of files

-- one of these can't be read
pub text_of_these_stops : (names : List (Bor (List ℕ))) (i : ℕ) (none name : Bor (List ℕ)) (texts : List (Vec ℕ Global)) (before mid now : Option (List FileCall)) (error : FileError) →
    i < length names → get_or names i none ≡ name → length texts ≡ i →
    mid ≡ followed_by before (all_read (map (λ (x : Bor (List ℕ)). x.now) (take i names)) (map (λ (x : Vec ℕ Global). x.items) texts)) →
    now ≡ followed_by mid (Reads name.now None ∷ []) → IsOfFile name.now error → StopsIn FileError IsErrorOf (map (λ name. Reads name None) (map (λ (x : Bor (List ℕ)). x.now) names)) before now error
text_of_these_stops names i none name texts before mid now error less at many e f of =
    let so_far = map (λ (x : Bor (List ℕ)). x.now) (take i names) in
    let bytes = map (λ (x : Vec ℕ Global). x.items) texts in
    let rest = map (λ name. Reads name None) (map (λ (x : Bor (List ℕ)). x.now) (drop (i + 1) names)) in
    stops_later (map (λ name. Reads name None) (map (λ (x : Bor (List ℕ)). x.now) names)) (Reads name.now None ∷ []) rest (all_read so_far bytes) before mid now error
    (calls_around (λ name. Reads name None) names i none name less at ∙ ap (λ x. x ++ (Reads name.now None ∷ [] ++ rest)) (sym (asked_read so_far bytes (as_many names i texts (omega arith) many)))) e
    (read_stops name.now mid now error f of)

-- there is no memory for so many
pub no_room_stops : (names : List (Bor (List ℕ))) (i : ℕ) (texts : List (Vec ℕ Global)) (before now : Option (List FileCall)) → i ≤ length names → length texts ≡ i →
    now ≡ followed_by before (all_read (map (λ (x : Bor (List ℕ)). x.now) (take i names)) (map (λ (x : Vec ℕ Global). x.items) texts)) →
    StopsIn FileError IsErrorOf (map (λ name. Reads name None) (map (λ (x : Bor (List ℕ)). x.now) names)) before now Memory
no_room_stops names i texts before now fits many e =
    let so_far = map (λ (x : Bor (List ℕ)). x.now) (take i names) in
    let bytes = map (λ (x : Vec ℕ Global). x.items) texts in
    let rest = map (λ name. Reads name None) (map (λ (x : Bor (List ℕ)). x.now) (drop i names)) in
    record {
      calls = all_read so_far bytes;
      rest = rest;
      made = e;
      fault_is = tt;
      in_order = calls_split (λ name. Reads name None) names i ∙ ap (λ x. x ++ rest) (sym (asked_read so_far bytes (as_many names i texts fits many)));
    }
