-- Who is where, by names.
use Rattle.std.proofs.Common.{◌≡◌, refl, ap, ap₂, sym, ◌∙◌, ℕ, ◌+◌, Bool, cond, List, [], ◌∷◌, map, Option, Some, None}
use Rattle.std.specs.Prelude.{option_map, is_none, slice_set, All, Contains}
use Rattle.std.specs.List.{position_from}
use Rattle.std.proofs.lemmas.List.Elements.{All-contains_itself}
use Rattle.std.proofs.Math.Seq.{map-set_same}
use Rattle.lc_model.specs.Name.{Name, is_named}
use Rattle.lc_model.specs.Kept.Executive.{is_called, is_seated, seat_of, spare_of, free_seat}
use Rattle.app_host.specs.Hosted.{Object, Hosted, object_at, member_of}
use Rattle.app_host.specs.Writing.{IsFlushed}
use Rattle.app_host.specs.Roster.{name_of, roster_of, has_name}
use Rattle.app_host.proofs.Found.{through}

-- who is where, by the same stock and the same names
pub same_roster : (old new : Hosted) → new.stock ≡ old.stock → map (option_map name_of) new.seats ≡ map (option_map name_of) old.seats → roster_of new ≡ roster_of old
same_roster old new stock seats = λ i. record { stock = stock i; seats = seats i }

pub roster_still : (old new : Hosted) → IsFlushed old new → roster_of new ≡ roster_of old
roster_still old new flushed = same_roster old new flushed.stock (ap (map (option_map name_of)) flushed.seats)

-- no spare is new
pub still_among : (old new : Hosted) → new.stock ≡ old.stock → All (Contains old.stock) new.stock
still_among old new same = rw same (All-contains_itself old.stock)

-- an object that is replaced by one of its name
pub names_still : (old new : Hosted) (seat : ℕ) (o o' : Object) → object_at seat old.seats ≡ Some o → o'.called ≡ o.called → new.seats ≡ slice_set old.seats seat (Some o') →
    map (option_map name_of) new.seats ≡ map (option_map name_of) old.seats
names_still old new seat o o' at name seats =
    ap (map (option_map name_of)) seats ∙ map-set_same (option_map name_of) old.seats seat (Some o') None (ap Some name ∙ ap (option_map name_of) (sym at))

-- ---- where a name is

alike : {A B C : Type 0} (f : A → B) (g : A → C) (p : B → Bool) (q : C → Bool) → ((x : A) → p (f x) ≡ q (g x)) → (from : ℕ) (xs : List A) → position_from p from (map f xs) ≡ position_from q from (map g xs)
alike f g p q same from [] = refl
alike f g p q same from (x ∷ xs) = ap₂ (λ b (r : Option ℕ). cond b (Some from) r) (same x) (alike f g p q same (from + 1) xs)

same_seat : (name : Name) (place : Option Object) → is_seated name (option_map member_of place) ≡ has_name name (option_map name_of place)
same_seat name None = refl
same_seat name (Some o) = refl

same_free : (place : Option Object) → is_none (option_map member_of place) ≡ is_none (option_map name_of place)
same_free None = refl
same_free (Some o) = refl

pub seat_by_name : (name : Name) (seats : List (Option Object)) → seat_of name (map (option_map member_of) seats) ≡ position_from (has_name name) 0 (map (option_map name_of) seats)
seat_by_name name seats = alike (option_map member_of) (option_map name_of) (is_seated name) (has_name name) (same_seat name) 0 seats

pub spare_by_name : (name : Name) (stock : List Object) → spare_of name (map member_of stock) ≡ position_from (λ (o : Object). is_named name o.called) 0 stock
spare_by_name name stock = through member_of (is_called name) 0 stock

pub free_by_name : (seats : List (Option Object)) → free_seat (map (option_map member_of) seats) ≡ position_from is_none 0 (map (option_map name_of) seats)
free_by_name seats = alike (option_map member_of) (option_map name_of) is_none is_none same_free 0 seats
