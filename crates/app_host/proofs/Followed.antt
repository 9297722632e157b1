-- The next one took its seat.
use Rattle.std.proofs.Common.{◌≡◌, ap, ap₂, sym, ◌∙◌, subst, ℕ, suc, ◌<◌, List, [], ◌++◌, length, map, take, drop, arith, Option, Some, None, get_or}
use Rattle.std.specs.Prelude.{option_map, All, slice_set}
use Rattle.std.specs.List.{remove}
use Rattle.std.proofs.lemmas.List.{take-map, drop-map, map-append, length-map}
use Rattle.std.proofs.lemmas.List.Elements.{All-append, All-take, All-drop}
use Rattle.lc_model.specs.Kept.Executive.{no_member, spare_at, begun_on, without_spare}
use Rattle.lc_model.specs.Services.Bus.{seen}
use Rattle.app_host.specs.declared.services.Services.{Services}
use Rattle.app_host.specs.declared.succession.Successor.{Successor}
use Rattle.app_host.specs.declared.succession.Successor.TheVariants as successor
use Rattle.app_host.specs.Shared.{on_board, shared}
use Rattle.app_host.specs.Hosted.{Object, Hosted, spare_in, no_object, member_of, objects_in}
use Rattle.app_host.specs.Whole.{AreSeated, AreSpares, AreKnown}
use Rattle.app_host.specs.Roster.{name_of}
use Rattle.app_host.specs.Turn.{HasTaken}
use Rattle.app_host.specs.Delivered.{executive_in, Becomes}
use Rattle.app_host.specs.Ordered.{next_of, Spare, MayBegin, MayFollow, StaysWhole, ObjectHasBegun, HasFollowed}
use Rattle.app_host.proofs.Found.{shown_at, shown_in}

-- ---- one thing after the other

pub stays_then : (a b c : Hosted) → StaysWhole a b → StaysWhole b c → StaysWhole a c
stays_then a b c first second = record {
  is_closed = second.is_closed ∙ first.is_closed;
  calls = second.calls ∙ first.calls;
  moment = second.moment ∙ first.moment;
  seated = second.seated;
  quiet = λ quiet. second.quiet (first.quiet quiet);
  fits = second.fits;
}

-- where only the stock changes
pub stays_so : (old mid : Hosted) → AreSeated old.seats old.services → old.services.outgoing ≡ [] → mid.seats ≡ old.seats → mid.services ≡ old.services → mid.is_closed ≡ old.is_closed → mid.calls ≡ old.calls →
    StaysWhole old mid
stays_so old mid seated idle seats services closed calls = record {
  is_closed = closed;
  calls = calls;
  moment = ap (λ (s : Services). s.moment) services;
  seated = rw (seats, services) seated;
  quiet = λ quiet. rw services quiet;
  fits = let none : length mid.services.outgoing ≡ 0 = ap (λ (s : Services). length s.outgoing) services ∙ ap length idle in omega (arith, none);
}

-- ---- a spare

map_removed : {A B : Type 0} (f : A → B) (xs : List A) (i : ℕ) → map f (remove xs i) ≡ remove (map f xs) i
map_removed f xs i = map-append f (take i xs) (drop (suc i) xs) ∙ ap₂ (λ (front back : List _). front ++ back) (sym (take-map f i xs)) (sym (drop-map f (suc i) xs))

-- the object that left the stock, and the stock without it
pub spare_is : {B : Type 0} (f : B → Object) (xs : List B) (i : ℕ) (x : B) → i < length (map f xs) → x ≡ get_or xs i x → i < length xs → f x ≡ spare_in (map f xs) i
spare_is f xs i x inside is less = sym (shown_at f xs i x no_object less is)

pub stock_is : {B : Type 0} (f : B → Object) (xs ys : List B) (i : ℕ) → ys ≡ remove xs i → map f ys ≡ remove (map f xs) i
stock_is f xs ys i is = ap (map f) is ∙ map_removed f xs i

pub all_removed : {A : Type 0} (P : A → Type 0) (xs : List A) (i : ℕ) → All P xs → All P (remove xs i)
all_removed P xs i all = All-append P (take i xs) (drop (suc i) xs) (All-take P i xs all) (All-drop P (suc i) xs all)

module _ (old mid : Hosted) (place : ℕ) (less : place < length old.stock) (stock : mid.stock ≡ remove old.stock place) (seats : mid.seats ≡ old.seats) (services : mid.services ≡ old.services)
    (closed : mid.is_closed ≡ old.is_closed) (calls : mid.calls ≡ old.calls) where
  -- it may begin
  pub may_begin : (seat : ℕ) (o : Object) → o ≡ spare_in old.stock place → MayBegin seat old (spare_in old.stock place) → MayBegin seat mid o
  may_begin seat o is may = rw is (record { free = rw seats may.free; spare = may.spare; unused = rw seats may.unused })

  -- in numbers
  stock_mid : map member_of mid.stock ≡ remove (map member_of old.stock) place
  stock_mid = ap (map member_of) stock ∙ map_removed member_of old.stock place

  executive_mid : executive_in mid ≡ without_spare place (executive_in old)
  executive_mid = λ i. record {
    stock = stock_mid i;
    seats = map (option_map member_of) (seats i);
    pipes = seen (services i).bus;
    services = shared (services i);
  }

  spare_member : spare_at (map member_of old.stock) place ≡ member_of (spare_in old.stock place)
  spare_member = shown_in member_of old.stock place no_object no_member less

  known_mid : AreKnown old → AreKnown mid
  known_mid known = λ seat. rw seats (known seat)

  pub spare_followed : (seat : ℕ) (o : Object) (new : Hosted) → o ≡ spare_in old.stock place → AreSeated old.seats old.services → old.services.outgoing ≡ [] → AreSpares old.stock → ObjectHasBegun seat o mid new →
      HasFollowed (Spare place seat) old new
  spare_followed seat o new is seated idle spares begun = record {
    whole = stays_then old mid new (stays_so old mid seated idle seats services closed calls) begun.whole;
    spares = rw (begun.stock, stock) (all_removed (λ (spare : Object). spare.seat ≡ None) old.stock place spares);
    own = record {
      host = begun.own.host ∙ ap (λ (s : Services). s.events.host) services;
      files = begun.own.files ∙ ap (λ (s : Services). s.tables.files) services;
      roster = begun.own.roster ∙ (λ i. record { stock = stock i; seats = slice_set (map (option_map name_of) (seats i)) seat (Some (is i).called) });
    };
    known = λ known its_own. begun.known (known_mid known) (rw is its_own);
    exact = λ its_own. subst (Becomes new) step_is (begun.exact (rw is its_own));
    came = subst (λ (x : Services × Object × List (Option Object)). HasTaken seat x.0 new.services x.1 x.2 new.seats) (λ i. (services i, is i, seats i)) begun.taken;
  }
    where
      step_is : begun_on on_board mid.services.moment seat (member_of o) (executive_in mid)
          ≡ begun_on on_board old.services.moment seat (spare_at (map member_of old.stock) place) (without_spare place (executive_in old))
      step_is = λ i. begun_on on_board (services i).moment seat ((ap member_of is ∙ sym spare_member) i) (executive_mid i)

-- by what was taken out of a list of boxes
module _ {B : Type 0} (meaning : B → Object) where
  pub spare_came : (xs ys : List B) (x : B) (old mid new : Hosted) (place seat : ℕ) (next : Successor B) → next ≡ successor.Spare place seat →
      MayFollow old (next_of meaning next) → old.stock ≡ objects_in meaning xs → mid.stock ≡ objects_in meaning ys → x ≡ get_or xs place x → ys ≡ remove xs place → mid.seats ≡ old.seats → mid.services ≡ old.services →
      mid.is_closed ≡ old.is_closed → mid.calls ≡ old.calls → AreSeated old.seats old.services → old.services.outgoing ≡ [] → AreSpares old.stock → ObjectHasBegun seat (meaning x) mid new →
      HasFollowed (next_of meaning next) old new
  spare_came xs ys x old mid new place seat next is may stock stock' at rest seats services closed calls seated idle spares begun =
      let so : MayFollow old (Spare place seat) = subst (λ (n : Successor B). MayFollow old (next_of meaning n)) is may in
      let inside : place < length (objects_in meaning xs) = subst (λ (objects : List Object). place < length objects) stock so.0 in
      let spare : meaning x ≡ spare_in old.stock place = spare_is meaning xs place x inside at (subst (λ n. place < n) (length-map xs meaning) inside) ∙ ap (λ (objects : List Object). spare_in objects place) (sym stock) in
      let left : mid.stock ≡ remove old.stock place = stock' ∙ stock_is meaning xs ys place rest ∙ ap (λ (objects : List Object). remove objects place) (sym stock) in
      subst (λ (n : Successor B). HasFollowed (next_of meaning n) old new) (sym is)
      (spare_followed old mid place so.0 left seats services closed calls seat (meaning x) new spare seated idle spares begun)

  -- the spare that was taken out may begin
  pub spare_may : (xs : List B) (x : B) (old mid : Hosted) (place seat : ℕ) (next : Successor B) → next ≡ successor.Spare place seat → MayFollow old (next_of meaning next) → old.stock ≡ objects_in meaning xs →
      x ≡ get_or xs place x → mid.seats ≡ old.seats → mid.services ≡ old.services → MayBegin seat mid (meaning x)
  spare_may xs x old mid place seat next is may stock at seats services =
      let so : MayFollow old (Spare place seat) = subst (λ (n : Successor B). MayFollow old (next_of meaning n)) is may in
      let inside : place < length (objects_in meaning xs) = subst (λ (objects : List Object). place < length objects) stock so.0 in
      let spare : meaning x ≡ spare_in old.stock place = spare_is meaning xs place x inside at (subst (λ n. place < n) (length-map xs meaning) inside) ∙ ap (λ (objects : List Object). spare_in objects place) (sym stock) in
      rw spare (record { free = rw seats so.1.free; spare = so.1.spare; unused = rw seats so.1.unused })

  -- the one that comes again
  pub same_came : (app : B) (old new : Hosted) (seat : ℕ) (next : Successor B) → next ≡ successor.Same app seat → AreSpares old.stock → ObjectHasBegun seat (meaning app) old new → HasFollowed (next_of meaning next) old new
  same_came app old new seat next is spares begun =
      subst (λ (n : Successor B). HasFollowed (next_of meaning n) old new) (sym is)
      (record {
        whole = begun.whole;
        spares = rw begun.stock spares;
        own = begun.own;
        known = begun.known;
        exact = begun.exact;
        came = begun.taken;
      })
