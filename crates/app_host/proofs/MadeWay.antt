-- An order over who is where is begun.
use Rattle.std.proofs.Common.{◌≡◌, refl, ap, sym, ◌∙◌, ℕ, ◌<◌, false, List, length, map, Option, Some, None, Result, Ok}
use Rattle.std.specs.Prelude.{IfSome, IsSomeAnd, option_map, is_some, if◌then◌else◌, slice_set}
use Rattle.std.proofs.lemmas.List.{map-set, set-set, set-get_or}
use Rattle.lc_model.specs.Name.{Name}
use Rattle.lc_model.specs.Refusal.{Refusal, ◌>>=◌, refused, found}
use Rattle.lc_model.specs.Command.{Start, Stop, Restart, Reload}
use Rattle.lc_model.specs.Kept.Executive.{Member}
use Rattle.app_host.specs.declared.services.Services.{Services}
use Rattle.app_host.specs.Hosted.{Object, Hosted, object_at, spare_in, member_of}
use Rattle.app_host.specs.Objects.{HasRetired}
use Rattle.app_host.specs.Whole.{IsWhole}
use Rattle.app_host.specs.Left.{HasGone}
use Rattle.app_host.specs.Roster.{Roster, Succession, ComesTo, name_of, roster_of, seat_in, first_spare_in, free_in, with_seat, with_spare, FromStock, NobodyComes, Again, ordered_by}
use Rattle.app_host.specs.Ordered.{Nobody, Spare, Same, HasWithdrawn, HasMadeWay}
use Rattle.app_host.proofs.Found.{shown_in}
use Rattle.app_host.proofs.Prepared.{RunsAt}

-- what a retirement leaves alone
retired_keeps : (seat : ℕ) (before after : Services) (gone : Object) (place : Option Object) → IsSomeAnd place (λ (there : Object). HasRetired seat before after there gone) →
    (after.events.host ≡ before.events.host) × (after.tables.files ≡ before.tables.files)
retired_keeps seat before after gone None retired = absurd retired
retired_keeps seat before after gone (Some there) retired = (retired.rules.call.others.host, retired.rules.call.others.files)

-- ---- a start

module _ (Gone : ℕ → Type 0) (h : Hosted) (name : Name) where
  abbrev r : Roster
  r = roster_of h

  abbrev started_by : Option ℕ → Option ℕ → Option ℕ → Result Succession Refusal
  started_by s i k =
      if is_some s then refused 123
      else (found i 122 >>= (λ place. found k 124 >>= (λ seat. Ok (record { leaves = None; comes = FromStock place seat; left = r; come = with_spare place seat r }))))

  none_there : (s : Option ℕ) → is_some s ≡ false → s ≡ None
  none_there None is = refl
  none_there (Some k) is = cc

  pub start_made : (s i k : Option ℕ) → s ≡ seat_in name r → is_some s ≡ false → i ≡ first_spare_in name r → k ≡ free_in r → (place seat : ℕ) → i ≡ Some place → k ≡ Some seat →
      HasMadeWay Gone (ordered_by Start name r) h h (Spare place seat)
  start_made s i k searched nowhere spares free place seat there at = record {
    succession = record { leaves = None; comes = FromStock place seat; left = r; come = with_spare place seat r };
    is = λ j. started_by ((sym searched ∙ none_there s nowhere) j) ((sym spares ∙ there) j) ((sym free ∙ at) j);
    left = record { host = refl; files = refl; roster = refl };
    come = refl;
    gone = tt;
    box = tt;
    comes = refl;
    object = None;
    left_as = (refl, refl);
    again = tt;
    stock = refl;
    seats = refl;
  }

-- ---- a stop, a restart and a reload

module _ (Gone : ℕ → Type 0) (h new : Hosted) (name : Name) (k : ℕ) (gone : Object) (left : HasWithdrawn k h new gone) (box : Gone k) (s : Option ℕ) (searched : s ≡ seat_in name (roster_of h)) (there : s ≡ Some k) where
  abbrev old : Roster
  old = roster_of h

  abbrev without : Roster
  without = with_seat k None old

  left_so : roster_of new ≡ without
  left_so = λ i. record { stock = left.stock i; seats = (ap (map (option_map name_of)) left.seats ∙ map-set (option_map name_of) h.seats k None) i }

  comes_to : ComesTo without h new
  comes_to =
      let keeps = retired_keeps k h.services new.services gone (object_at k h.seats) left.retired in
      record { host = keeps.0; files = keeps.1; roster = left_so }

  has_gone : HasGone k h.seats h.services
  has_gone = record { after = new.services; gone = gone; retired = left.retired }

  pub stop_made : HasMadeWay Gone (ordered_by Stop name old) h new Nobody
  stop_made = record {
    succession = record { leaves = Some k; comes = NobodyComes; left = without; come = without };
    is = ap (λ (s : Option ℕ). found s 121 >>= (λ seat. Ok (record { leaves = Some seat; comes = NobodyComes; left = with_seat seat None old; come = with_seat seat None old }))) (sym searched ∙ there);
    left = comes_to;
    come = left_so;
    gone = has_gone;
    box = box;
    comes = refl;
    object = Some gone;
    left_as = left.retired;
    again = tt;
    stock = left.stock;
    seats = left.seats;
  }

  pub restart_made : (names : List (Option Name)) → names ≡ old.seats → slice_set names k (Some gone.called) ≡ names → HasMadeWay Gone (ordered_by Restart name old) h new (Same gone k)
  restart_made names are again = record {
    succession = record { leaves = Some k; comes = Again k; left = without; come = old };
    is = ap (λ (s : Option ℕ). found s 121 >>= (λ seat. Ok (record { leaves = Some seat; comes = Again seat; left = with_seat seat None old; come = old }))) (sym searched ∙ there);
    left = comes_to;
    come = ap (with_seat k (Some gone.called)) left_so
        ∙ (λ i. record { stock = h.stock; seats = (set-set old.seats k None (Some gone.called) ∙ (λ j. slice_set (sym are j) k (Some gone.called)) ∙ again ∙ are) i });
    gone = has_gone;
    box = box;
    comes = refl;
    object = Some gone;
    left_as = left.retired;
    again = refl;
    stock = left.stock;
    seats = left.seats;
  }

  pub reload_made : (i : Option ℕ) (place : ℕ) → i ≡ first_spare_in name old → i ≡ Some place → HasMadeWay Gone (ordered_by Reload name old) h new (Spare place k)
  reload_made i place spares at = record {
    succession = record { leaves = Some k; comes = FromStock place k; left = without; come = with_spare place k old };
    is = λ j. found ((sym searched ∙ there) j) 121
        >>= (λ seat. found ((sym spares ∙ at) j) 122 >>= (λ place. Ok (record { leaves = Some seat; comes = FromStock place seat; left = with_seat seat None old; come = with_spare place seat old })));
    left = comes_to;
    come = ap (with_spare place k) left_so
        ∙ (λ j. record (with_spare place k old) { seats = set-set old.seats k None (Some (spare_in h.stock place).called) j });
    gone = has_gone;
    box = box;
    comes = refl;
    object = Some gone;
    left_as = left.retired;
    again = tt;
    stock = left.stock;
    seats = left.seats;
  }

-- the name on the seat of an object that was there
pub named_there : (seats : List (Option Object)) (k : ℕ) (o : Object) → k < length seats → object_at k seats ≡ Some o → slice_set (map (option_map name_of) seats) k (Some o.called) ≡ map (option_map name_of) seats
named_there seats k o inside at =
    ap (slice_set (map (option_map name_of) seats) k) (ap (option_map name_of) (sym at) ∙ sym (shown_in (option_map name_of) seats k None None inside))
    ∙ set-get_or (map (option_map name_of) seats) k None

pub restarted : (Gone : ℕ → Type 0) (h new : Hosted) (name : Name) (whole : IsWhole h) (k : ℕ) (gone : Object) (left : HasWithdrawn k h new gone) → Gone k → (s : Option ℕ) → s ≡ seat_in name (roster_of h) → s ≡ Some k → RunsAt h name whole k →
    HasMadeWay Gone (ordered_by Restart name (roster_of h)) h new (Same gone k)
restarted Gone h new name whole k gone left box s searched there runs =
    restart_made Gone h new name k gone left box s searched there (map (option_map name_of) h.seats) refl
    (ap (λ n. slice_set (map (option_map name_of) h.seats) k (Some n)) (by_place (object_at k h.seats) runs.at left.was) ∙ named_there h.seats k runs.o runs.inside runs.at)
  where
    by_place : (place : Option Object) → place ≡ Some runs.o → IfSome place (λ (there : Object). member_of there ≡ member_of gone) → gone.called ≡ runs.o.called
    by_place None at was = cc
    by_place (Some there) at was = let same : there ≡ runs.o = cc in ap (λ (m : Member). m.called) (sym was) ∙ ap (λ (o : Object). o.called) same
