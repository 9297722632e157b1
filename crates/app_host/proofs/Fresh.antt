-- A new host.
use Rattle.std.proofs.Common.{◌≡◌, refl, ap, sym, ◌∙◌, subst, ℕ, Bool, true, false, ◌==◌, List, [], ◌∷◌, map, replicate, if◌then◌else◌, Option, Some, None}
use Rattle.std.specs.Prelude.{IfSome, slice_index_or}
use Rattle.lc_model.specs.Packet.{event_mid}
use Rattle.lc_model.specs.Kept.Executive.{first_executive}
use Rattle.lc_model.specs.Kept.Stations.{first_host}
use Rattle.lc_model.specs.Services.Bus.{no_pipes, pipe_at, seen}
use Rattle.lc_model.specs.Services.Events.{counts_with, first_events, sender_at}
use Rattle.lc_model.specs.Services.Tables.{TableService, first_tables, tables_at}
use Rattle.lc_model.specs.Services.Interface.{IsFreeSeat}
use Rattle.lc_model.specs.Services.Seen.{services_seen, count_among}
use Rattle.lc_model.proofs.Facts.{same_at}
use Rattle.app_host.specs.declared.services.Services.{Services}
use Rattle.app_host.specs.Shared.{held_by, shared}
use Rattle.app_host.specs.Hosted.{Object, Hosted, object_at, member_of, in_numbers}
use Rattle.app_host.specs.Whole.{IsRunning, AreSpares, IsWhole, name_at}

-- eight free seats
abbrev pub no_objects : List (Option Object)
no_objects = None ∷ None ∷ None ∷ None ∷ None ∷ None ∷ None ∷ None ∷ []

nobody : (seat : ℕ) → object_at seat no_objects ≡ None
nobody seat = same_at 8 seat None

no_counts : (n mid : ℕ) → counts_with 0 (count_among (replicate n 0)) mid ≡ 0
no_counts n mid = by_test (mid == event_mid)
  where
    by_test : (b : Bool) → ◌≡◌ {A = ℕ} (if b then 0 else slice_index_or (replicate n 0) mid 0) 0
    by_test true = refl
    by_test false = same_at n mid 0

module _ (stock : List Object) (s : Services) (n : ℕ) (bus : s.bus ≡ no_pipes) (events : s.events ≡ first_events) (tables : s.tables ≡ first_tables) (counts : s.counts ≡ replicate n 0) where
  -- the host that has these
  abbrev pub fresh : Hosted
  fresh = record { stock = stock; seats = no_objects; services = s; is_closed = false; calls = 0 }

  first_shared : shared s ≡ (first_executive {Image = List ℕ} (map member_of stock)).services
  unfolding shared
  first_shared =
      (λ i. services_seen (events i) (tables i) (counts i))
      ∙ (λ i. record {
        files = (first_executive {Image = List ℕ} (map member_of stock)).services.files;
        slots = (first_executive {Image = List ℕ} (map member_of stock)).services.slots;
        events = (first_executive {Image = List ℕ} (map member_of stock)).services.events;
        counts = λ mid. no_counts n mid i;
      })

  pub first_numbers : in_numbers fresh ≡ first_host (map member_of stock)
  first_numbers = λ i. record {
    executive = record { stock = map member_of stock; seats = None ∷ None ∷ None ∷ None ∷ None ∷ None ∷ None ∷ None ∷ []; pipes = seen (bus i); services = first_shared i };
    is_closed = false;
    calls = 0;
  }

  all_free : (seat : ℕ) → IsFreeSeat seat (held_by s)
  all_free seat = record {
    pipe = ap (pipe_at seat) bus ∙ same_at 8 seat None;
    sender = ap (sender_at (Some seat)) events ∙ same_at 8 seat None;
    tables = ap (λ (t : TableService). tables_at seat t.places) tables ∙ same_at 8 seat [];
  }

  pub first_whole : AreSpares stock → s.outgoing ≡ [] → IsWhole fresh
  first_whole spares idle = record {
    seated = record {
      eight = refl;
      running = λ seat. subst (λ (o : Option Object). IfSome o (IsRunning s seat)) (sym (nobody seat)) tt;
      free = λ seat none. all_free seat;
      own = λ name j k at_j at_k. absurd (nothing j name at_j);
    };
    spares = spares;
    idle = idle;
  }
    where
      nothing : (j : ℕ) (name : List ℕ) → name_at j no_objects ≡ Some name → ⊥
      nothing j name at = let none : object_at j no_objects ≡ None = nobody j in cc
