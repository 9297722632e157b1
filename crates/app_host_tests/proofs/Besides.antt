-- An application of this profile beside one of another kind.
use Rattle.std.proofs.Common.{◌≡◌, refl, ap, sym, ◌∙◌, subst, ℕ, zero, suc, ◌==◌, true, if◌then◌else◌, List, [], ◌∷◌, map, replicate, Option, Some, None, Result}
use Rattle.std.specs.Prelude.{option_map, find, slice_index_or, IfSome, IsTrue, OnOk}
use Rattle.std.specs.List.{list_any}
use Rattle.std.specs.Io.KnownBytes.{Appends}
use Rattle.std.proofs.lemmas.Slice.Eq.{bytes_eq-Decides}
use Rattle.lc_model.specs.Name.{is_named, counter_name}
use Rattle.lc_model.specs.Kept.Summary.{CounterState, Other}
use Rattle.lc_model.specs.Kept.Executive.{Pipe, Member}
use Rattle.lc_model.specs.Kept.Stations as model
use Rattle.lc_model.specs.Kept.Stations.{first_host}
use Rattle.app_host.specs.declared.error.WriteFault.{WriteFault}
use Rattle.app_host.specs.Hosted.{Object, Hosted, object_at, member_of, in_numbers}
use Rattle.app_host.specs.Whole.{IsKnown, AreKnown}
use Rattle.app_host.specs.Party.{IsKnownSpare}
use Rattle.app_host.specs.Delivered.{executive_in}
use Rattle.app_host_tests.specs.Beside.{written_from, written_beside}

-- ---- the premises at the beginning

no_seat : (n : ℕ) (seats : List (Option Object)) (seat : ℕ) → map (option_map member_of) seats ≡ replicate n None → object_at seat seats ≡ None
no_seat n [] seat is = refl
no_seat zero (place ∷ seats) seat is = absurd (cc is)
no_seat (suc n) (None ∷ seats) zero is = refl
no_seat (suc n) (None ∷ seats) (suc seat) is = let rest : map (option_map member_of) seats ≡ replicate n None = cc is in no_seat n seats seat rest
no_seat (suc n) (Some o ∷ seats) seat is = let clash : Some (member_of o) ≡ None = cc is in absurd (cc clash)

-- nobody is on a seat
pub known_first : (h : Hosted) (members : List Member) → in_numbers h ≡ first_host members → AreKnown h
known_first h members is = λ seat. subst (λ o. IfSome o IsKnown) (sym (no_seat 8 h.seats seat (ap (λ (x : model.Host (List ℕ)). x.executive.seats) is))) tt

spare_in_front : (stock : List Object) (first : Object) (others : List Member) → map member_of stock ≡ member_of first ∷ others → first.called ≡ counter_name → first.state ≡ CounterState 0 →
    IsKnownSpare (Some counter_name) stock
spare_in_front [] first others is named counts = absurd (cc is)
spare_in_front (o ∷ stock) first others is named counts =
    let same : member_of o ≡ member_of first = cc is in
    let called : counter_name ≡ o.called = sym (ap (λ (m : Member). m.called) same ∙ named) in
    let hit : is_named counter_name o.called ≡ true = (bytes_eq-Decides counter_name o.called).1 called in
    subst (λ b. IfSome (if b then Some o else find (λ (spare : Object). is_named counter_name spare.called) stock) IsKnown) (sym hit)
    (λ other. let clash : CounterState 0 ≡ Other = sym counts ∙ ap (λ (m : Member). m.state) (sym same) ∙ other in absurd (cc clash))

-- the first spare of the counter's name is one
pub spare_first : (h : Hosted) (stock : List Object) (first other : Object) → in_numbers h ≡ first_host (map member_of stock) → stock ≡ first ∷ other ∷ [] → first.called ≡ counter_name →
    first.state ≡ CounterState 0 → IsKnownSpare (Some counter_name) h.stock
spare_first h stock first other is items named counts =
    spare_in_front h.stock first (member_of other ∷ []) (ap (λ (x : model.Host (List ℕ)). x.executive.stock) is ∙ ap (map member_of) items) named counts

-- ---- among others

-- where all on the seats are known, so are those that hear a message id
pub hearers_known : (mid : ℕ) (seats : List (Option Object)) (pipes : List (Option Pipe)) → ((seat : ℕ) → IfSome (object_at seat seats) IsKnown) → (seat : ℕ) →
    IfSome (slice_index_or pipes seat None) (λ (pipe : Pipe). IsTrue (list_any (λ own. mid == own) pipe.subscriptions) → IfSome (object_at seat seats) IsKnown)
hearers_known mid seats pipes known seat = by_pipe (slice_index_or pipes seat None) (object_at seat seats) (known seat)
  where
    by_pipe : (pipe : Option Pipe) (place : Option Object) → IfSome place IsKnown → IfSome pipe (λ (p : Pipe). IsTrue (list_any (λ own. mid == own) p.subscriptions) → IfSome place IsKnown)
    by_pipe None place known = tt
    by_pipe (Some pipe) place known = λ hearing. known

-- ---- from the first host on

pub written_first : (h : Hosted) (stock : List Object) (first other : Object) → in_numbers h ≡ first_host (map member_of stock) → stock ≡ first ∷ other ∷ [] → first.called ≡ counter_name →
    first.state ≡ CounterState 0 → written_from (executive_in h) ≡ written_beside (member_of other)
written_first h stock first other is items named counts =
    ap (λ (x : model.Host (List ℕ)). written_from x.executive) (is ∙ ap (λ (spares : List Object). first_host (map member_of spares)) items)
    ∙ (λ i. written_from (first_host (record { called = named i; state = counts i } ∷ member_of other ∷ [])).executive)

pub as_beside : (h : Hosted) (stock : List Object) (first other : Object) → in_numbers h ≡ first_host (map member_of stock) → stock ≡ first ∷ other ∷ [] → first.called ≡ counter_name →
    first.state ≡ CounterState 0 → (before after : Option (List ℕ)) (result : Result (Unit {0}) WriteFault) → OnOk result (Appends before after (written_from (executive_in h))) →
    OnOk result (Appends before after (written_beside (member_of other)))
as_beside h stock first other is items named counts before after result written =
    subst (λ bytes. OnOk result (Appends before after bytes)) (written_first h stock first other is items named counts) written
