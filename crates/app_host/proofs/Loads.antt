-- What waits becomes less with each delivery.
use Rattle.std.proofs.Common.{◌≡◌, ◌≢◌, ◌⊎◌, inl, inr, refl, ap, sym, ◌∙◌, ℕ, suc, ◌+◌, ◌*◌, ◌<◌, ◌≤◌, ◌==◌, Bool, true, false, List, [], ◌∷◌, ◌++◌, length, filter, count_by, arith, if◌then◌else◌, Option, Some, None, length-append}
use Rattle.std.specs.Prelude.{IfSome, option_map, slice_index_or, slice_set}
use Rattle.std.specs.List.{AllByRecursion, sum_by}
use Rattle.std.proofs.lemmas.List.{get_or-set_same, get_or-set_other, length-set}
use Rattle.std.proofs.lemmas.List.Sums.{sum_by-cons, sum_by-set, sum_by-append, length-filter, count_by-le-length}
use Rattle.lc_model.specs.Packet.{message_id, tick_mid}
use Rattle.lc_model.specs.Kept.Executive.{Pipe, hears}
use Rattle.lc_model.specs.Services.Interface.{MayPublish, IsPartOf, IsOwnPipe, waiting_in}
use Rattle.app_host.specs.Load.{is_tick, packets_in, ticks_in, weight_of, all_ticks, load, IsLight}

-- ---- sums

sum_at_most : {A : Type 0} (f : A → ℕ) (xs ys : List A) (d : A) (n : ℕ) → length xs ≡ length ys → ((i : ℕ) → f (slice_index_or xs i d) ≤ f (slice_index_or ys i d) + n) →
    sum_by f xs ≤ sum_by f ys + length ys * n
sum_at_most f [] [] d n same each = omega arith
sum_at_most f [] (y ∷ ys) d n same each = absurd (omega (arith, same))
sum_at_most f (x ∷ xs) [] d n same each = absurd (omega (arith, same))
sum_at_most f (x ∷ xs) (y ∷ ys) d n same each =
    let rest : sum_by f xs ≤ sum_by f ys + length ys * n = sum_at_most f xs ys d n (omega (arith, same)) (λ i. each (suc i)) in
    let first : f x ≤ f y + n = each 0 in
    grind (arith, rest, first, sum_by-cons f x xs, sum_by-cons f y ys)

-- ---- ticks among packets

abbrev tick_number : List ℕ → ℕ
tick_number packet = if is_tick packet then 1 else 0

no_tick : (packet : List ℕ) → message_id packet ≢ tick_mid → is_tick packet ≡ false
no_tick packet other = grind (arith, other)

pub no_ticks_in : (packets : List (List ℕ)) → AllByRecursion (λ (other : List ℕ). message_id other ≢ tick_mid) packets → count_by is_tick packets ≡ 0
no_ticks_in [] none = refl
no_ticks_in (packet ∷ packets) none =
    let rest : count_by is_tick packets ≡ 0 = no_ticks_in packets none.1 in
    let one : tick_number packet ≡ 0 = ap (λ (b : Bool). if b then 1 else 0) (no_tick packet none.0) in
    omega (arith, sum_by-cons tick_number packet packets, rest, one)

no_ticks_heard : (test : List ℕ → Bool) (packets : List (List ℕ)) → AllByRecursion (λ (other : List ℕ). message_id other ≢ tick_mid) packets → count_by is_tick (filter test packets) ≡ 0
no_ticks_heard test [] none = refl
no_ticks_heard test (packet ∷ packets) none = by_test (test packet) (no_ticks_heard test packets none.1)
  where
    by_test : (b : Bool) → count_by is_tick (filter test packets) ≡ 0 → count_by is_tick (if b then packet ∷ filter test packets else filter test packets) ≡ 0
    by_test true rest =
        let one : tick_number packet ≡ 0 = ap (λ (b : Bool). if b then 1 else 0) (no_tick packet none.0) in
        omega (arith, sum_by-cons tick_number packet (filter test packets), rest, one)
    by_test false rest = rest

ticks_append : (xs ys : List (List ℕ)) → count_by is_tick (xs ++ ys) ≡ count_by is_tick xs + count_by is_tick ys
ticks_append xs ys = sum_by-append tick_number xs ys

ticks_cons : (packet : List ℕ) (packets : List (List ℕ)) → count_by is_tick (packet ∷ packets) ≡ tick_number packet + count_by is_tick packets
ticks_cons packet packets = sum_by-cons tick_number packet packets

-- ---- one pipe more

-- a pipe has at most so many packets more, and no ticks more
record IsFew (old new : Option Pipe) (more : ℕ) : Type 0 where
  packets : packets_in new ≤ packets_in old + more
  ticks : ticks_in new ≤ ticks_in old

few_weight : (old new : Option Pipe) (more : ℕ) → IsFew old new more → weight_of new ≤ weight_of old + more
few_weight old new more few = omega (arith, few.packets, few.ticks)

few_heard : (published : List (List ℕ)) → AllByRecursion (λ (other : List ℕ). message_id other ≢ tick_mid) published → (old : Option Pipe) →
    IsFew old (option_map (λ (pipe : Pipe). record pipe { waiting = pipe.waiting ++ filter (λ packet. hears packet pipe) published }) old) (length published)
few_heard published none None = record { packets = omega arith; ticks = omega arith }
few_heard published none (Some pipe) =
    let heard : List (List ℕ) = filter (λ packet. hears packet pipe) published in
    record {
      packets = omega (arith, length-append pipe.waiting heard, length-filter (λ packet. hears packet pipe) published, count_by-le-length (λ packet. hears packet pipe) published);
      ticks = omega (arith, ticks_append pipe.waiting heard, no_ticks_heard (λ packet. hears packet pipe) published none);
    }

-- a part is no longer than the whole
part_fits : (part all : List (List ℕ)) → IsPartOf part all → length part ≤ length all
part_fits [] all is = omega arith
part_fits (packet ∷ part) [] is = absurd is
part_fits (packet ∷ part) (first ∷ all) (inl (same, is)) = omega (arith, part_fits part all is)
part_fits (packet ∷ part) (first ∷ all) (inr is) = omega (arith, part_fits (packet ∷ part) all is)

-- it has no more ticks either
fewer_ticks : (part all : List (List ℕ)) → IsPartOf part all → count_by is_tick part ≤ count_by is_tick all
fewer_ticks [] all is = omega arith
fewer_ticks (packet ∷ part) [] is = absurd is
fewer_ticks (packet ∷ part) (first ∷ all) (inl (same, is)) = rw same (omega (arith, ticks_cons first part, ticks_cons first all, fewer_ticks part all is))
fewer_ticks (packet ∷ part) (first ∷ all) (inr is) = omega (arith, ticks_cons first all, fewer_ticks (packet ∷ part) all is)

few_own : (published : List (List ℕ)) → AllByRecursion (λ (other : List ℕ). message_id other ≢ tick_mid) published → (old new : Option Pipe) →
    IfSome new (IsOwnPipe old published) → IsFew old new (length published)
few_own published none old None own = record { packets = omega arith; ticks = omega arith }
few_own published none old (Some pipe) own = by_stayed own.old_or_new
  where
    few : length own.heard ≤ length published
    few = omega (
      arith,
      part_fits own.heard (filter (λ packet. hears packet pipe) published) own.heard_of,
      length-filter (λ packet. hears packet pipe) published,
      count_by-le-length (λ packet. hears packet pipe) published,
    )

    no_ticks : count_by is_tick own.heard ≡ 0
    no_ticks = omega (arith, fewer_ticks own.heard (filter (λ packet. hears packet pipe) published) own.heard_of, no_ticks_heard (λ packet. hears packet pipe) published none)

    packets_are : length pipe.waiting ≡ length own.stayed + length own.heard
    packets_are = ap length own.waiting ∙ length-append own.stayed own.heard

    ticks_are : count_by is_tick pipe.waiting ≡ count_by is_tick own.stayed
    ticks_are = omega (arith, ap (count_by is_tick) own.waiting, ticks_append own.stayed own.heard, no_ticks)

    by_stayed : (own.stayed ≡ waiting_in old) ⊎ (own.stayed ≡ []) → IsFew old (Some pipe) (length published)
    by_stayed (inl same) = record {
      packets = omega (arith, packets_are, few, ap length same);
      ticks = omega (arith, ticks_are, ap (count_by is_tick) same);
    }
    by_stayed (inr none) = record {
      packets = omega (arith, packets_are, few, ap length none);
      ticks = omega (arith, ticks_are, ap (count_by is_tick) none);
    }

-- ---- one delivery

-- so many packets are published at most: eight for a tick, and else none
most_for : (packet : List ℕ) (published : List (List ℕ)) → MayPublish packet published → length published ≤ 8 * tick_number packet
most_for packet published may = by_test (is_tick packet) refl
  where
    none : (published : List (List ℕ)) → is_tick packet ≡ false → (published ≢ [] → message_id packet ≡ tick_mid) → length published ≤ 0
    none [] other only = omega arith
    none (first ∷ rest) other only = absurd (let is : message_id packet ≡ tick_mid = only (λ e. cc) in grind (arith, is, other))

    by_test : (b : Bool) → is_tick packet ≡ b → length published ≤ 8 * (if b then 1 else 0)
    by_test true is = omega (arith, may.few)
    by_test false other = omega (arith, none published other may.for_ticks)

module _ (pipes : List (Option Pipe)) (seat : ℕ) (light : IsLight pipes) (pipe : Pipe) (packet : List ℕ) (rest : List (List ℕ))
    (at : slice_index_or pipes seat None ≡ Some pipe) (first : pipe.waiting ≡ packet ∷ rest) (below : seat < 8) where
  abbrev shorter : Option Pipe
  shorter = Some (record pipe { waiting = rest })

  -- the pipes without the packet
  abbrev taken : List (Option Pipe)
  taken = slice_set pipes seat shorter

  inside : seat < length pipes
  inside = omega (arith, below, light.eight)

  one_less : packets_in (slice_index_or pipes seat None) ≡ suc (length rest)
  one_less = ap packets_in at ∙ ap length first

  -- a packet waits here
  pub waits_here : 1 ≤ packets_in (slice_index_or pipes seat None)
  waits_here = omega (arith, one_less)

  ticks_here : ticks_in (slice_index_or pipes seat None) ≡ tick_number packet + count_by is_tick rest
  ticks_here = ap ticks_in at ∙ ap (count_by is_tick) first ∙ ticks_cons packet rest

  ticks_taken : all_ticks taken + tick_number packet ≡ all_ticks pipes
  ticks_taken = omega (arith, sum_by-set ticks_in pipes seat shorter None inside, ticks_here)

  -- a tick that waits here is counted
  pub tick_waits : is_tick packet ≡ true → 1 ≤ all_ticks pipes
  tick_waits is = let one : tick_number packet ≡ 1 = ap (λ (b : Bool). if b then 1 else 0) is in omega (arith, ticks_taken, one)

  load_taken : load taken + 1 + 64 * tick_number packet ≡ load pipes
  load_taken = omega (arith, sum_by-set weight_of pipes seat shorter None inside, one_less, ticks_here)

  short_taken : (other : ℕ) → packets_in (slice_index_or taken other None) ≤ packets_in (slice_index_or pipes other None)
  short_taken other = by_test (other == seat) refl
    where
      by_test : (b : Bool) → (other == seat) ≡ b → packets_in (slice_index_or taken other None) ≤ packets_in (slice_index_or pipes other None)
      by_test true is =
          let same : other ≡ seat = grind (arith, is) in
          rw (same, get_or-set_same pipes seat shorter None inside) (omega (arith, one_less))
      by_test false is =
          let another : other ≢ seat = grind (arith, is) in
          rw (get_or-set_other pipes seat other shorter None another) (omega arith)

  -- each pipe then has room for what a tick brings
  pub room_for_tick : message_id packet ≡ tick_mid → (other : ℕ) → packets_in (slice_index_or taken other None) + 8 ≤ 72
  room_for_tick is other =
      let yes : is_tick packet ≡ true = grind (arith, is) in
      let tick : tick_number packet ≡ 1 = ap (λ (b : Bool). if b then 1 else 0) yes in
      omega (arith, short_taken other, light.short other, ticks_taken, tick)

  module _ (new : List (Option Pipe)) (published : List (List ℕ)) (eight : length new ≡ 8) (may : MayPublish packet published)
      (heard : (other : ℕ) → other ≢ seat →
      slice_index_or new other None ≡ option_map (λ (pipe : Pipe). record pipe { waiting = pipe.waiting ++ filter (λ packet. hears packet pipe) published }) (slice_index_or taken other None))
      (own : IfSome (slice_index_or new seat None) (IsOwnPipe (slice_index_or taken seat None) published)) where
    each_few : (other : ℕ) → IsFew (slice_index_or taken other None) (slice_index_or new other None) (length published)
    each_few other = by_test (other == seat) refl
      where
        by_test : (b : Bool) → (other == seat) ≡ b → IsFew (slice_index_or taken other None) (slice_index_or new other None) (length published)
        by_test true is =
            let same : other ≡ seat = grind (arith, is) in
            rw same (few_own published may.no_ticks (slice_index_or taken seat None) (slice_index_or new seat None) own)
        by_test false is = rw (heard other (grind (arith, is))) (few_heard published may.no_ticks (slice_index_or taken other None))

    as_long : length new ≡ length taken
    as_long = eight ∙ sym (length-set pipes seat shorter ∙ light.eight)

    ticks_then : all_ticks new ≤ all_ticks taken
    ticks_then =
        let sum : all_ticks new ≤ all_ticks taken + length taken * 0 = sum_at_most ticks_in new taken None 0 as_long (λ i. let few = each_few i in let t = few.ticks in omega (arith, t)) in
        omega (arith, sum)

    load_then : load new ≤ load taken + 8 * length published
    load_then =
        let sum : load new ≤ load taken + length taken * length published =
        sum_at_most weight_of new taken None (length published) as_long (λ i. few_weight (slice_index_or taken i None) (slice_index_or new i None) (length published) (each_few i)) in
        let size : length taken ≡ 8 = length-set pipes seat shorter ∙ light.eight in
        rw size at sum

    pub falls : load new < load pipes
    falls = omega (arith, load_then, load_taken, most_for packet published may)

    pub still_light : IsLight new
    still_light = record {
      eight = eight;
      short = λ other. let few = each_few other in let more = few.packets in
          omega (arith, more, short_taken other, light.short other, ticks_then, ticks_taken, most_for packet published may);
    }

    -- no tick is new, and where the packet is none no pipe has more packets
    pub no_new_ticks : all_ticks new ≤ all_ticks pipes
    no_new_ticks = omega (arith, ticks_then, ticks_taken)

    pub no_more : is_tick packet ≡ false → (other : ℕ) → packets_in (slice_index_or new other None) ≤ packets_in (slice_index_or pipes other None)
    no_more none other =
        let few = each_few other in let more = few.packets in
        let zero : tick_number packet ≡ 0 = ap (λ (b : Bool). if b then 1 else 0) none in
        omega (arith, more, short_taken other, zero, most_for packet published may)
