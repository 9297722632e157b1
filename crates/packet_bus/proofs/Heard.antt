-- Who hears a message id, where the subscriptions of one seat change.
use Rattle.std.proofs.Common.{◌≡◌, ◌≢◌, ◌∙◌, ap, sym, refl, ℕ, ◌<◌, ◌==◌, Bool, true, false, not, ◌&&◌, ◌||◌, List, [], ◌∷◌, ◌++◌, length, filter, map, arith, length-set}
use Rattle.std.specs.Prelude.{Option, Some, None, option_map, slice_set, slice_index_or, is_some}
use Rattle.std.specs.List.{list_any}
use Rattle.std.proofs.lemmas.List.{map-set, get_or-set_same, get_or-set_other, get_or_default, get_or-map}
use Rattle.std.proofs.lemmas.List.Folds.{list_any-append}
use Rattle.std.proofs.lemmas.Map.Views.{any-filter_same}
use Rattle.std.proofs.Math.Seq.{map-set_same}
use Rattle.lc_model.proofs.Facts.{or_true, or_false, test_unequal, equal_itself}
use Rattle.packet_bus.specs.Slots.{PooledPacket}
use Rattle.packet_bus.specs.Line.{Line, slots_in, hears_mid, with_subscription, without_subscription}
use Rattle.packet_bus.specs.Inside.{place_at, audience_of, nobody, IsBus}
use Rattle.packet_bus.proofs.Places.{resubscribed}

-- ---- one list of subscriptions

-- with one more at its end
pub one_more : (mid other : ℕ) (mids : List ℕ) → list_any (λ o. mid == o) (mids ++ other ∷ []) ≡ (list_any (λ o. mid == o) mids || mid == other)
one_more mid other mids =
    list_any-append (λ o. mid == o) mids (other ∷ []) ∙ ap (λ b. list_any (λ o. mid == o) mids || b) (or_false (mid == other))

-- with one less
pub one_less : (mid other : ℕ) (mids : List ℕ) →
    list_any (λ o. mid == o) (filter (λ o. not (other == o)) mids) ≡ (not (other == mid) && list_any (λ o. mid == o) mids)
one_less mid other mids =
    any-filter_same (λ o. mid == o) (λ o. not (other == o)) (not (other == mid)) (λ o is. let same : mid ≡ o = grind (arith, is) in ap (λ n. not (other == n)) (sym same)) mids

-- ---- a place

pub hears_more : (mid : ℕ) (place : Option Line) → is_some place ≡ true → hears_mid mid (option_map (with_subscription mid) place) ≡ true
hears_more mid None e = cc
hears_more mid (Some line) e = one_more mid mid line.subscriptions ∙ ap (λ b. list_any (λ o. mid == o) line.subscriptions || b) (equal_itself mid) ∙ or_true _

pub hears_others_too : (mid other : ℕ) (place : Option Line) → other ≢ mid → hears_mid other (option_map (with_subscription mid) place) ≡ hears_mid other place
hears_others_too mid other None not_same = refl
hears_others_too mid other (Some line) not_same =
    one_more other mid line.subscriptions ∙ ap (λ b. list_any (λ o. other == o) line.subscriptions || b) (test_unequal other mid not_same) ∙ or_false _

pub hears_less : (mid : ℕ) (place : Option Line) → hears_mid mid (option_map (without_subscription mid) place) ≡ false
hears_less mid None = refl
hears_less mid (Some line) = one_less mid mid line.subscriptions ∙ ap (λ b. not b && list_any (λ o. mid == o) line.subscriptions) (equal_itself mid)

pub hears_others_still : (mid other : ℕ) (place : Option Line) → other ≢ mid → hears_mid other (option_map (without_subscription mid) place) ≡ hears_mid other place
hears_others_still mid other None not_same = refl
hears_others_still mid other (Some line) not_same =
    one_less other mid line.subscriptions
    ∙ ap (λ b. not b && list_any (λ o. other == o) line.subscriptions) (test_unequal mid other (λ e. not_same (sym e)))

-- ---- the rows

-- a row says who hears its message id
pub row_says : (places : List (Option Line)) (pool : List PooledPacket) (audience : List (List Bool)) (ready full : List Bool) → IsBus places pool audience ready full →
    (seat mid : ℕ) (row : List Bool) → seat < 8 → mid < 8192 → row ≡ slice_index_or audience mid row → slice_index_or row seat false ≡ hears_mid mid (place_at places seat)
row_says places pool audience ready full bus seat mid row below less look =
    let in_audience : mid < length audience = omega (arith, less, bus.rows) in
    let in_places : seat < length places = omega (arith, below, bus.eight) in
    let is : row ≡ map (hears_mid mid) places = look ∙ get_or_default audience mid row nobody in_audience ∙ bus.heard mid less in
    ap (λ (seats : List Bool). slice_index_or seats seat false) is ∙ get_or-map (hears_mid mid) places seat None false in_places

module _ (places : List (Option Line)) (pool : List PooledPacket) (audience : List (List Bool)) (ready full : List Bool) (bus : IsBus places pool audience ready full) (seat : ℕ)
    (below : seat < 8) (place : Option Line) (slots : slots_in place ≡ slots_in (place_at places seat)) where
  -- a row that a seat hears as before
  row_kept : (mid : ℕ) → mid < 8192 → hears_mid mid place ≡ hears_mid mid (place_at places seat) →
      audience_of audience mid ≡ slice_set (audience_of audience mid) seat (hears_mid mid place)
  row_kept mid less same =
      bus.heard mid less
      ∙ sym (map-set_same (hears_mid mid) places seat place None same)
      ∙ map-set (hears_mid mid) places seat place
      ∙ ap (λ row. slice_set row seat (hears_mid mid place)) (sym (bus.heard mid less))

  -- all rows stay
  pub heard_as_before : ((mid : ℕ) → mid < 8192 → hears_mid mid place ≡ hears_mid mid (place_at places seat)) → IsBus (slice_set places seat place) pool audience ready full
  heard_as_before same = resubscribed places pool audience ready full bus seat below place audience slots bus.rows (λ mid less. row_kept mid less (same mid less))

  -- one row is changed
  pub heard_anew : (changed_mid : ℕ) (row found : List Bool) (hears : Bool) → changed_mid < 8192 → found ≡ slice_index_or audience changed_mid found → row ≡ slice_set found seat hears →
      hears_mid changed_mid place ≡ hears → ((mid : ℕ) → mid ≢ changed_mid → hears_mid mid place ≡ hears_mid mid (place_at places seat)) →
      IsBus (slice_set places seat place) pool (slice_set audience changed_mid row) ready full
  heard_anew changed_mid row found hears in_rows look row_is now others =
      resubscribed places pool audience ready full bus seat below place (slice_set audience changed_mid row) slots (length-set audience changed_mid row ∙ bus.rows) (λ mid less. by_row mid less (mid == changed_mid) refl)
    where
      in_audience : changed_mid < length audience
      in_audience = omega (arith, in_rows, bus.rows)

      by_row : (mid : ℕ) → mid < 8192 → (b : Bool) → (mid == changed_mid) ≡ b →
          audience_of (slice_set audience changed_mid row) mid ≡ slice_set (audience_of audience mid) seat (hears_mid mid place)
      by_row mid less true is =
          let same : mid ≡ changed_mid = grind (arith, is) in
          let at : audience_of (slice_set audience changed_mid row) changed_mid ≡ row = get_or-set_same audience changed_mid row nobody in_audience in
          let old : found ≡ audience_of audience changed_mid = look ∙ get_or_default audience changed_mid found nobody in_audience in
          rw same (at ∙ row_is ∙ ap (λ r. slice_set r seat hears) old ∙ ap (slice_set (audience_of audience changed_mid) seat) (sym now))
      by_row mid less false is =
          let another : mid ≢ changed_mid = grind (arith, is) in
          get_or-set_other audience changed_mid mid row nobody another ∙ row_kept mid less (others mid another)
