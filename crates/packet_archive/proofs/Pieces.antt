-- An import in pieces.
use Rattle.std.proofs.Common.{◌≡◌, refl, sym, ◌∙◌, ap, subst, ℕ, zero, suc, ◌+◌, ◌<◌, ◌≤◌, Bool, true, false, nat_lt, List, [], ◌∷◌, ◌++◌, length, take, drop, length-drop, append_assoc, Option, Some, None, arith}
use Rattle.std.proofs.lemmas.List.{take-append-le, drop-append-le, drop_all}
use Rattle.packet_archive.specs.declared.choice.Fate.{Fate}
use Rattle.packet_archive.specs.declared.choice.Fate.TheVariants.{Kept, Idle, Other, Faulty}
use Rattle.packet_archive.specs.declared.import.Met.{Met}
use Rattle.packet_archive.specs.declared.import.Met.TheVariants.{Stands}
use Rattle.packet_archive.specs.declared.front.ArchiveFront.{ArchiveFront}
use Rattle.packet_archive.specs.declared.front.ArchiveFront.TheVariants.{Over, Gap, Cut, Foreign, Unmarked, Stray, Packet}
use Rattle.packet_archive.specs.declared.front.Resync.{Resync}
use Rattle.packet_archive.specs.declared.front.Resync.TheVariants.{Never, Within, AtEnd}
use Rattle.packet_archive.specs.Choice.{fate_of}
use Rattle.packet_archive.specs.Clock.{Clocked}
use Rattle.packet_archive.specs.Front.{front_by, zeros}
use Rattle.packet_archive.specs.Import.{Asking, Imported, ImportsInPieces, Step, behind, by_fate, by_front, follows, front_for, going_on, imported, imported_within, may_go_on, next_step, nothing, passed, with_resync}
use Rattle.packet_archive.proofs.Sought.{bounds_by, front_stays_by, gap_in_front_by, gap_is_by, gap_stays_by, stray_stays_by, stray_there}
use Rattle.packet_archive.proofs.Stays.{zeros_go_on, zeros_within}

-- ---- a step passes a byte at least, and no more than there are

abbrev number : Option ℕ → ℕ
number None = 0
number (Some n) = n

-- whatever becomes of a packet, it is passed
pub fate_passes : (fate : Fate) (asking : Asking) (before size : ℕ) (clock : Clocked) (packet : List ℕ) → passed (by_fate fate asking before size clock packet).met ≡ Some size
fate_passes Kept asking before size clock packet = refl
fate_passes Idle asking before size clock packet = refl
fate_passes Other asking before size clock packet = refl
fate_passes (Faulty fault) asking before size clock packet = refl

pub record IsInside (n : ℕ) (bytes : List ℕ) : Type 0 where
  pub some : 1 ≤ n
  pub inside : n ≤ length bytes

step_passes : (front : ArchiveFront) (asking : Asking) (clock : Clocked) (bytes : List ℕ) (n : ℕ) → front_for asking bytes ≡ front →
    passed (by_front front asking clock bytes).met ≡ Some n → IsInside n bytes
step_passes Over asking clock bytes n is some = cc
step_passes Cut asking clock bytes n is some = cc
step_passes Foreign asking clock bytes n is some = cc
step_passes Unmarked asking clock bytes n is some = cc
step_passes Stray asking clock bytes n is some =
    let same : n ≡ 1 = sym (ap number some) in
    record { some = omega (arith, same); inside = omega (arith, same, stray_there asking.resync asking.marked bytes is) }
step_passes (Gap size) asking clock bytes n is some =
    let found = gap_is_by asking.resync asking.marked bytes size is in
    let same : n ≡ size = sym (ap number some) in
    record { some = omega (arith, found.0, found.1, same); inside = omega (arith, found.1, same, zeros_within bytes) }
step_passes (Packet b s) asking clock bytes n is some =
    let found = bounds_by asking.resync asking.marked bytes b s is in
    let packet : List ℕ = take s (drop b bytes) in
    let same : n ≡ b + s = ap number (sym some ∙ fate_passes (fate_of asking.chosen packet) asking b (b + s) clock packet) in
    record { some = omega (arith, found.0, same); inside = omega (arith, found.1, same) }

pub passes : (asking : Asking) (clock : Clocked) (bytes : List ℕ) (n : ℕ) → passed (next_step asking clock bytes).met ≡ Some n → IsInside n bytes
passes asking clock bytes n some = step_passes (front_for asking bytes) asking clock bytes n refl some

-- ---- as many steps as are needed

enough : (m n : ℕ) (asking : Asking) (clock : Clocked) (bytes : List ℕ) → length bytes < m → length bytes < n →
    imported_within m asking clock bytes ≡ imported_within n asking clock bytes
unfolding imported_within
enough zero n asking clock bytes p q = absurd (omega (arith, p))
enough (suc m) zero asking clock bytes p q = absurd (omega (arith, q))
enough (suc m) (suc n) asking clock bytes p q =
    by_passed (passed (next_step asking clock bytes).met) refl (λ size clock p q. enough m n asking clock (drop size bytes) p q)
  where
    by_passed : (o : Option ℕ) → passed (next_step asking clock bytes).met ≡ o →
        ((size : ℕ) (after : Clocked) → length (drop size bytes) < m → length (drop size bytes) < n → imported_within m asking after (drop size bytes) ≡ imported_within n asking after (drop size bytes)) →
        going_on (imported_within m asking) (next_step asking clock bytes) bytes o ≡ going_on (imported_within n asking) (next_step asking clock bytes) bytes o
    by_passed None is others = refl
    by_passed (Some size) is others =
        let inside = passes asking clock bytes size is in
        ap (λ (rest : Imported). behind (next_step asking clock bytes).written rest)
        (others size (next_step asking clock bytes).clock (omega (arith, length-drop size bytes, inside.some, inside.inside, p)) (omega (arith, length-drop size bytes, inside.some, inside.inside, q)))

-- ---- an import by its first step

first_step : (asking : Asking) (clock : Clocked) (bytes : List ℕ) →
    imported asking clock bytes ≡ going_on (imported_within (length bytes) asking) (next_step asking clock bytes) bytes (passed (next_step asking clock bytes).met)
unfolding imported_within
first_step asking clock bytes = let most : length bytes + 1 ≡ suc (length bytes) = omega arith in ap (λ n. imported_within n asking clock bytes) most

pub one_step : (asking : Asking) (clock : Clocked) (bytes : List ℕ) (size : ℕ) → passed (next_step asking clock bytes).met ≡ Some size →
    imported asking clock bytes ≡ behind (next_step asking clock bytes).written (imported asking (next_step asking clock bytes).clock (drop size bytes))
one_step asking clock bytes size some =
    let inside = passes asking clock bytes size some in
    first_step asking clock bytes
    ∙ ap (going_on (imported_within (length bytes) asking) (next_step asking clock bytes) bytes) some
    ∙ ap (λ (rest : Imported). behind (next_step asking clock bytes).written rest)
    (enough (length bytes) (length (drop size bytes) + 1) asking (next_step asking clock bytes).clock (drop size bytes)
    (omega (arith, length-drop size bytes, inside.some, inside.inside)) (omega arith))

pub no_step : (asking : Asking) (clock : Clocked) (bytes : List ℕ) → passed (next_step asking clock bytes).met ≡ None →
    imported asking clock bytes
    ≡ record { written = (next_step asking clock bytes).written; clock = (next_step asking clock bytes).clock; left = bytes; met = (next_step asking clock bytes).met }
no_step asking clock bytes none =
    first_step asking clock bytes ∙ ap (going_on (imported_within (length bytes) asking) (next_step asking clock bytes) bytes) none

-- ---- pieces

-- zeros in front become nothing
after_gap : (asking : Asking) (clock : Clocked) (bytes : List ℕ) (n : ℕ) → front_for asking bytes ≡ Gap n → imported asking clock bytes ≡ imported asking clock (drop n bytes)
after_gap asking clock bytes n gap =
    let step : next_step asking clock bytes ≡ record { met = Stands (Gap n); written = []; clock = clock } = ap (λ front. by_front front asking clock bytes) gap in
    one_step asking clock bytes n (ap (λ (s : Step). passed s.met) step)
    ∙ ap (λ (s : Step). behind s.written (imported asking s.clock (drop n bytes))) step

skip_zeros : (asking : Asking) (clock : Clocked) (bytes : List ℕ) → imported asking clock bytes ≡ imported asking clock (drop (zeros bytes) bytes)
skip_zeros asking clock bytes = by_count (zeros bytes) refl
  where
    by_count : (n : ℕ) → zeros bytes ≡ n → imported asking clock bytes ≡ imported asking clock (drop n bytes)
    by_count zero is = refl
    by_count (suc n) is =
        let gap : front_for asking bytes ≡ Gap (suc n) = gap_in_front_by asking.resync asking.marked bytes (omega (arith, is)) ∙ ap Gap is in
        after_gap asking clock bytes (suc n) gap

-- the same steps, with more bytes behind
combine : (w : List ℕ) (rest whole one : Imported) (others : Clocked → List ℕ → Imported) (ys : List ℕ) → one ≡ behind w rest →
    whole ≡ behind w (behind rest.written (others rest.clock (rest.left ++ ys))) → whole ≡ behind one.written (others one.clock (one.left ++ ys))
combine w rest whole one others ys is same =
    subst (λ (o : Imported). whole ≡ behind o.written (others o.clock (o.left ++ ys))) (sym is)
    (same ∙ joined w rest.written (others rest.clock (rest.left ++ ys)))
  where
    joined : (a b : List ℕ) (i : Imported) → behind a (behind b i) ≡ behind (a ++ b) i
    joined a b i = ap (λ (front : List ℕ). record { written = front; clock = i.clock; left = i.left; met = i.met }) (sym (append_assoc a b i.written))

-- what an import of a piece leaves to be shown, where the next is imported so
abbrev Goes : Resync → Asking → Clocked → List ℕ → List ℕ → Type 0
Goes last asking clock xs ys = may_go_on (imported asking clock xs).met ≡ true →
    imported (with_resync last asking) clock (xs ++ ys)
    ≡ behind (imported asking clock xs).written (imported (with_resync last asking) (imported asking clock xs).clock ((imported asking clock xs).left ++ ys))

-- where nothing is passed, all is left
ended_at : (asking : Asking) (clock : Clocked) (xs : List ℕ) (met : Met) → next_step asking clock xs ≡ nothing met clock → passed met ≡ None →
    imported asking clock xs ≡ record { written = []; clock = clock; left = xs; met = met }
ended_at asking clock xs met step none =
    no_step asking clock xs (ap (λ (s : Step). passed s.met) step ∙ none)
    ∙ ap (λ (s : Step). record { written = s.written; clock = s.clock; left = xs; met = s.met }) step

stays : (last : Resync) (asking : Asking) (clock : Clocked) (xs ys : List ℕ) (met : Met) → next_step asking clock xs ≡ nothing met clock → passed met ≡ None →
    Goes last asking clock xs ys
stays last asking clock xs ys met step none may =
    subst (λ (o : Imported). imported (with_resync last asking) clock (xs ++ ys) ≡ behind o.written (imported (with_resync last asking) o.clock (o.left ++ ys)))
    (sym (ended_at asking clock xs met step none)) refl

-- where so many bytes are passed, with more behind or not
goes : (last : Resync) (asking : Asking) (clock : Clocked) (xs ys : List ℕ) (n : ℕ) (step : Step) → next_step asking clock xs ≡ step →
    next_step (with_resync last asking) clock (xs ++ ys) ≡ step → passed step.met ≡ Some n → n ≤ length xs → Goes last asking step.clock (drop n xs) ys →
    Goes last asking clock xs ys
goes last asking clock xs ys n step alone together some inside rest may =
    let other : Asking = with_resync last asking in
    let one : imported asking clock xs ≡ behind step.written (imported asking step.clock (drop n xs)) =
    one_step asking clock xs n (ap (λ (s : Step). passed s.met) alone ∙ some)
    ∙ ap (λ (s : Step). behind s.written (imported asking s.clock (drop n xs))) alone in
    let whole : imported other clock (xs ++ ys) ≡ behind step.written (imported other step.clock (drop n xs ++ ys)) =
    one_step other clock (xs ++ ys) n (ap (λ (s : Step). passed s.met) together ∙ some)
    ∙ ap (λ (s : Step). behind s.written (imported other s.clock (drop n (xs ++ ys)))) together
    ∙ ap (λ (bytes : List ℕ). behind step.written (imported other step.clock bytes)) (drop-append-le n xs ys inside) in
    let later : may_go_on (imported asking step.clock (drop n xs)).met ≡ true = ap (λ (o : Imported). may_go_on o.met) (sym one) ∙ may in
    combine step.written (imported asking step.clock (drop n xs)) (imported other clock (xs ++ ys)) (imported asking clock xs) (imported other) ys one
    (whole ∙ ap (behind step.written) (rest later))

drop_past : (xs ys : List ℕ) (m n : ℕ) → n ≡ length xs + m → drop n (xs ++ ys) ≡ drop m ys
drop_past [] ys m n is = ap (λ k. drop k ys) (omega (arith, is))
drop_past (x ∷ xs) ys m zero is = absurd (omega (arith, is))
drop_past (x ∷ xs) ys m (suc n) is = drop_past xs ys m n (omega (arith, is))

-- nothing is over
over_in_front : (resync : Resync) (marked : Bool) → front_by resync marked [] ≡ Over
over_in_front Never marked = refl
over_in_front Within marked = refl
over_in_front AtEnd marked = refl

nothing_left : (asking : Asking) (clock : Clocked) → imported asking clock [] ≡ record { written = []; clock = clock; left = []; met = Stands Over }
nothing_left asking clock =
    ended_at asking clock [] (Stands Over) (ap (λ front. by_front front asking clock []) (over_in_front asking.resync asking.marked)) refl

-- all that is left is zeros
ends_in_zeros : (last : Resync) (asking : Asking) (clock : Clocked) (xs ys : List ℕ) (n : ℕ) → (0 < zeros xs) × (zeros xs ≡ n) → length xs ≤ n → Goes last asking clock xs ys
ends_in_zeros last asking clock xs ys n f past may =
    let other : Asking = with_resync last asking in
    let same : zeros xs ≡ length xs = omega (arith, f.1, past, zeros_within xs) in
    let none : drop n xs ≡ [] = drop_all n xs past in
    let one : imported asking clock xs ≡ imported asking clock [] = skip_zeros asking clock xs ∙ ap (λ m. imported asking clock (drop m xs)) f.1 ∙ ap (imported asking clock) none in
    let many : zeros (xs ++ ys) ≡ length xs + zeros ys = zeros_go_on xs ys same in
    let left : drop (zeros (xs ++ ys)) (xs ++ ys) ≡ drop (zeros ys) ys = drop_past xs ys (zeros ys) (zeros (xs ++ ys)) many in
    let whole : imported other clock (xs ++ ys) ≡ imported other clock ys =
    skip_zeros other clock (xs ++ ys) ∙ ap (imported other clock) left ∙ sym (skip_zeros other clock ys) in
    subst (λ (o : Imported). imported other clock (xs ++ ys) ≡ behind o.written (imported other o.clock (o.left ++ ys))) (sym (one ∙ nothing_left asking clock)) whole

-- what becomes of a packet doesn't hang on where an import resynchronizes
same_fate : (last : Resync) (fate : Fate) (asking : Asking) (before size : ℕ) (clock : Clocked) (packet : List ℕ) →
    by_fate fate (with_resync last asking) before size clock packet ≡ by_fate fate asking before size clock packet
same_fate last Kept asking before size clock packet = refl
same_fate last Idle asking before size clock packet = refl
same_fate last Other asking before size clock packet = refl
same_fate last (Faulty fault) asking before size clock packet = refl

-- a packet is the same, whatever comes behind
same_step : (last : Resync) (asking : Asking) (clock : Clocked) (xs ys : List ℕ) (b s : ℕ) → follows asking.resync last ≡ true → front_for asking xs ≡ Packet b s →
    next_step (with_resync last asking) clock (xs ++ ys) ≡ by_front (Packet b s) asking clock xs
same_step last asking clock xs ys b s follow is =
    let inside = bounds_by asking.resync asking.marked xs b s is in
    let packet : take s (drop b (xs ++ ys)) ≡ take s (drop b xs) =
    ap (take s) (drop-append-le b xs ys (omega (arith, inside.1))) ∙ take-append-le s (drop b xs) ys (omega (arith, length-drop b xs, inside.1)) in
    ap (λ front. by_front front (with_resync last asking) clock (xs ++ ys)) (front_stays_by asking.resync last asking.marked xs ys b s follow is)
    ∙ same_fate last (fate_of asking.chosen (take s (drop b (xs ++ ys)))) asking b (b + s) clock (take s (drop b (xs ++ ys)))
    ∙ ap (λ (packet : List ℕ). by_fate (fate_of asking.chosen packet) asking b (b + s) clock packet) packet

-- by what is in front
module _ (last : Resync) (asking : Asking) (follow : follows asking.resync last ≡ true) (clock : Clocked) (xs ys : List ℕ)
    (others : (n : ℕ) (after : Clocked) → 1 ≤ n → n ≤ length xs → Goes last asking after (drop n xs) ys) where
  at_gap : (n : ℕ) → front_for asking xs ≡ Gap n → Goes last asking clock xs ys
  at_gap n is = by_end (nat_lt n (length xs)) refl
    where
      found : (0 < zeros xs) × (zeros xs ≡ n)
      found = gap_is_by asking.resync asking.marked xs n is

      by_end : (b : Bool) → nat_lt n (length xs) ≡ b → Goes last asking clock xs ys
      by_end true less =
          let f = found in
          let short : zeros xs < length xs = grind (arith, f.1, less) in
          let together : front_by last asking.marked (xs ++ ys) ≡ Gap n = gap_stays_by last asking.marked xs ys f.0 short ∙ ap Gap f.1 in
          goes last asking clock xs ys n (nothing (Stands (Gap n)) clock) (ap (λ front. by_front front asking clock xs) is)
          (ap (λ front. by_front front (with_resync last asking) clock (xs ++ ys)) together) refl (omega (arith, f.1, short)) (others n clock (omega (arith, f.0, f.1)) (omega (arith, f.1, short)))
      by_end false all = ends_in_zeros last asking clock xs ys n found (grind (arith, all))

  at_stray : front_for asking xs ≡ Stray → Goes last asking clock xs ys
  at_stray is =
      let there : 1 ≤ length xs = stray_there asking.resync asking.marked xs is in
      let together : front_by last asking.marked (xs ++ ys) ≡ Stray = stray_stays_by asking.resync last asking.marked xs ys follow is in
      goes last asking clock xs ys 1 (nothing (Stands Stray) clock) (ap (λ front. by_front front asking clock xs) is)
      (ap (λ front. by_front front (with_resync last asking) clock (xs ++ ys)) together) refl there (others 1 clock (omega arith) there)

  at_packet : (b s : ℕ) → front_for asking xs ≡ Packet b s → Goes last asking clock xs ys
  at_packet b s is =
      let packet : List ℕ = take s (drop b xs) in
      let some : passed (by_front (Packet b s) asking clock xs).met ≡ Some (b + s) = fate_passes (fate_of asking.chosen packet) asking b (b + s) clock packet in
      let inside = step_passes (Packet b s) asking clock xs (b + s) is some in
      goes last asking clock xs ys (b + s) (by_front (Packet b s) asking clock xs) (ap (λ front. by_front front asking clock xs) is)
      (same_step last asking clock xs ys b s follow is) some inside.inside
      (others (b + s) (by_front (Packet b s) asking clock xs).clock inside.some inside.inside)

  by_parts : (front : ArchiveFront) → front_for asking xs ≡ front → Goes last asking clock xs ys
  by_parts Over is = stays last asking clock xs ys (Stands Over) (ap (λ front. by_front front asking clock xs) is) refl
  by_parts Cut is = stays last asking clock xs ys (Stands Cut) (ap (λ front. by_front front asking clock xs) is) refl
  by_parts Foreign is = stays last asking clock xs ys (Stands Foreign) (ap (λ front. by_front front asking clock xs) is) refl
  by_parts Unmarked is = stays last asking clock xs ys (Stands Unmarked) (ap (λ front. by_front front asking clock xs) is) refl
  by_parts Stray is = at_stray is
  by_parts (Gap n) is = at_gap n is
  by_parts (Packet b s) is = at_packet b s is

pieces : (most : ℕ) (last : Resync) (asking : Asking) (clock : Clocked) (xs ys : List ℕ) → follows asking.resync last ≡ true → length xs < most → Goes last asking clock xs ys
pieces zero last asking clock xs ys follow less = absurd (omega (arith, less))
pieces (suc most) last asking clock xs ys follow less =
    by_parts last asking follow clock xs ys
    (λ n after some inside. pieces most last asking after (drop n xs) ys follow (omega (arith, length-drop n xs, some, inside, less))) (front_for asking xs) refl

pub in_pieces : ImportsInPieces
in_pieces asking last clock first next follow = pieces (length first + 1) last asking clock first next follow (omega arith)
