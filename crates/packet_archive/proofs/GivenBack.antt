-- What is exported of an import.
use Rattle.std.proofs.Common.{◌≡◌, refl, sym, ◌∙◌, ap, subst, ℕ, zero, suc, ◌+◌, ◌<◌, ◌≤◌, Bool, true, false, not, ◌&&◌, nat_lt, List, [], ◌∷◌, ◌++◌, length, take, drop, length-drop, append_assoc, append-nil, Some, None, if◌then◌else◌, arith}
use Rattle.std.specs.List.{concat, filter}
use Rattle.lc_model.specs.declared.record.Moment.{Moment}
use Rattle.lc_model.specs.Host.Stream.{max_body, records_of}
use Rattle.lc_model.specs.Packet.{message_id, stream_fault}
use Rattle.lc_model.proofs.Facts.{tested_not_less}
use Rattle.stream_script.specs.Front.{any_text}
use Rattle.packet_archive.specs.declared.choice.Fate.{Fate}
use Rattle.packet_archive.specs.declared.choice.Fate.TheVariants.{Kept, Idle, Other, Faulty}
use Rattle.packet_archive.specs.declared.import.Met.{Met}
use Rattle.packet_archive.specs.declared.import.Met.TheVariants.{LeftOut, Stands}
use Rattle.packet_archive.specs.declared.front.ArchiveFront.{ArchiveFront}
use Rattle.packet_archive.specs.declared.front.ArchiveFront.TheVariants.{Over, Gap, Cut, Foreign, Unmarked, Stray, Packet}
use Rattle.packet_archive.specs.declared.front.Resync.{Resync}
use Rattle.packet_archive.specs.declared.front.Resync.TheVariants.{Never, Within, AtEnd}
use Rattle.packet_archive.specs.Choice.{Chosen, fate_by_fault, fate_of, is_asked_for, is_idle}
use Rattle.packet_archive.specs.Clock.{Clocked, moment_by}
use Rattle.packet_archive.specs.Export.{ImportsAreGivenBack, exported, keeps, kept_in, packets_by, packets_in, packets_within}
use Rattle.packet_archive.specs.Front.{front_by}
use Rattle.packet_archive.specs.Import.{Asking, Imported, Step, behind, by_fate, by_front, clock_at, front_for, imported, kept_at, next_step, nothing, passed}
use Rattle.packet_archive.proofs.Pieces.{no_step, one_step}
use Rattle.packet_archive.proofs.Sought.{bounds_by, gap_is_by, stray_there}
use Rattle.packet_archive.proofs.Stays.{zeros_within}
use Rattle.packet_archive.proofs.Written.{Brings, brings_both, brings_kept, brings_none}

-- ---- the packets of an archive, by what stands in front

-- how far what stands in front goes
record Goes (bytes : List ℕ) (size : ℕ) : Type 0 where
  some : 1 ≤ size
  inside : size ≤ length bytes

packet_goes : (resync : Resync) (marked : Bool) (bytes : List ℕ) (b s : ℕ) → front_by resync marked bytes ≡ Packet b s → Goes bytes (b + s)
packet_goes resync marked bytes b s is = let found = bounds_by resync marked bytes b s is in record { some = found.0; inside = found.1 }

gap_goes : (resync : Resync) (marked : Bool) (bytes : List ℕ) (n : ℕ) → front_by resync marked bytes ≡ Gap n → Goes bytes n
gap_goes resync marked bytes n is =
    let found = gap_is_by resync marked bytes n is in record { some = omega (arith, found.0, found.1); inside = omega (arith, found.1, zeros_within bytes) }

stray_goes : (resync : Resync) (marked : Bool) (bytes : List ℕ) → front_by resync marked bytes ≡ Stray → Goes bytes 1
stray_goes resync marked bytes is = record { some = omega arith; inside = stray_there resync marked bytes is }

enough : (m n : ℕ) (resync : Resync) (marked : Bool) (bytes : List ℕ) → length bytes < m → length bytes < n → packets_within m resync marked bytes ≡ packets_within n resync marked bytes
unfolding packets_within
enough zero n resync marked bytes p q = absurd (omega (arith, p))
enough (suc m) zero resync marked bytes p q = absurd (omega (arith, q))
enough (suc m) (suc n) resync marked bytes p q =
    by_front (front_by resync marked bytes) refl
    (λ size goes. enough m n resync marked (drop size bytes) (omega (arith, length-drop size bytes, goes.some, goes.inside, p)) (omega (arith, length-drop size bytes, goes.some, goes.inside, q)))
  where
    by_front : (f : ArchiveFront) → front_by resync marked bytes ≡ f →
        ((size : ℕ) → Goes bytes size → packets_within m resync marked (drop size bytes) ≡ packets_within n resync marked (drop size bytes)) →
        packets_by (packets_within m resync marked) bytes f ≡ packets_by (packets_within n resync marked) bytes f
    by_front Over is others = refl
    by_front Cut is others = refl
    by_front Foreign is others = refl
    by_front Unmarked is others = refl
    by_front Stray is others = others 1 (stray_goes resync marked bytes is)
    by_front (Gap size) is others = others size (gap_goes resync marked bytes size is)
    by_front (Packet b s) is others = ap (λ (packets : List (List ℕ)). take s (drop b bytes) ∷ packets) (others (b + s) (packet_goes resync marked bytes b s is))

first_of : (resync : Resync) (marked : Bool) (bytes : List ℕ) → packets_in resync marked bytes ≡ packets_by (packets_within (length bytes) resync marked) bytes (front_by resync marked bytes)
unfolding packets_within
first_of resync marked bytes = let most : length bytes + 1 ≡ suc (length bytes) = omega arith in ap (λ n. packets_within n resync marked bytes) most

pub packets_front : (resync : Resync) (marked : Bool) (bytes : List ℕ) → packets_in resync marked bytes ≡ packets_by (packets_in resync marked) bytes (front_by resync marked bytes)
packets_front resync marked bytes = first_of resync marked bytes ∙ by_front (front_by resync marked bytes) refl
  where
    same : (size : ℕ) → Goes bytes size → packets_within (length bytes) resync marked (drop size bytes) ≡ packets_in resync marked (drop size bytes)
    same size goes =
        enough (length bytes) (length (drop size bytes) + 1) resync marked (drop size bytes) (omega (arith, length-drop size bytes, goes.some, goes.inside)) (omega arith)

    by_front : (f : ArchiveFront) → front_by resync marked bytes ≡ f → packets_by (packets_within (length bytes) resync marked) bytes f ≡ packets_by (packets_in resync marked) bytes f
    by_front Over is = refl
    by_front Cut is = refl
    by_front Foreign is = refl
    by_front Unmarked is = refl
    by_front Stray is = same 1 (stray_goes resync marked bytes is)
    by_front (Gap size) is = same size (gap_goes resync marked bytes size is)
    by_front (Packet b s) is = ap (λ (packets : List (List ℕ)). take s (drop b bytes) ∷ packets) (same (b + s) (packet_goes resync marked bytes b s is))

-- ---- those that become records

abbrev chosen_of : Chosen → List (List ℕ) → List ℕ
chosen_of chosen packets = concat (filter (λ packet. keeps (fate_of chosen packet)) packets)

abbrev one_first : Bool → List ℕ → List ℕ → List ℕ
one_first true packet others = packet ++ others
one_first false packet others = others

chosen_first : (chosen : Chosen) (packet : List ℕ) (packets : List (List ℕ)) →
    chosen_of chosen (packet ∷ packets) ≡ one_first (keeps (fate_of chosen packet)) packet (chosen_of chosen packets)
chosen_first chosen packet packets = by_test (keeps (fate_of chosen packet)) refl
  where
    by_test : (b : Bool) → keeps (fate_of chosen packet) ≡ b → chosen_of chosen (packet ∷ packets) ≡ one_first b packet (chosen_of chosen packets)
    by_test true is = rw is refl
    by_test false is = rw is refl

abbrev kept_by : Asking → List ℕ → ArchiveFront → List ℕ
kept_by asking bytes f = chosen_of asking.chosen (packets_by (packets_in asking.resync asking.marked) bytes f)

kept_front : (asking : Asking) (bytes : List ℕ) (f : ArchiveFront) → front_for asking bytes ≡ f → kept_in asking bytes ≡ kept_by asking bytes f
kept_front asking bytes f is = ap (chosen_of asking.chosen) (packets_front asking.resync asking.marked bytes ∙ ap (packets_by (packets_in asking.resync asking.marked) bytes) is)

pub kept_nothing : (asking : Asking) → kept_in asking [] ≡ []
kept_nothing asking = kept_front asking [] Over (over asking.resync)
  where
    over : (resync : Resync) → front_by resync asking.marked [] ≡ Over
    over Never = refl
    over Within = refl
    over AtEnd = refl

pub kept_packet : (asking : Asking) (bytes : List ℕ) (b s : ℕ) (fate : Fate) → front_for asking bytes ≡ Packet b s → fate_of asking.chosen (take s (drop b bytes)) ≡ fate →
    kept_in asking bytes ≡ one_first (keeps fate) (take s (drop b bytes)) (kept_in asking (drop (b + s) bytes))
kept_packet asking bytes b s fate is becomes =
    kept_front asking bytes (Packet b s) is
    ∙ chosen_first asking.chosen (take s (drop b bytes)) (packets_in asking.resync asking.marked (drop (b + s) bytes))
    ∙ ap (λ (f : Fate). one_first (keeps f) (take s (drop b bytes)) (kept_in asking (drop (b + s) bytes))) becomes

-- a packet that becomes a record is none that no record can hold
pub not_long : (chosen : Chosen) (packet : List ℕ) → fate_of chosen packet ≡ Kept → length packet ≤ max_body
not_long chosen packet is =
    by_tests (not chosen.idle && is_idle packet) (not (is_asked_for chosen.only (message_id packet))) (nat_lt max_body (length packet)) refl is
  where
    by_tests : (idle other long : Bool) → nat_lt max_body (length packet) ≡ long →
        (if idle then Idle else if other then Other else if long then Faulty 6 else fate_by_fault chosen.faulty (stream_fault packet)) ≡ Kept → length packet ≤ max_body
    by_tests true other long size e = absurd (cc e)
    by_tests false true long size e = absurd (cc e)
    by_tests false false true size e = absurd (cc e)
    by_tests false false false size e = tested_not_less max_body (length packet) size

-- ---- an import

record Gives (asking : Asking) (bytes : List ℕ) (import : Imported) : Type 0 where
  packets : List ℕ
  brings : Brings import.written packets
  all : packets ++ kept_in asking import.left ≡ kept_in asking bytes
  over : kept_in asking import.left ≡ []

-- where it ends
abbrev ended : List ℕ → Met → Clocked → Imported
ended bytes met clock = record { written = []; clock = clock; left = bytes; met = met }

ends : (asking : Asking) (clock : Clocked) (bytes : List ℕ) (met : Met) → next_step asking clock bytes ≡ nothing met clock → passed met ≡ None →
    kept_in asking bytes ≡ [] → Gives asking bytes (imported asking clock bytes)
ends asking clock bytes met step none over =
    let is : imported asking clock bytes ≡ ended bytes met clock =
    no_step asking clock bytes (ap (λ (s : Step). passed s.met) step ∙ none)
    ∙ ap (λ (s : Step). record { written = s.written; clock = s.clock; left = bytes; met = s.met }) step in
    subst (Gives asking bytes) (sym is) (record { packets = []; brings = brings_none; all = refl; over = over })

-- where it goes on
goes_on : (asking : Asking) (clock : Clocked) (bytes packet : List ℕ) (n : ℕ) (step : Step) → next_step asking clock bytes ≡ step → passed step.met ≡ Some n →
    Brings step.written packet → kept_in asking bytes ≡ packet ++ kept_in asking (drop n bytes) →
    Gives asking (drop n bytes) (imported asking step.clock (drop n bytes)) → Gives asking bytes (imported asking clock bytes)
goes_on asking clock bytes packet n step is some brings kept rest =
    let whole : imported asking clock bytes ≡ behind step.written (imported asking step.clock (drop n bytes)) =
    one_step asking clock bytes n (ap (λ (s : Step). passed s.met) is ∙ some)
    ∙ ap (λ (s : Step). behind s.written (imported asking s.clock (drop n bytes))) is in
    subst (Gives asking bytes) (sym whole) (record {
      packets = packet ++ rest.packets;
      brings = brings_both step.written (imported asking step.clock (drop n bytes)).written packet rest.packets brings rest.brings;
      all = append_assoc packet rest.packets (kept_in asking (imported asking step.clock (drop n bytes)).left) ∙ ap (λ others. packet ++ others) rest.all ∙ sym kept;
      over = rest.over;
    })

abbrev GivesBehind : Asking → List ℕ → Type 0
GivesBehind asking bytes = (size : ℕ) (clock : Clocked) → 1 ≤ size → size ≤ length bytes → Gives asking (drop size bytes) (imported asking clock (drop size bytes))

-- a packet by what becomes of it
module _ (asking : Asking) (clock : Clocked) (bytes : List ℕ) (b s : ℕ) (is : front_for asking bytes ≡ Packet b s) (others : GivesBehind asking bytes) where
  abbrev packet : List ℕ
  packet = take s (drop b bytes)

  step_is : (fate : Fate) → fate_of asking.chosen packet ≡ fate → next_step asking clock bytes ≡ by_fate fate asking b (b + s) clock packet
  step_is fate becomes =
      ap (λ (f : ArchiveFront). by_front f asking clock bytes) is ∙ ap (λ (f : Fate). by_fate f asking b (b + s) clock packet) becomes

  left_out : (fate : Fate) → fate_of asking.chosen packet ≡ fate → keeps fate ≡ false → by_fate fate asking b (b + s) clock packet ≡ nothing (LeftOut (b + s) b fate) clock →
      Gives asking bytes (imported asking clock bytes)
  left_out fate becomes never so =
      let goes : Goes bytes (b + s) = packet_goes asking.resync asking.marked bytes b s is in
      goes_on asking clock bytes [] (b + s) (nothing (LeftOut (b + s) b fate) clock) (step_is fate becomes ∙ so) refl brings_none
      (kept_packet asking bytes b s fate is becomes ∙ ap (λ k. one_first k packet (kept_in asking (drop (b + s) bytes))) never) (others (b + s) clock goes.some goes.inside)

  kept : fate_of asking.chosen packet ≡ Kept → Gives asking bytes (imported asking clock bytes)
  kept becomes =
      let moment : Moment = moment_by asking.times clock packet in
      let goes : Goes bytes (b + s) = packet_goes asking.resync asking.marked bytes b s is in
      goes_on asking clock bytes packet (b + s) (kept_at b (b + s) clock moment packet) (step_is Kept becomes) refl
      (brings_kept clock moment packet (not_long asking.chosen packet becomes)) (kept_packet asking bytes b s Kept is becomes)
      (others (b + s) (clock_at clock moment) goes.some goes.inside)

  by_fates : (fate : Fate) → fate_of asking.chosen packet ≡ fate → Gives asking bytes (imported asking clock bytes)
  by_fates Kept becomes = kept becomes
  by_fates Idle becomes = left_out Idle becomes refl refl
  by_fates Other becomes = left_out Other becomes refl refl
  by_fates (Faulty fault) becomes = left_out (Faulty fault) becomes refl refl

by_parts : (asking : Asking) (clock : Clocked) (bytes : List ℕ) (f : ArchiveFront) → front_for asking bytes ≡ f → GivesBehind asking bytes →
    Gives asking bytes (imported asking clock bytes)
by_parts asking clock bytes Over is others =
    ends asking clock bytes (Stands Over) (ap (λ (f : ArchiveFront). by_front f asking clock bytes) is) refl (kept_front asking bytes Over is)
by_parts asking clock bytes Cut is others =
    ends asking clock bytes (Stands Cut) (ap (λ (f : ArchiveFront). by_front f asking clock bytes) is) refl (kept_front asking bytes Cut is)
by_parts asking clock bytes Foreign is others =
    ends asking clock bytes (Stands Foreign) (ap (λ (f : ArchiveFront). by_front f asking clock bytes) is) refl (kept_front asking bytes Foreign is)
by_parts asking clock bytes Unmarked is others =
    ends asking clock bytes (Stands Unmarked) (ap (λ (f : ArchiveFront). by_front f asking clock bytes) is) refl (kept_front asking bytes Unmarked is)
by_parts asking clock bytes Stray is others =
    let goes : Goes bytes 1 = stray_goes asking.resync asking.marked bytes is in
    goes_on asking clock bytes [] 1 (nothing (Stands Stray) clock) (ap (λ (f : ArchiveFront). by_front f asking clock bytes) is) refl brings_none
    (kept_front asking bytes Stray is) (others 1 clock goes.some goes.inside)
by_parts asking clock bytes (Gap n) is others =
    let goes : Goes bytes n = gap_goes asking.resync asking.marked bytes n is in
    goes_on asking clock bytes [] n (nothing (Stands (Gap n)) clock) (ap (λ (f : ArchiveFront). by_front f asking clock bytes) is) refl brings_none
    (kept_front asking bytes (Gap n) is) (others n clock goes.some goes.inside)
by_parts asking clock bytes (Packet b s) is others = by_fates asking clock bytes b s is others (fate_of asking.chosen (take s (drop b bytes))) refl

gives : (most : ℕ) (asking : Asking) (clock : Clocked) (bytes : List ℕ) → length bytes < most → Gives asking bytes (imported asking clock bytes)
gives zero asking clock bytes less = absurd (omega (arith, less))
gives (suc most) asking clock bytes less =
    by_parts asking clock bytes (front_for asking bytes) refl
    (λ size after some inside. gives most asking after (drop size bytes) (omega (arith, length-drop size bytes, some, inside, less)))

pub imports_are_given_back : ImportsAreGivenBack
imports_are_given_back asking clock archive =
    let found : Gives asking archive (imported asking clock archive) = gives (length archive + 1) asking clock archive (omega arith) in
    let written : List ℕ = (imported asking clock archive).written in
    let left : List ℕ = (imported asking clock archive).left in
    let is : exported written ≡ found.packets = ap exported (sym (append-nil written)) ∙ found.brings.exports [] ∙ append-nil found.packets in
    let all : exported written ++ kept_in asking left ≡ kept_in asking archive = ap (λ out. out ++ kept_in asking left) is ∙ found.all in
    record {
      all = sym (append-nil (exported written)) ∙ ap (λ others. exported written ++ others) (sym found.over) ∙ all;
      none_left = found.over;
      ends = ap (λ (bytes : List ℕ). (records_of any_text bytes).1) (sym (append-nil written)) ∙ found.brings.ends [] (λ number. refl) 1;
    }
