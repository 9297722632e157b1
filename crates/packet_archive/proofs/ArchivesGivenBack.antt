-- An archive of packets without a fault is given back.
use Rattle.std.proofs.Common.{◌≡◌, refl, sym, ◌∙◌, ap, ℕ, zero, suc, ◌+◌, ◌<◌, ◌≤◌, ◌/◌, ◌%◌, Bool, true, false, not, ◌&&◌, ◌||◌, ◌==◌, nat_le, nat_lt, List, [], ◌∷◌, ◌++◌, length, take, drop, length-append, append_assoc, Option, Some, None, if◌then◌else◌, arith}
use Rattle.std.specs.List.{AllByRecursion, concat}
use Rattle.std.specs.Option.{option_or}
use Rattle.std.proofs.Math.Seq.{take-append_seam, drop-append_seam}
use Rattle.lc_model.specs.Bytes.{u16_at}
use Rattle.lc_model.specs.Packet.{has_secondary_header, header_fault, is_command, sequence_flags, stream_fault, version}
use Rattle.lc_model.proofs.Facts.{not_false, or_first, test_not_less, test_unequal, tested_equal, tested_not_less}
use Rattle.packet_archive.specs.declared.choice.Fate.TheVariants.{Kept}
use Rattle.packet_archive.specs.declared.clock.Times.{Times}
use Rattle.packet_archive.specs.declared.front.ArchiveFront.TheVariants.{Over, Gap, Cut, Foreign, Stray, Packet}
use Rattle.packet_archive.specs.declared.front.ArchiveFront.{ArchiveFront}
use Rattle.packet_archive.specs.declared.front.Resync.{Resync}
use Rattle.packet_archive.specs.declared.front.Resync.TheVariants.{Never, Within, AtEnd}
use Rattle.packet_archive.specs.Choice.{fate_of, is_idle}
use Rattle.packet_archive.specs.Export.{ArchivesAreGivenBack, IsFine, all_of, archive_of, kept_in}
use Rattle.packet_archive.specs.Front.{before_each, front_by, front_in, headers_size, is_begin, is_plausible, marker, packet_in, packet_size, sought_in, uncut, zeros}
use Rattle.packet_archive.proofs.GivenBack.{imports_are_given_back, kept_nothing, kept_packet}
use Rattle.packet_archive.proofs.Sought.{same_front}

-- ---- what is known of a packet without a fault

record Known (packet : List ℕ) : Type 0 where
  long : 8 ≤ length packet
  version_is : (version packet == 0) ≡ true
  header : has_secondary_header packet ≡ true
  size : packet_size packet ≡ length packet
  short : length packet ≤ 2048
  flags : (sequence_flags packet == 3) ≡ true
  room : nat_le (headers_size packet) (length packet) ≡ true

abbrev fault_of : ℕ → Option ℕ
fault_of n = Some n

no_fault : (a b c d e f : Bool) → (if a then fault_of 1 else if b then fault_of 2 else if c then fault_of 3 else if d then fault_of 4 else if e then fault_of 5 else if f then fault_of 6 else None) ≡ None →
    (a ≡ false) × (b ≡ false) × (c ≡ false) × (e ≡ false) × (f ≡ false) × (d ≡ false)
no_fault true b c d e f is = absurd (cc is)
no_fault false true c d e f is = absurd (cc is)
no_fault false false true d e f is = absurd (cc is)
no_fault false false false true e f is = absurd (cc is)
no_fault false false false false true f is = absurd (cc is)
no_fault false false false false false true is = absurd (cc is)
no_fault false false false false false false is = (refl, refl, refl, refl, refl, refl)

none_first : (first others : Option ℕ) → option_or first others ≡ None → first ≡ None
none_first None others is = refl
none_first (Some n) others is = absurd (cc is)

or_second : (a b : Bool) → (a || b) ≡ false → b ≡ false
or_second true b is = cc
or_second false b is = is

has_room : (is_command : Bool) (n : ℕ) → (nat_lt n 8 || (not is_command && nat_lt n 12)) ≡ false → nat_le (if is_command then 8 else 12) n ≡ true
has_room true n is = let long : 8 ≤ n = tested_not_less n 8 (or_first (nat_lt n 8) false is) in grind (arith, long)
has_room false n is = let long : 12 ≤ n = tested_not_less n 12 (or_second (nat_lt n 8) (nat_lt n 12) is) in grind (arith, long)

known : (packet : List ℕ) → stream_fault packet ≡ None → Known packet
known packet fine =
    let is = no_fault (nat_lt (length packet) 8 || (not (is_command packet) && nat_lt (length packet) 12)) (not (version packet == 0))
    (not (has_secondary_header packet)) (not (sequence_flags packet == 3)) (not (u16_at packet 4 + 7 == length packet)) (nat_lt 2048 (length packet))
    (none_first (header_fault packet) _ fine) in
    record {
      long = tested_not_less (length packet) 8 (or_first (nat_lt (length packet) 8) (not (is_command packet) && nat_lt (length packet) 12) is.0);
      version_is = not_false (version packet == 0) is.1;
      header = not_false (has_secondary_header packet) is.2;
      size = tested_equal (u16_at packet 4 + 7) (length packet) (not_false (u16_at packet 4 + 7 == length packet) is.3);
      short = tested_not_less 2048 (length packet) is.4;
      flags = not_false (sequence_flags packet == 3) is.5;
      room = has_room (is_command packet) (length packet) is.0;
    }

-- its first byte isn't zero, since it has the bit of a secondary header
low : (n b : ℕ) → n ≡ b → b < 256 → (n / 2048 % 2 == 1) ≡ true → ⊥
low n b same less is = let one : n / 2048 % 2 ≡ 1 = tested_equal (n / 2048 % 2) 1 is in absurd (omega (arith, one, same, less))

no_zeros : (packet : List ℕ) → IsFine packet → Known packet → zeros packet ≡ 0
no_zeros [] fine is = refl
no_zeros (a ∷ []) fine is = absurd (omega (arith, is.long))
no_zeros (zero ∷ b ∷ rest) fine is = absurd (low (0 + b) b (omega arith) (fine.bytes 1) is.header)
no_zeros (suc a ∷ b ∷ rest) fine is = let some : (suc a == 0) ≡ false = test_unequal (suc a) 0 (λ same. omega (arith, same)) in rw some refl

-- ---- where it stands

stands : (before : ℕ) (packet : List ℕ) → Known packet → packet_in before packet ≡ Packet before (length packet)
stands before packet is =
    let header : nat_lt (length packet) 6 ≡ false = test_not_less (length packet) 6 (omega (arith, is.long)) in
    let whole : nat_lt (length packet) (packet_size packet) ≡ false = test_not_less (length packet) (packet_size packet) (omega (arith, is.size)) in
    by_tests (nat_lt (length packet) 6) (version packet == 0) (nat_lt (length packet) (packet_size packet)) header is.version_is whole
    ∙ ap (Packet before) is.size
  where
    by_tests : (short version_is cut : Bool) → short ≡ false → version_is ≡ true → cut ≡ false → (if short then Cut else if not version_is then Foreign else if cut then Cut else Packet before (packet_size packet)) ≡ Packet before (packet_size packet)
    by_tests short version_is cut p q r = rw (p, q, r) refl

plain : (packet : List ℕ) → IsFine packet → Known packet → front_in false packet ≡ Packet 0 (length packet)
plain packet fine is =
    let some : (length packet == 0) ≡ false = test_unequal (length packet) 0 (λ same. omega (arith, same, is.long)) in
    let none : nat_lt 0 (zeros packet) ≡ false = test_not_less 0 (zeros packet) (omega (arith, no_zeros packet fine is)) in
    rw (some, none) (stands 0 packet is)

behind_marker : (packet : List ℕ) → Known packet → front_in true (marker ++ packet) ≡ Packet 4 (length packet)
behind_marker packet is =
    let long : nat_lt (length (marker ++ packet)) 4 ≡ false = test_not_less (length (marker ++ packet)) 4 (omega arith) in
    let some : (length (marker ++ packet) == 0) ≡ false = test_unequal (length (marker ++ packet)) 0 (λ same. omega (arith, same)) in
    rw (some, long) (stands 4 packet is)

by_plausible : (is_version flags short idle header room : Bool) → is_version ≡ true → flags ≡ true → short ≡ true → header ≡ true → room ≡ true →
    (is_version && flags && short && (idle || (header && room))) ≡ true
by_plausible is_version flags short true header room p q r h m = rw (p, q, r) refl
by_plausible is_version flags short false header room p q r h m = rw (p, q, r, h, m) refl

plausible : (packet : List ℕ) → Known packet → is_plausible packet ≡ true
plausible packet is =
    let short : nat_le (packet_size packet) 2048 ≡ true = ap (λ n. nat_le n 2048) is.size ∙ grind (arith, is.short) in
    by_plausible (version packet == 0) (sequence_flags packet == 3) (nat_le (packet_size packet) 2048) (is_idle packet) (has_secondary_header packet)
    (nat_le (headers_size packet) (packet_size packet)) is.version_is is.flags short is.header (ap (nat_le (headers_size packet)) is.size ∙ is.room)

by_tests : (none some short begins : Bool) (count : ℕ) (packet : ArchiveFront) → none ≡ false → some ≡ false → short ≡ false → begins ≡ true →
    (if none then Over else if some then Gap count else if short then Cut else if begins then packet else Stray) ≡ packet
by_tests none some short begins count packet p q r b = rw (p, q, r, b) refl

sought : (marked : Bool) (packet : List ℕ) → IsFine packet → Known packet → sought_in marked (before_each marked ++ packet) ≡ Packet (length (before_each marked)) (length packet)
sought true packet fine is =
    let some : (length (marker ++ packet) == 0) ≡ false = test_unequal (length (marker ++ packet)) 0 (λ same. omega (arith, same)) in
    let long : nat_lt (length (marker ++ packet)) 10 ≡ false = test_not_less (length (marker ++ packet)) 10 (omega (arith, is.long)) in
    let begins : is_begin true (marker ++ packet) ≡ true = plausible packet is in
    by_tests (length (marker ++ packet) == 0) false (nat_lt (length (marker ++ packet)) 10) (is_begin true (marker ++ packet)) 0 (packet_in 4 packet) some refl long begins
    ∙ stands 4 packet is
sought false packet fine is =
    let some : (length packet == 0) ≡ false = test_unequal (length packet) 0 (λ same. omega (arith, same, is.long)) in
    let none : nat_lt 0 (zeros packet) ≡ false = test_not_less 0 (zeros packet) (omega (arith, no_zeros packet fine is)) in
    let long : nat_lt (length packet) 6 ≡ false = test_not_less (length packet) 6 (omega (arith, is.long)) in
    let begins : is_begin false packet ≡ true = plausible packet is in
    by_tests (length packet == 0) (nat_lt 0 (zeros packet)) (nat_lt (length packet) 6) (is_begin false packet) (zeros packet) (packet_in 0 packet) some none long begins
    ∙ stands 0 packet is

framed : (resync : Resync) (marked : Bool) (packet : List ℕ) → IsFine packet → Known packet →
    front_by resync marked (before_each marked ++ packet) ≡ Packet (length (before_each marked)) (length packet)
framed Never true packet fine is = behind_marker packet is
framed Never false packet fine is = plain packet fine is
framed Within marked packet fine is = sought marked packet fine is
framed AtEnd marked packet fine is = ap uncut (sought marked packet fine is)

fate_is : (faulty : Bool) (packet : List ℕ) → stream_fault packet ≡ None → Known packet → fate_of (record { idle = true; faulty = faulty; only = [] }) packet ≡ Kept
fate_is faulty packet fine is =
    let long : nat_lt 65536 (length packet) ≡ false = test_not_less 65536 (length packet) (omega (arith, is.short)) in
    rw (long, fine) refl

-- ---- all packets

module _ (marked : Bool) (resync : Resync) (faulty : Bool) (times : Times) where
  one_more : (packet : List ℕ) (packets : List (List ℕ)) → IsFine packet → kept_in (all_of marked resync faulty times) (archive_of marked packets) ≡ concat packets →
      kept_in (all_of marked resync faulty times) (archive_of marked (packet ∷ packets)) ≡ packet ++ concat packets
  one_more packet packets fine others =
      let is : Known packet = known packet fine.fault in
      let before : List ℕ = before_each marked in
      let rest : List ℕ = archive_of marked packets in
      let there : front_by resync marked ((before ++ packet) ++ rest) ≡ Packet (length before) (length packet) =
      same_front resync marked (before ++ packet) rest (length before) (length packet) (framed resync marked packet fine is) in
      let behind : drop (length before) ((before ++ packet) ++ rest) ≡ packet ++ rest =
      ap (drop (length before)) (append_assoc before packet rest) ∙ drop-append_seam before (packet ++ rest) in
      let it : take (length packet) (drop (length before) ((before ++ packet) ++ rest)) ≡ packet = ap (take (length packet)) behind ∙ take-append_seam packet rest in
      let past : drop (length before + length packet) ((before ++ packet) ++ rest) ≡ rest =
      ap (λ n. drop n ((before ++ packet) ++ rest)) (sym (length-append before packet)) ∙ drop-append_seam (before ++ packet) rest in
      kept_packet (all_of marked resync faulty times) ((before ++ packet) ++ rest) (length before) (length packet) Kept there
      (ap (fate_of (record { idle = true; faulty = faulty; only = [] })) it ∙ fate_is faulty packet fine.fault is)
      ∙ (λ i. it i ++ kept_in (all_of marked resync faulty times) (past i))
      ∙ ap (λ more. packet ++ more) others

  all_kept : (packets : List (List ℕ)) → AllByRecursion IsFine packets → kept_in (all_of marked resync faulty times) (archive_of marked packets) ≡ concat packets
  all_kept [] fine = kept_nothing (all_of marked resync faulty times)
  all_kept (packet ∷ packets) fine = one_more packet packets fine.0 (all_kept packets fine.1)

pub archives_are_given_back : ArchivesAreGivenBack
archives_are_given_back marked resync faulty times clock packets fine =
    (imports_are_given_back (all_of marked resync faulty times) clock (archive_of marked packets)).all ∙ all_kept marked resync faulty times packets fine
