-- Packets are laid one after the other.
use Rattle.std.proofs.Common.{◌≡◌, ℕ, ◌/◌, ◌%◌, ◌<◌, Bool, true, false, ◌||◌, if◌then◌else◌, ◌==◌, ◌≤◌, List, [], ◌∷◌, ◌++◌, length, refl, ap, sym, subst, arith, Some, None, slice_index, get_or, Vec}
use Rattle.std.specs.Prelude.{IsTrue, is_some}
use Rattle.std.specs.Global.{Global}
use Rattle.std.specs.List.{list_any}
use Rattle.std.proofs.lemmas.Bool.Decides.{nat_tests}
use Rattle.lc_model.specs.Packet.{message_id}
use Rattle.lc_model.specs.LimitChecker.Watch.{last_packet}
use Rattle.rule_analysis.specs.declared.fields.Field.{Field}
use Rattle.rule_analysis.specs.declared.packets.Chosen.{Chosen}
use Rattle.rule_analysis.specs.Came.{history_of}
use Rattle.rule_analysis.specs.Laid.{IsLaid, AreLaidFor, chosen_of}
use Rattle.rule_analysis.proofs.Each.{both, each}

-- ---- fields with bits

abbrev pub pair_of : Field → ℕ → Chosen
pair_of f b = record { field = f; bits = b }

pub one_pair_more : (before : List Field) (bits : List ℕ) (f : Field) (b : ℕ) → length (chosen_of before bits) < length bits →
    b ≡ get_or bits (length (chosen_of before bits)) 0 → chosen_of (before ++ f ∷ []) bits ≡ chosen_of before bits ++ pair_of f b ∷ []
one_pair_more [] [] f b below is = absurd (omega (arith, below))
one_pair_more [] (c ∷ bits) f b below is = ap (λ own. pair_of f own ∷ []) (sym is)
one_pair_more (g ∷ before) [] f b below is = absurd (omega (arith, below))
one_pair_more (g ∷ before) (c ∷ bits) f b below is = ap (λ rest. pair_of g c ∷ rest) (one_pair_more before bits f b (omega (arith, below)) is)

pub no_pair_more : (before : List Field) (bits : List ℕ) (f : Field) → length bits ≤ length (chosen_of before bits) →
    chosen_of (before ++ f ∷ []) bits ≡ chosen_of before bits
no_pair_more [] [] f past = refl
no_pair_more [] (c ∷ bits) f past = absurd (omega (arith, past))
no_pair_more (g ∷ before) [] f past = refl
no_pair_more (g ∷ before) (c ∷ bits) f past = ap (λ rest. pair_of g c ∷ rest) (no_pair_more before bits f (omega (arith, past)))

-- ---- packets

pub own_id : (chosen : List Chosen) (mid : ℕ) (packet : List ℕ) → IsLaid chosen mid packet → message_id packet ≡ mid
own_id chosen mid packet is =
    let high : slice_index packet 0 ≡ mid / 256 = is.bytes 0 (omega (arith, is.size.least)) in
    let low : slice_index packet 1 ≡ mid % 256 = is.bytes 1 (omega (arith, is.size.least)) in
    omega (arith, high, low)

-- a packet more takes away none
still_there : (mid : ℕ) (packets : List (Vec ℕ Global)) (packet : Vec ℕ Global) → IsTrue (is_some (last_packet mid (history_of packets))) →
    IsTrue (is_some (last_packet mid (history_of (packets ++ packet ∷ []))))
still_there mid [] packet there = absurd (cc there)
still_there mid (p ∷ packets) packet there = by_test (message_id p.items == mid) (still_there mid packets packet) there
  where
    by_test : (test : Bool) → (IsTrue (is_some (last_packet mid (history_of packets))) → IsTrue (is_some (last_packet mid (history_of (packets ++ packet ∷ []))))) →
        IsTrue (is_some (if test then Some (p.items, 0) else last_packet mid (history_of packets))) →
        IsTrue (is_some (if test then Some (p.items, 0) else last_packet mid (history_of (packets ++ packet ∷ []))))
    by_test true later h = refl
    by_test false later h = later h

now_there : (mid : ℕ) (packets : List (Vec ℕ Global)) (packet : Vec ℕ Global) → message_id packet.items ≡ mid →
    IsTrue (is_some (last_packet mid (history_of (packets ++ packet ∷ []))))
now_there mid [] packet own = by_test (message_id packet.items == mid) (grind (arith, nat_tests))
  where
    by_test : (test : Bool) → test ≡ true → IsTrue (is_some {T = List ℕ × ℕ} (if test then Some (packet.items, 0) else None))
    by_test true e = refl
    by_test false e = cc
now_there mid (p ∷ packets) packet own = by_test (message_id p.items == mid) (now_there mid packets packet own)
  where
    by_test : (test : Bool) → IsTrue (is_some (last_packet mid (history_of (packets ++ packet ∷ [])))) →
        IsTrue (is_some (if test then Some (p.items, 0) else last_packet mid (history_of (packets ++ packet ∷ []))))
    by_test true later = refl
    by_test false later = later

any_more : {A : Type 0} (P : A → Bool) (xs : List A) (x : A) → IsTrue (list_any P xs) → IsTrue (list_any P (xs ++ x ∷ []))
any_more P [] x any = absurd (cc any)
any_more P (y ∷ xs) x any = by_test (P y) (any_more P xs x) any
  where
    by_test : (test : Bool) → (IsTrue (list_any P xs) → IsTrue (list_any P (xs ++ x ∷ []))) → IsTrue (test || list_any P xs) → IsTrue (test || list_any P (xs ++ x ∷ []))
    by_test true later h = refl
    by_test false later h = later h

any_last : {A : Type 0} (P : A → Bool) (xs : List A) (x : A) → IsTrue (P x) → IsTrue (list_any P (xs ++ x ∷ []))
any_last P [] x here = by_test (P x) here
  where
    by_test : (test : Bool) → IsTrue test → IsTrue (test || false)
    by_test true h = refl
    by_test false h = cc
any_last P (y ∷ xs) x here = by_test (P y) (any_last P xs x here)
  where
    by_test : (test : Bool) → IsTrue (list_any P (xs ++ x ∷ [])) → IsTrue (test || list_any P (xs ++ x ∷ []))
    by_test true h = refl
    by_test false h = h

-- some chosen field has this message id
abbrev has_mid : List Chosen → Vec ℕ Global → Bool
has_mid before packet = list_any (λ (one : Chosen). one.field.mid == message_id packet.items) before

pub laid_already : (chosen before : List Chosen) (one : Chosen) (packets : List (Vec ℕ Global)) → IsTrue (is_some (last_packet one.field.mid (history_of packets))) →
    AreLaidFor chosen before packets → AreLaidFor chosen (before ++ one ∷ []) packets
laid_already chosen before one packets there so_far = record {
  each = so_far.each;
  own = each packets (λ p any. any_more (λ (o : Chosen). o.field.mid == message_id p.items) before one any) so_far.own;
  all = both (λ (o : Chosen). IsTrue (is_some (last_packet o.field.mid (history_of packets)))) before (one ∷ []) so_far.all (there, tt);
}

pub laid_newly : (chosen before : List Chosen) (one : Chosen) (packets pushed : List (Vec ℕ Global)) (packet : Vec ℕ Global) → IsLaid chosen one.field.mid packet.items →
    pushed ≡ packets ++ packet ∷ [] → AreLaidFor chosen before packets → AreLaidFor chosen (before ++ one ∷ []) pushed
laid_newly chosen before one packets pushed packet is pushes so_far =
    subst (AreLaidFor chosen (before ++ one ∷ [])) (sym pushes) (record {
      each = both (λ (p : Vec ℕ Global). IsLaid chosen (message_id p.items) p.items) packets (packet ∷ []) so_far.each
          (subst (λ mid. IsLaid chosen mid packet.items) (sym (own_id chosen one.field.mid packet.items is)) is, tt);
      own = both (λ p. IsTrue (has_mid (before ++ one ∷ []) p)) packets (packet ∷ [])
          (each packets (λ p any. any_more (λ (o : Chosen). o.field.mid == message_id p.items) before one any) so_far.own)
          (any_last (λ (o : Chosen). o.field.mid == message_id packet.items) before one (same_id (own_id chosen one.field.mid packet.items is)), tt);
      all = both (λ (o : Chosen). IsTrue (is_some (last_packet o.field.mid (history_of (packets ++ packet ∷ []))))) before (one ∷ [])
          (each before (λ o there. still_there o.field.mid packets packet there) so_far.all)
          (now_there one.field.mid packets packet (own_id chosen one.field.mid packet.items is), tt);
    })
  where
    same_id : message_id packet.items ≡ one.field.mid → IsTrue (one.field.mid == message_id packet.items)
    same_id e = grind (arith, nat_tests)
