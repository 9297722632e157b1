-- The last packet of a message id among some.
use Rattle.std.proofs.Common.{◌≡◌, ℕ, ◌<◌, true, ◌==◌, List, ◌∷◌, length, drop, drop-cons, get_or, ap, ◌∙◌, sym, suc, arith, Some, if◌then◌else◌, Vec}
use Rattle.std.specs.Global.{Global}
use Rattle.std.proofs.lemmas.Bool.Decides.{nat_tests}
use Rattle.lc_model.specs.Packet.{message_id}
use Rattle.lc_model.specs.LimitChecker.Watch.{last_packet}
use Rattle.rule_analysis.specs.Came.{history_of}

pub last_here : (packets : List (Vec ℕ Global)) (mid i : ℕ) (packet d : Vec ℕ Global) (bytes : List ℕ) → i < length packets → packet ≡ get_or packets i d →
    bytes ≡ packet.items → message_id packet.items ≡ mid → last_packet mid (history_of packets) ≡ last_packet mid (history_of (drop i packets)) →
    last_packet mid (history_of packets) ≡ Some (bytes, 0)
last_here packets mid i packet d bytes below is are same so_far =
    so_far ∙ ap (λ (ps : List (Vec ℕ Global)). last_packet mid (history_of ps)) (drop-cons packets i d below)
    ∙ ap (λ (p : Vec ℕ Global). last_packet mid (history_of (p ∷ drop (suc i) packets))) (sym is)
    ∙ ap (λ test. if test then Some (packet.items, 0) else last_packet mid (history_of (drop (suc i) packets))) own
    ∙ ap (λ b. Some (b, 0)) (sym are)
  where
    own : (message_id packet.items == mid) ≡ true
    own = grind (arith, nat_tests)
