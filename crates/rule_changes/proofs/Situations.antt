-- The last packet of a message id in a situation, and the truth of a term there.
use Rattle.std.proofs.Common.{◌≡◌, ℕ, zero, suc, Bool, true, false, ◌==◌, List, [], ◌∷◌, ◌++◌, Option, Some, None, option_map, if◌then◌else◌, refl, ap, sym, ◌∙◌, arith, Vec}
use Rattle.std.specs.Global.{Global}
use Rattle.lc_model.specs.Packet.{message_id}
use Rattle.lc_model.specs.LimitChecker.Watch.{History, last_packet, one_aging_later}
use Rattle.rule_analysis.specs.Came.{history_of}
use Rattle.rule_changes.specs.declared.situation.Situation.{Situation}
use Rattle.rule_changes.specs.Situations.{aged_by, history_in}

-- of the recent packets, or else of those before
or_else : Option (List ℕ × ℕ) → Option (List ℕ × ℕ) → Option (List ℕ × ℕ)
or_else None earlier = earlier
or_else (Some seen) earlier = Some seen

recent_or_earlier : (mid : ℕ) (recent : List (Vec ℕ Global)) (rest : History) →
    last_packet mid (history_of recent ++ rest) ≡ or_else (last_packet mid (history_of recent)) (last_packet mid rest)
unfolding or_else
recent_or_earlier mid [] rest = refl
recent_or_earlier mid (p ∷ recent) rest = by_test (message_id p.items == mid) (recent_or_earlier mid recent rest)
  where
    by_test : (b : Bool) → last_packet mid (history_of recent ++ rest) ≡ or_else (last_packet mid (history_of recent)) (last_packet mid rest) →
        (if b then Some (p.items, 0) else last_packet mid (history_of recent ++ rest))
        ≡ or_else (if b then Some (p.items, 0) else last_packet mid (history_of recent)) (last_packet mid rest)
    by_test true later = refl
    by_test false later = later

after_agings : (mid n : ℕ) (h : History) (packet : List ℕ) → last_packet mid h ≡ Some (packet, 0) → last_packet mid (aged_by n h) ≡ Some (packet, n)
after_agings mid zero h packet is = is
after_agings mid (suc n) h packet is = ap (option_map one_aging_later) (after_agings mid n h packet is) ∙ ap (λ k. Some (packet, k)) (omega arith)

none_after_agings : (mid n : ℕ) (h : History) → last_packet mid h ≡ None → last_packet mid (aged_by n h) ≡ None
none_after_agings mid zero h is = is
none_after_agings mid (suc n) h is = ap (option_map one_aging_later) (none_after_agings mid n h is)

pub last_is_recent : (s : Situation) (mid : ℕ) (packets : List (Vec ℕ Global)) (packet : List ℕ) → packets ≡ s.recent.items →
    last_packet mid (history_of packets) ≡ Some (packet, 0) → last_packet mid (history_in s) ≡ Some (packet, 0)
unfolding or_else
last_is_recent s mid packets packet are is =
    recent_or_earlier mid s.recent.items (aged_by s.agings (history_of s.earlier.items))
    ∙ ap (λ o. or_else o (last_packet mid (aged_by s.agings (history_of s.earlier.items)))) (ap (λ ps. last_packet mid (history_of ps)) (sym are) ∙ is)

last_is_earlier : (s : Situation) (mid : ℕ) (packets : List (Vec ℕ Global)) → packets ≡ s.recent.items →
    last_packet mid (history_of packets) ≡ None → last_packet mid (history_in s) ≡ last_packet mid (aged_by s.agings (history_of s.earlier.items))
unfolding or_else
last_is_earlier s mid packets are is =
    recent_or_earlier mid s.recent.items (aged_by s.agings (history_of s.earlier.items))
    ∙ ap (λ o. or_else o (last_packet mid (aged_by s.agings (history_of s.earlier.items)))) (ap (λ ps. last_packet mid (history_of ps)) (sym are) ∙ is)

pub last_is_aged : (s : Situation) (mid : ℕ) (recent earlier : List (Vec ℕ Global)) (packet : List ℕ) → recent ≡ s.recent.items → earlier ≡ s.earlier.items →
    last_packet mid (history_of recent) ≡ None → last_packet mid (history_of earlier) ≡ Some (packet, 0) → last_packet mid (history_in s) ≡ Some (packet, s.agings)
last_is_aged s mid recent earlier packet are others_are none is =
    last_is_earlier s mid recent are none
    ∙ after_agings mid s.agings (history_of s.earlier.items) packet (ap (λ ps. last_packet mid (history_of ps)) (sym others_are) ∙ is)

pub none_came : (s : Situation) (mid : ℕ) (recent earlier : List (Vec ℕ Global)) → recent ≡ s.recent.items → earlier ≡ s.earlier.items →
    last_packet mid (history_of recent) ≡ None → last_packet mid (history_of earlier) ≡ None → last_packet mid (history_in s) ≡ None
none_came s mid recent earlier are others_are none others_none =
    last_is_earlier s mid recent are none
    ∙ none_after_agings mid s.agings (history_of s.earlier.items) (ap (λ ps. last_packet mid (history_of ps)) (sym others_are) ∙ others_none)
