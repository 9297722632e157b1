-- Which rules a schedule samples, slot by slot.
use Rattle.std.proofs.Common.{◌≡◌, ap, ℕ, zero, suc, ◌<◌, ◌||◌, true, false, [], ◌∷◌, length, drop, arith}
use Rattle.lc_model.specs.Host.Schedule.{Schedule, entries_at}
use Rattle.run_account.specs.Lanes.{is_scheduled}
use Rattle.run_account.specs.Samples.{are_taking, entry_requests}

pub scheduled_here : (all : Schedule) (n rule : ℕ) → n < length all → are_taking (entry_requests (entries_at all n)) rule ≡ true → is_scheduled (drop n all) rule ≡ true
scheduled_here [] n rule less is = absurd (omega (arith, less))
scheduled_here (slot ∷ slots) zero rule less is = ap (λ one. one || is_scheduled slots rule) is
scheduled_here (slot ∷ slots) (suc n) rule less is = scheduled_here slots n rule (omega (arith, less)) is

pub not_in_slot : (all : Schedule) (n rule : ℕ) → n < length all → are_taking (entry_requests (entries_at all n)) rule ≡ false → is_scheduled (drop n all) rule ≡ is_scheduled (drop (suc n) all) rule
not_in_slot [] n rule less is = absurd (omega (arith, less))
not_in_slot (slot ∷ slots) zero rule less is = ap (λ one. one || is_scheduled slots rule) is
not_in_slot (slot ∷ slots) (suc n) rule less is = not_in_slot slots n rule (omega (arith, less)) is
