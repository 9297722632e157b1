-- A line that a scenario's `state` becomes is one for which the text in force is asked.
use Rattle.std.proofs.Common.{◌≡◌, refl, ◌∙◌, ap, ℕ, lit<, Bool, true, false, List, [], ◌∷◌, ◌++◌, drop, Some, None, Result, Ok, Err, if◌then◌else◌}
use Rattle.std.specs.Prelude.{Option, codes}
use Rattle.std.specs.Fmt.{char_count, digits, padded_integral}
use Rattle.lc_model.specs.Bytes.{u16}
use Rattle.lc_model.specs.Packet.{lc_command_mid}
use Rattle.lc_model.specs.Host.ScheduleText.{words_of}
use Rattle.scenarios.specs.declared.error.Reason.{Reason}
use Rattle.scenarios.specs.Error.{◌>>=◌}
use Rattle.scenarios.specs.Orders.{command_line, is_off, rule_number, standing_number, state_by, state_of}
use Rattle.stream_script.proofs.Again.{IsWord, next_word}
use Rattle.scenario_trial.specs.Settled.{StatesAreMarked, are_of_state, sets_state}

-- ---- the words in front of a payload

words_in_front : (code payload : List ℕ) → IsWord code →
    words_of (codes "command " ++ (codes "18a4" ++ (codes " " ++ (code ++ (codes " " ++ payload))))) ≡ codes "command" ∷ codes "18a4" ∷ code ∷ words_of payload
words_in_front code payload is =
    next_word (codes "command") (codes "18a4" ++ (32 ∷ (code ++ (32 ∷ payload)))) (record { plain = refl; some = lit< tt })
    ∙ ap (λ (ws : List (List ℕ)). codes "command" ∷ ws)
    (next_word (codes "18a4") (code ++ (32 ∷ payload)) (record { plain = refl; some = lit< tt })
    ∙ ap (λ (ws : List (List ℕ)). codes "18a4" ∷ ws) (next_word code payload is))

one_state : (payload : List ℕ) → sets_state (command_line lc_command_mid 3 payload) ≡ true
unfolding padded_integral digits char_count
one_state payload = ap are_of_state (words_in_front (codes "3") (drop 15 (command_line lc_command_mid 3 payload)) (record { plain = refl; some = lit< tt }))

for_good : (payload : List ℕ) → sets_state (command_line lc_command_mid 4 payload) ≡ true
unfolding padded_integral digits char_count
for_good payload = ap are_of_state (words_in_front (codes "4") (drop 15 (command_line lc_command_mid 4 payload)) (record { plain = refl; some = lit< tt }))

-- ---- each line of a state

abbrev Marks : Result (List ℕ) Reason → Type 0
Marks said = (line : List ℕ) → said ≡ Ok line → sets_state line ≡ true

this_marks : (it : List ℕ) → sets_state it ≡ true → Marks (Ok it)
this_marks it is line same = cc

state_marks : (rule : ℕ) (state : Option ℕ) → Marks (state_by rule state)
state_marks rule None = λ line same. absurd (cc same)
state_marks rule (Some state) = this_marks (command_line lc_command_mid 3 (u16 rule ++ u16 state)) (one_state (u16 rule ++ u16 state))

rule_marks : (name state : List ℕ) (rule : ℕ) → Marks (state_of name state rule)
rule_marks name state rule = by_test (is_off name state)
  where
    by_test : (off : Bool) → Marks (if off then Ok (command_line lc_command_mid 4 (u16 rule ++ u16 0)) else state_by rule (standing_number state))
    by_test true = this_marks (command_line lc_command_mid 4 (u16 rule ++ u16 0)) (for_good (u16 rule ++ u16 0))
    by_test false = state_marks rule (standing_number state)

said_marks : (name state : List ℕ) (found : Result ℕ Reason) → Marks (found >>= state_of name state)
said_marks name state (Ok rule) = rule_marks name state rule
said_marks name state (Err reason) = λ line same. absurd (cc same)

pub states_are_marked : StatesAreMarked
states_are_marked rules force [] = λ line same. absurd (cc same)
states_are_marked rules force (name ∷ []) = λ line same. absurd (cc same)
states_are_marked rules force (name ∷ state ∷ []) = said_marks name state (rule_number force name rules)
states_are_marked rules force (name ∷ state ∷ more ∷ words) = λ line same. absurd (cc same)
