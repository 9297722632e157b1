-- The members of an object, one after another.
use Rattle.std.proofs.Common.{◌≡◌, sym, ◌∙◌, ap, ap₂, ℕ, ◌+◌, ◌<◌, ◌≤◌, List, ◌++◌, length, drop, get_or, append_assoc, append-nil, arith}
use Rattle.std.specs.Borrow.{Bor}
use Rattle.std.proofs.lemmas.List.{drop_all, drop_more}
use Rattle.json.specs.Print.{token_text}
use Rattle.packet_rows.specs.declared.cell.Cell.{Cell}
use Rattle.packet_rows.specs.Object.{members_text, value_of}

-- one member more; a list has other values behind its end
pub one_more : (so_far after all : List ℕ) (keys : List (Bor (List ℕ))) (cells : List Cell) (i : ℕ) (key : Bor (List ℕ)) (cell : Cell) →
    i < length keys → length cells ≡ length keys →
    so_far ++ members_text (drop i keys) (drop i cells) ≡ all →
    after ≡ so_far ++ ((get_or keys i key).now ++ token_text (value_of (get_or cells i cell))) →
    after ++ members_text (drop (i + 1) keys) (drop (i + 1) cells) ≡ all
unfolding members_text
one_more so_far after all keys cells i key cell within same before is =
    let member : List ℕ = (get_or keys i key).now ++ token_text (value_of (get_or cells i cell)) in
    let rest : List ℕ = members_text (drop (i + 1) keys) (drop (i + 1) cells) in
    let first : members_text (drop i keys) (drop i cells) ≡ member ++ rest =
    ap₂ members_text (drop_more keys i key within) (drop_more cells i cell (omega (arith, within, same))) in
    ap (λ text. text ++ rest) is ∙ append_assoc so_far member rest ∙ ap (λ text. so_far ++ text) (sym first) ∙ before

-- no key is left
pub none_left : (text all : List ℕ) (keys : List (Bor (List ℕ))) (cells : List Cell) (i : ℕ) →
    length keys ≤ i → text ++ members_text (drop i keys) (drop i cells) ≡ all → text ≡ all
unfolding members_text
none_left text all keys cells i over is =
    sym (append-nil text) ∙ ap (λ left. text ++ members_text left (drop i cells)) (sym (drop_all i keys over)) ∙ is
