use Rattle.std.proofs.Common.{◌≡◌, ◌∙◌, sym, ap, ℕ, ◌+◌, ◌-◌, ◌≤◌, List, ◌++◌, length, take, drop, arith, length-drop}
use Rattle.std.specs.List.{copy_within}
use Rattle.std.proofs.Math.Seq.{take-append_seam}
use Rattle.std.proofs.lemmas.List.{drop-take, length-take-le}
use Rattle.flight_core.proofs.window.move_to_front.Goals as goal

moved : (start end : ℕ) (bytes : List ℕ) → start ≤ end → end ≤ length bytes → take (end - start) (copy_within bytes start end 0) ≡ drop start (take end bytes)
moved start end bytes ordered inside =
    let part = take (end - start) (drop start bytes) in
    let long : length part ≡ end - start = length-take-le (end - start) (drop start bytes) (omega (arith, length-drop start bytes, inside)) in
    let whole : start + (end - start) ≡ end = omega (arith, ordered) in
    ap (λ n. take n (part ++ drop (0 + (end - start)) bytes)) (sym long)
    ∙ take-append_seam part (drop (0 + (end - start)) bytes)
    ∙ sym (drop-take start (end - start) bytes)
    ∙ ap (λ n. drop start (take n bytes)) whole

pub returns-clause-items : goal.returns-clause-items
returns-clause-items c =
    ap (take (c.args.end - c.args.start)) c.copy_within.ensures.items
    ∙ moved c.args.start c.args.end c.args.bytes.now.items c.requires.ordered c.requires.inside
