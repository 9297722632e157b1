use Rattle.std.proofs.Common.{◌≡◌, ◌∙◌, ap, sym, Some, Option, None, false, refl}
use Rattle.std.specs.Prelude.{is_none, option_map, IsSome}
use Rattle.rule_parser.specs.Syntax.{field_of, packet_of, name_of, items_of}
use Rattle.field_checker.proofs.Accepted.{packet_is_there, mid_is_short}
use Rattle.field_checker.proofs.meaning.term.Goals as goal

-- what a function shows is there is there
seen : {A B : Type 0} (f : A → B) (o : Option A) (shown : Option B) → option_map f o ≡ shown → is_none shown ≡ false → IsSome o
seen f (Some x) shown e there = refl
seen f None None e there = absurd (cc there)
seen f None (Some y) e there = absurd (cc e)

pub unwrap-packet-requires : goal.unwrap-packet-requires
unwrap-packet-requires c =
    seen (λ p. packet_of p.now) c.packet.result _ c.packet.ensures
    (packet_is_there (items_of c.args.names.now.items.now) (name_of c.args.comparison.now.field) (field_of c.unwrap-field.result.now) c.requires.accepted
    (sym c.field.ensures ∙ ap (option_map (λ f. field_of f.now)) c.unwrap-field.ensures))

pub watchpoint-requires : goal.watchpoint-requires
watchpoint-requires c =
    mid_is_short (items_of c.args.names.now.items.now) (name_of c.unwrap-field.result.now.packet) (packet_of c.unwrap-packet.result.now) c.requires.accepted
    (sym c.packet.ensures ∙ ap (option_map (λ p. packet_of p.now)) c.unwrap-packet.ensures)
