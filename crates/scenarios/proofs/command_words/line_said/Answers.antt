-- What was written to the front is the command.
use Rattle.std.proofs.Common.{◌≡◌, ◌∙◌, ap, subst, List, ℕ, Option}
use Rattle.std.specs.Prelude.{IfOk, IfSome, option_map}
use Rattle.lc_model.specs.Packet.{command}
use Rattle.scenarios.specs.CommandWords.{SaysPacket, payload_tried, read_back}
use Rattle.scenarios.proofs.CommandSaid.{command_in_front}
use Rattle.scenarios.proofs.command_words.line_said.Goals as goal

pub returns-clause-says : goal.returns-clause-says
returns-clause-says c =
    subst (λ (packet : List ℕ). IfOk c.read_back.result (λ line. IfSome line (λ it. SaysPacket c.args.declared.now it.items packet)))
    (command_in_front c.args.mid c.args.code c.args.payload.now _ c.build_command-size.new.out c.front.result.now c.build_command-size.result
    c.build_command-size.ensures.size c.build_command-size.ensures.bytes c.front.ensures)
    c.read_back.ensures.says

pub returns-clause-exact : goal.returns-clause-exact
returns-clause-exact c =
    let written = command_in_front c.args.mid c.args.code c.args.payload.now _ c.build_command-size.new.out c.front.result.now c.build_command-size.result
    c.build_command-size.ensures.size c.build_command-size.ensures.bytes c.front.ensures in
    subst (λ (packet : List ℕ). IfOk c.read_back.result (λ line. option_map (λ it. it.items) line ≡
    read_back c.args.declared.now packet (payload_tried c.args.declared.now.rules c.args.mid c.args.code c.args.payload.now)))
    written
    (subst (λ (tried : Option (List ℕ)). IfOk c.read_back.result (λ line. option_map (λ it. it.items) line ≡ read_back c.args.declared.now c.front.result.now tried))
    (c.in_ok-tried.ensures ∙ ap (λ rules. payload_tried rules c.args.mid c.args.code c.args.payload.now) c.rules.ensures)
    c.read_back.ensures.exact)
