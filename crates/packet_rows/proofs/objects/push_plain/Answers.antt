use Rattle.std.proofs.Common.{rules}
use Rattle.packet_rows.proofs.Plain.{plain_string}
use Rattle.packet_rows.proofs.objects.push_plain.Goals as goal

pub returns : goal.returns
returns c =
    plain_string c.args.out.now.items c.push.new.self.items c.extend_from_slice.new.self.items c.push-2.new.self.items c.args.text.now c.requires
    (search rules) (search rules) (search rules)
