use Rattle.std.proofs.Common.{map, sym, ◌∙◌}
use Rattle.lc_model.specs.Name.{lc_name}
use Rattle.lc_model.specs.Kept.Next.{by_counts}
use Rattle.lc_model.specs.LimitChecker.Steps.{standing}
use Rattle.limit_checker.proofs.Requesting.{tells_mode}
use Rattle.limit_checker.proofs.application.Application.tell_standing.Goals as goal

pub returns-clause-told : goal.returns-clause-told
returns-clause-told c =
    tells_mode c.args.self.now.seat (map (standing by_counts) c.args.self.now.engine.points) c.args.services.now c.send_housekeeping.new.self c.mode.ensures
    (c.send_housekeeping.ensures.told c.args.self.now.seat lc_name (map (standing by_counts) c.args.self.now.engine.points) (sym (c.as_slice.ensures.value ∙ c.standings-standings.ensures.bytes)) c.requires.sends.sends)
