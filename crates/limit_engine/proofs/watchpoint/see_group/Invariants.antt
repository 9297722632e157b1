use Rattle.std.proofs.Common.{◌≡◌, fold, take, length}
use Rattle.std.specs.List.{list_any}
use Rattle.limit_engine.specs.Grouped.{watch_seen, lacks_field}
use Rattle.limit_engine.proofs.watchpoint.see_group.Given as goal

abbrev pub invariant-loop-watch : goal.invariant-loop-watch
invariant-loop-watch l = record {
  results : l.results ≡ fold (watch_seen l.packet) l.initial.results (take l.watch-index l.group);
  long : length l.results ≡ length l.initial.results;
  short : l.short ≡ list_any (lacks_field l.packet) (take l.watch-index l.group);
}
