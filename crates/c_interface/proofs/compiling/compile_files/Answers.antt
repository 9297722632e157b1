use Rattle.std.proofs.Common.{rules, ap}
use Rattle.c_interface.specs.declared.compiling.Compiled.{Compiled}
use Rattle.c_interface.proofs.Files.{are_files, uncompiled}
use Rattle.c_interface.proofs.compiling.compile_files.Goals.{in-Ok, in-Err}
use Rattle.c_interface.proofs.compiling.compile_files.Goals as goal

pub returns-clause-compiled : goal.returns-clause-compiled
returns-clause-compiled c is = elim c.match-compile.branch [
  | in-Ok w ↦ are_files c.args.text.now c.match-compile.wdt c.match-compile.adt c.match-compile.told.watchpoints c.match-compile.told.rules
      c.compile.result w.in-Ok.pair w.in-Ok.is c.compile.ensures.compiles
      (search rules) (search rules)
      (ap (λ (t : Compiled). t.watchpoints) w.told-is) (ap (λ (t : Compiled). t.rules) w.told-is)
  | in-Err w ↦ search rules
]

pub returns-clause-said : goal.returns-clause-said
returns-clause-said c refused = elim c.match-compile.branch [
  | in-Ok w ↦ search rules
  | in-Err w ↦ uncompiled c.args.text.now c.match-compile.told.refusal c.match-compile.told.sentence c.compile.result w.in-Err.error w.in-Err.is
      c.compile.ensures.refused (search rules) (search rules)
]
