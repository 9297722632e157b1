-- The edition in use. This project's own.
use Rattle.std.specs.Prelude.{List, [], ◌∷◌}
use Rattle.lc_model.specs.Condition.{Condition}
use Rattle.lc_model.specs.Tables.Equation.{heavier_first}
use Rattle.lc_model.specs.Tables.Compiling.{Limits}
use Rattle.lc_model.specs.Tables.Image.{Layout, Watchpoints, Actionpoints, WideActionpoints, words_in}
use Rattle.lc_model.specs.Tables.Edition.{Edition}

-- The layout of compiled ADTs: version 2, with 32 words an equation.
abbrev pub compiled_actionpoints : Layout
compiled_actionpoints = WideActionpoints

-- All layouts that LC accepts; the last of each kind is the compiled one.
abbrev pub layouts : List Layout
layouts = Watchpoints ∷ Actionpoints ∷ compiled_actionpoints ∷ []

-- An equation has at most as many words as an entry of the compiled ADT.
abbrev pub limits : Limits
limits = record { words = words_in compiled_actionpoints }

-- Conditions are compiled with the heavier operand first.
abbrev pub arranged : Condition → Condition
arranged = heavier_first

-- The edition in use: these layouts, at most 32 words an equation, the heavier operand first.
abbrev pub edition : Edition
edition = record { layouts = layouts; limits = limits; arranged = arranged }
