-- The stream of what was said, and its faults.
use Rattle.std.proofs.Common.{◌≡◌, refl, sym, ◌∙◌, ap, subst, List, ◌∷◌, ℕ, Option, Result, Ok}
use denote.Ref.{Bor}
use Rattle.text_lines.specs.Lines.{lines_in}
use Rattle.stream_script.specs.declared.error.ScriptError.{ScriptError}
use Rattle.stream_script.specs.declared.error.ScriptError.TheVariants.{Line, Memory}
use Rattle.stream_script.specs.Error.{IsScriptError, ScriptFault}
use Rattle.stream_script.specs.Script.{Said, lines_said, stream_of}

pub refused : (lines : Result Said ScriptFault) (error : ScriptError) → IsScriptError lines error → IsScriptError (stream_of lines) error
refused lines (Line n reason) is = ap stream_of is
refused lines Memory is = tt

pub accepted : (lines : Result Said ScriptFault) (error : ScriptError) → IsScriptError lines error → (stream : List ℕ) → stream_of lines ≡ Ok stream → error ≡ Memory
accepted lines (Line n reason) is stream ok = cc (sym (ap stream_of is) ∙ ok)
accepted lines Memory is stream ok = refl

-- the line in front of what is left is refused, and so are all lines
pub line_refused : (said : Said) (n : ℕ) (left : Option (Bor (List ℕ))) (line : List ℕ) (rest : Option (Bor (List ℕ))) (whole : Result Said ScriptFault) (error : ScriptError) →
    lines_said said n (lines_in left) ≡ whole → lines_in left ≡ line ∷ lines_in rest →
    ((lines : List (List ℕ)) → IsScriptError (lines_said said n (line ∷ lines)) error) → IsScriptError whole error
line_refused said n left line rest whole error says parts refuses =
    subst (λ (r : Result Said ScriptFault). IsScriptError r error) (sym (ap (lines_said said n) parts) ∙ says) (refuses (lines_in rest))
