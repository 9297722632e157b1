use Rattle.std.proofs.Common.{◌≡◌, ◌++◌, take, string_bytes, encode_utf8_all}
use Rattle.diagnostics.proofs.quoting.push_bytes.Given as goal

abbrev pub invariant-loop-column : goal.invariant-loop-column
invariant-loop-column l =
    string_bytes l.text ≡ string_bytes l.initial.text ++ encode_utf8_all (take l.column-index l.column-items)
