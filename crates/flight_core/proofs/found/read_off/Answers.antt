-- A file's name and bytes, and a half's name, are the parts of the body.
use Rattle.std.proofs.Common.{◌≡◌, ◌∙◌, sym, ℕ, ◌-◌, List, length, take, drop}
use Rattle.lc_model.specs.Host.Stream as stream
use Rattle.lc_model.specs.Name.{name_in}
use Rattle.flight_core.specs.Answer.{Entry}
use Rattle.flight_core.specs.Front.{entry_by}
use Rattle.flight_core.proofs.Slices.{take-rest}
use Rattle.flight_core.proofs.found.read_off.Goals as goal

-- the code's body
body : (bytes : List ℕ) → take (length bytes - 11) (drop 11 bytes) ≡ drop 11 bytes
body bytes = take-rest 11 bytes

pub returns-in-File-clause-entry : goal.returns-in-File-clause-entry
returns-in-File-clause-entry c =
    let bytes = c.args.bytes.now in
    (λ i. Entry (record {
      moment = c.moment_of-moment.ensures i;
      contents = stream.File (c.front_name.ensures.name i) (take-rest 40 (take (length bytes - 11) (drop 11 bytes)) i);
    }))
    ∙ (λ i. Entry (record {
      moment = stream.moment_of bytes;
      contents = stream.File (name_in (take 40 (body bytes i))) (drop 40 (body bytes i));
    }))
    ∙ (λ i. Entry (entry_by (sym c.in-File.is i) bytes))

pub returns-in-Half-clause-entry : goal.returns-in-Half-clause-entry
returns-in-Half-clause-entry c =
    let bytes = c.args.bytes.now in
    (λ i. Entry (record {
      moment = c.moment_of-moment.ensures i;
      contents = stream.Half (c.front_name-in-Half.ensures.name i) c.in-Half.kind c.in-Half.text;
    }))
    ∙ (λ i. Entry (record {
      moment = stream.moment_of bytes;
      contents = stream.Half (name_in (take 40 (body bytes i))) c.in-Half.kind c.in-Half.text;
    }))
    ∙ (λ i. Entry (entry_by (sym c.in-Half.is i) bytes))
