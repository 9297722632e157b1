-- A record that was found is what the definitions read, with the compiled file in the place of a half.
use Rattle.std.proofs.Common.{◌≡◌, refl, sym, ◌∙◌, ap, ℕ, zero, suc, ◌<◌, ◌≤◌, get_or, List, [], ◌∷◌, length, arith, Bor}
use Rattle.lc_model.specs.declared.kind.Kind.{Kind}
use Rattle.lc_model.specs.declared.record.Body.{Body}
use Rattle.lc_model.specs.declared.record.Body.TheVariants as body
use Rattle.lc_model.specs.declared.record.Moment.{Moment}
use Rattle.lc_model.specs.declared.record.Record.{Record as Given}
use Rattle.lc_model.specs.Host.React.{File}
use Rattle.lc_model.specs.Host.Run.{input_of}
use Rattle.lc_model.specs.Host.Stream as stream
use Rattle.lc_model.specs.Services.Seen.{meaning_of}
use Rattle.rpn_compiler.specs.declared.files.TablePair.{TablePair}
use Rattle.app_host.specs.Step.{input_by, IsNamed}
use Rattle.flight_core.specs.Answer.{Entry}
use Rattle.flight_core.specs.Found.{contents_in}
use Rattle.flight_core.specs.Compiled.{file_of, file_in}
use Rattle.flight_core.specs.Brought.{meanings_of, AreWhole, IsTaken}

-- a packet, a tick or a file
input_is : (pairs : List TablePair) (b : Body) → input_by b ≡ input_of (meanings_of pairs) (contents_in b)
input_is pairs (body.Packet bytes) = refl
input_is pairs body.Tick = refl
input_is pairs (body.File name bytes) = refl

pub taken : (pairs : List TablePair) (given : Given) → IsNamed given.body → IsTaken pairs (Entry (record { moment = given.moment; contents = contents_in given.body })) given
taken pairs given named = record {
  entry = record { moment = given.moment; contents = contents_in given.body };
  is = refl;
  moment = refl;
  input = input_is pairs given.body;
  named = named;
}

-- the file of the text with a number
pub file_at : (kind : Kind) (pairs : List TablePair) (n : ℕ) (pair : TablePair) → n < length pairs → pair ≡ get_or pairs n pair → file_of kind pair ≡ file_in pairs kind n
file_at kind [] n pair less is = absurd (omega (arith, less))
file_at kind (first ∷ pairs) zero pair less is = ap (file_of kind) is
file_at kind (first ∷ pairs) (suc n) pair less is = file_at kind pairs n pair (omega (arith, less)) is

-- a half
pub half_taken : (pairs : List TablePair) (moment : Moment) (name : Bor (List ℕ)) (kind : Kind) (n : ℕ) (bytes : Bor (List ℕ)) → AreWhole pairs → n < length pairs →
    bytes.now ≡ file_in pairs kind n → length name.now ≤ 40 →
    IsTaken pairs (Entry (record { moment = moment; contents = stream.Half name.now kind n })) (record { moment = moment; body = body.File name bytes })
half_taken pairs moment name kind n bytes whole less is named = record {
  entry = record { moment = moment; contents = stream.Half name.now kind n };
  is = refl;
  moment = refl;
  input = (λ i. File name.now (length (is i)) (meaning_of (is i))) ∙ (λ i. File name.now (sym (whole kind n less) i) (meaning_of (file_in pairs kind n)));
  named = named;
}
