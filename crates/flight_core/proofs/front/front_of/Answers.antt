-- What stands in front is decided by the tests made.
use Rattle.std.proofs.Common.{sym, ◌∙◌, arith}
use Rattle.flight_core.proofs.Fronts.{IsThere, cut_in_front, none_in_front, short_in_front, whole_in_front}
use Rattle.flight_core.proofs.front.front_of.Goals as goal

pub returns-then-bytes-lt-HEADER : goal.returns-then-bytes-lt-HEADER
returns-then-bytes-lt-HEADER c = (short_in_front c.args.texts c.args.bytes.now c.if-bytes-lt-HEADER.true, omega arith)

pub returns-then-bytes-size : goal.returns-then-bytes-size
returns-then-bytes-size c = (
  cut_in_front c.args.texts c.args.bytes.now c.body_size-size.result c.if-bytes-lt-HEADER.false c.body_size-size.ensures (sym c.fits_body.ensures.exact ∙ c.if-not-fits_body.false) c.if-bytes-size.true,
  omega (arith, c.fits_body.ensures.longest c.if-not-fits_body.false),
)

pub returns-in-Some : goal.returns-in-Some
returns-in-Some c =
    let there : IsThere c.args.bytes.now c.body_size-size.result = record {
      long = c.if-bytes-lt-HEADER.false;
      same = c.body_size-size.ensures;
      fits = sym c.fits_body.ensures.exact ∙ c.if-not-fits_body.false;
      whole = c.if-bytes-size.false;
    } in
    whole_in_front c.args.texts c.args.bytes.now c.body_size-size.result c.in-Some.shape there c.in-Some.ensures.text c.in-Some.ensures.named c.in-Some.ensures.brings

pub returns-in-None : goal.returns-in-None
returns-in-None c =
    let there : IsThere c.args.bytes.now c.body_size-size.result = record {
      long = c.if-bytes-lt-HEADER.false;
      same = c.body_size-size.ensures;
      fits = sym c.fits_body.ensures.exact ∙ c.if-not-fits_body.false;
      whole = c.if-bytes-size.false;
    } in
    none_in_front c.args.texts c.args.bytes.now c.body_size-size.result there c.in-None.ensures.brings
