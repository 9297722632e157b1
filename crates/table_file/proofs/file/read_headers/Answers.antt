use Rattle.std.proofs.Common.{refl, sym, ap, ◌∙◌, Ok, slice_range}
use Rattle.table_file.proofs.Opening.{is_not_read, is_read, by_tests, rest_is}
use Rattle.lc_model.proofs.Facts.{test_not_less}
use Rattle.table_file.proofs.file.read_headers.Goals as goal

pub returns-then-u32_at-ne-CONTENT_TYPE : goal.returns-then-u32_at-ne-CONTENT_TYPE
returns-then-u32_at-ne-CONTENT_TYPE c =
    by_tests c.args.bytes.now
    (test_not_less _ _ c.if-bytes-lt-HEADERS_LENGTH.false)
    (is_not_read _ _ _ c.u32_at.ensures c.if-u32_at-ne-CONTENT_TYPE.true)
    refl
    refl
    refl
    refl

pub returns-then-u32_at-ne-SUBTYPE : goal.returns-then-u32_at-ne-SUBTYPE
returns-then-u32_at-ne-SUBTYPE c =
    by_tests c.args.bytes.now
    (test_not_less _ _ c.if-bytes-lt-HEADERS_LENGTH.false)
    (is_read _ _ _ c.u32_at.ensures c.if-u32_at-ne-CONTENT_TYPE.false)
    (is_not_read _ _ _ c.u32_at-2.ensures c.if-u32_at-ne-SUBTYPE.true)
    refl
    refl
    refl

pub returns-then-u32_at-ne-FILE_HEADER_LENGTH : goal.returns-then-u32_at-ne-FILE_HEADER_LENGTH
returns-then-u32_at-ne-FILE_HEADER_LENGTH c =
    by_tests c.args.bytes.now
    (test_not_less _ _ c.if-bytes-lt-HEADERS_LENGTH.false)
    (is_read _ _ _ c.u32_at.ensures c.if-u32_at-ne-CONTENT_TYPE.false)
    (is_read _ _ _ c.u32_at-2.ensures c.if-u32_at-ne-SUBTYPE.false)
    (is_not_read _ _ _ c.u32_at-3.ensures c.if-u32_at-ne-FILE_HEADER_LENGTH.true)
    refl
    refl

pub returns-then-u32_at-ne0 : goal.returns-then-u32_at-ne0
returns-then-u32_at-ne0 c =
    by_tests c.args.bytes.now
    (test_not_less _ _ c.if-bytes-lt-HEADERS_LENGTH.false)
    (is_read _ _ _ c.u32_at.ensures c.if-u32_at-ne-CONTENT_TYPE.false)
    (is_read _ _ _ c.u32_at-2.ensures c.if-u32_at-ne-SUBTYPE.false)
    (is_read _ _ _ c.u32_at-3.ensures c.if-u32_at-ne-FILE_HEADER_LENGTH.false)
    (is_not_read _ _ _ c.u32_at-4.ensures c.if-u32_at-ne0.true)
    refl

pub returns-then-u32_at-bytes : goal.returns-then-u32_at-bytes
returns-then-u32_at-bytes c =
    by_tests c.args.bytes.now
    (test_not_less _ _ c.if-bytes-lt-HEADERS_LENGTH.false)
    (is_read _ _ _ c.u32_at.ensures c.if-u32_at-ne-CONTENT_TYPE.false)
    (is_read _ _ _ c.u32_at-2.ensures c.if-u32_at-ne-SUBTYPE.false)
    (is_read _ _ _ c.u32_at-3.ensures c.if-u32_at-ne-FILE_HEADER_LENGTH.false)
    (is_read _ _ _ c.u32_at-4.ensures c.if-u32_at-ne0.false)
    (is_not_read _ _ _ c.u32_at-5.ensures c.if-u32_at-bytes.true)

pub returns : goal.returns
returns c =
    by_tests c.args.bytes.now
    (test_not_less _ _ c.if-bytes-lt-HEADERS_LENGTH.false)
    (is_read _ _ _ c.u32_at.ensures c.if-u32_at-ne-CONTENT_TYPE.false)
    (is_read _ _ _ c.u32_at-2.ensures c.if-u32_at-ne-SUBTYPE.false)
    (is_read _ _ _ c.u32_at-3.ensures c.if-u32_at-ne-FILE_HEADER_LENGTH.false)
    (is_read _ _ _ c.u32_at-4.ensures c.if-u32_at-ne0.false)
    (is_read _ _ _ c.u32_at-5.ensures c.if-u32_at-bytes.false)
    ∙ ap Ok (λ i. record {
      spacecraft = sym c.u32_at-6.ensures i;
      processor = sym c.u32_at-7.ensures i;
      application = sym c.u32_at-8.ensures i;
      seconds = sym c.u32_at-9.ensures i;
      subseconds = sym c.u32_at-10.ensures i;
      description = slice_range c.args.bytes.now 32 64;
      reserved = sym c.u32_at-11.ensures i;
      name_field = slice_range c.args.bytes.now 76 116;
      image = sym (rest_is c.args.bytes.now 116) i;
    })
