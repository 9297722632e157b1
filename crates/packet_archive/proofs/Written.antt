-- What is exported of the records that an import writes.
use Rattle.std.proofs.Common.{◌≡◌, refl, sym, ◌∙◌, ap, ℕ, zero, suc, ◌+◌, ◌≤◌, true, false, nat_lt, List, [], ◌++◌, length, take, drop, length-append, append_assoc, Option, Some, None, arith}
use Rattle.std.proofs.Math.Seq.{take-append_seam, drop-append_seam}
use Rattle.std.proofs.lemmas.Nat.{from_be_bytes-to_be_bytes_4}
use Rattle.lc_model.specs.declared.record.Moment.{Moment}
use Rattle.lc_model.specs.Host.Stream.{Contents, StreamEntry, End, Whole, Front, Record, all_kinds, body_size, contents_of, fits_body, front, header_size, max_body, moment_of, record_of, records_by_front, records_numbered}
use Rattle.lc_model.specs.Host.Stream as stream
use Rattle.lc_model.proofs.Facts.{test_at_most, test_not_less}
use Rattle.lc_model.proofs.Host.Streams.{front_decides}
use Rattle.stream_script.specs.Front.{any_text}
use Rattle.packet_archive.specs.Clock.{Clocked, ticks_due}
use Rattle.packet_archive.specs.Export.{exported, packet_of}
use Rattle.packet_archive.specs.Import.{record_bytes, records_at, tick_at, tick_kind, ticks, ticks_before}
use Rattle.packet_archive.proofs.Exports.{exported_by, exported_front}

-- ---- a record in front

eleven : (n : ℕ) → 11 + n ≡ suc (suc (suc (suc (suc (suc (suc (suc (suc (suc (suc n))))))))))
eleven n = omega arith

module _ (kind : ℕ) (moment : Moment) (body rest : List ℕ) where
  abbrev bytes : List ℕ
  bytes = record_bytes kind moment body ++ rest

  size_is : length body ≤ max_body → body_size bytes ≡ length body
  size_is few = from_be_bytes-to_be_bytes_4 (length body) (omega (arith, few))

  long_is : length bytes ≡ 11 + (length body + length rest)
  long_is = omega (arith, length-append body rest)

  body_is : drop 11 (take (11 + length body) bytes) ≡ body
  body_is = ap (λ n. drop 11 (take n bytes)) (eleven (length body)) ∙ take-append_seam body rest

  rest_is : drop (11 + length body) bytes ≡ rest
  rest_is = ap (λ n. drop n bytes) (eleven (length body)) ∙ drop-append_seam body rest

  by_tests : nat_lt (length bytes) header_size ≡ false → fits_body all_kinds kind (body_size bytes) ≡ true → nat_lt (length bytes) (header_size + body_size bytes) ≡ false →
      front all_kinds any_text bytes
      ≡ record_of (contents_of any_text kind (drop header_size (take (header_size + body_size bytes) bytes))) (moment_of bytes) (drop (header_size + body_size bytes) bytes)
  by_tests long fits whole = rw (long, fits, whole) refl

  pub in_front : (contents : Contents) → length body ≤ max_body → fits_body all_kinds kind (length body) ≡ true → contents_of any_text kind body ≡ Some contents →
      front all_kinds any_text bytes ≡ Record (record { moment = moment_of bytes; contents = contents }) rest
  in_front contents few fits brings =
      let size : body_size bytes ≡ length body = size_is few in
      by_tests (test_not_less (length bytes) header_size (omega (arith, long_is))) (ap (fits_body all_kinds kind) size ∙ fits)
      (test_not_less (length bytes) (header_size + body_size bytes) (omega (arith, long_is, size)))
      ∙ ap (λ n. record_of (contents_of any_text kind (drop header_size (take (header_size + n) bytes))) (moment_of bytes) (drop (header_size + n) bytes)) size
      ∙ (λ i. record_of (contents_of any_text kind (body_is i)) (moment_of bytes) (rest_is i))
      ∙ ap (λ (o : Option Contents). record_of o (moment_of bytes) rest) brings

-- ---- records that bring these packets, whatever follows

abbrev pub EndsWhole : List ℕ → Type 0
EndsWhole bytes = (number : ℕ) → (records_numbered all_kinds any_text number bytes).1 ≡ Whole

pub record Brings (out packets : List ℕ) : Type 0 where
  pub exports : (more : List ℕ) → exported (out ++ more) ≡ packets ++ exported more
  pub ends : (more : List ℕ) → EndsWhole more → EndsWhole (out ++ more)

pub brings_none : Brings [] []
brings_none = record { exports = λ more. refl; ends = λ more whole. whole }

pub brings_both : (a b p q : List ℕ) → Brings a p → Brings b q → Brings (a ++ b) (p ++ q)
brings_both a b p q first second = record {
  exports = λ more.
      ap exported (append_assoc a b more)
      ∙ first.exports (b ++ more)
      ∙ ap (λ out. p ++ out) (second.exports more)
      ∙ sym (append_assoc p q (exported more));
  ends = λ more whole number.
      ap (λ (bytes : List ℕ). (records_numbered all_kinds any_text number bytes).1) (append_assoc a b more)
      ∙ first.ends (b ++ more) (second.ends more whole) number;
}

brings_record : (kind : ℕ) (moment : Moment) (body : List ℕ) (contents : Contents) → length body ≤ max_body → fits_body all_kinds kind (length body) ≡ true →
    contents_of any_text kind body ≡ Some contents → Brings (record_bytes kind moment body) (packet_of contents)
brings_record kind moment body contents few fits brings = record {
  exports = λ more. exported_front (record_bytes kind moment body ++ more) ∙ ap exported_by (in_front kind moment body more contents few fits brings);
  ends = λ more whole number.
      ap (λ (r : List StreamEntry × End). r.1)
      (front_decides all_kinds any_text number (record_bytes kind moment body ++ more)
      ∙ ap (records_by_front (records_numbered all_kinds any_text (number + 1)) number) (in_front kind moment body more contents few fits brings))
      ∙ whole (number + 1);
}

brings_packet : (moment : Moment) (packet : List ℕ) → length packet ≤ max_body → Brings (record_bytes 1 moment packet) packet
brings_packet moment packet few = brings_record 1 moment packet (stream.Packet packet) few (test_at_most (length packet) max_body few) refl

brings_tick : (moment : Moment) → Brings (record_bytes 2 moment []) []
brings_tick moment = brings_record 2 moment [] stream.Tick (omega arith) refl refl

brings_ticks : (count period second : ℕ) → Brings (ticks count period second) []
unfolding ticks
brings_ticks zero period second = brings_none
brings_ticks (suc count) period second =
    brings_both (record_bytes tick_kind (record { seconds = second; subseconds = 0 }) []) (ticks count period (second + period)) [] []
    (brings_tick (record { seconds = second; subseconds = 0 })) (brings_ticks count period (second + period))

brings_due : (period : ℕ) (next : Option ℕ) (second : ℕ) → Brings (ticks_before period next second) []
brings_due period None second = brings_none
brings_due period (Some next) second = brings_ticks (ticks_due period (Some next) second) period next

-- a packet behind its ticks
pub brings_kept : (clock : Clocked) (moment : Moment) (packet : List ℕ) → length packet ≤ max_body → Brings (records_at clock moment packet) packet
brings_kept clock moment packet few =
    brings_both (ticks_before clock.period (tick_at clock moment) moment.seconds) (record_bytes 1 moment packet) [] packet
    (brings_due clock.period (tick_at clock moment) moment.seconds) (brings_packet moment packet few)
