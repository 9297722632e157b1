-- How a run begins: the first host, and the texts that were compiled.
use Rattle.std.proofs.Common.{◌≡◌, ◌≢◌, refl, sym, ◌∙◌, ap, subst, ℕ, ◌+◌, ◌-◌, ◌==◌, ◌<◌, ◌≤◌, Bool, true, false, not, cond, nat_lt, List, length, Result, Ok, Err, arith, length-drop, Bor}
use Rattle.std.specs.List.{AllByRecursion, concat}
use Rattle.lc_model.specs.Tables.HalvesAndBytes.{meaning_by}
use Rattle.lc_model.specs.Tables.InForce.{layouts, edition}
use Rattle.lc_model.specs.Bytes.{u32_at}
use Rattle.lc_model.specs.Tables.File.{TableFile, opened, headers_length, content_type, subtype, file_header_length, fields_of, wrapped}
use Rattle.lc_model.specs.Tables.Half.{IsFileOfHalf}
use Rattle.lc_model.specs.Host.Schedule.{Schedule, IsSchedule}
use Rattle.lc_model.specs.Host.Stream.{records_of}
use Rattle.lc_model.specs.Host.Run.{size_in}
use Rattle.lc_model.specs.Host.Outcome.{Devices, Ending, IsOutcome}
use Rattle.lc_model.specs.Host.Promise.{Mission, IsRun, EndsBy, IsRunByBytes, output_by_bytes}
use Rattle.lc_model.specs.Kept.Summary.{Other}
use Rattle.lc_model.specs.Kept.Executive.{Member, first_executive, written_from}
use Rattle.lc_model.specs.Kept.Stations as model
use Rattle.lc_model.specs.Kept.Stations.{first_host}
use Rattle.lc_model.proofs.Tables.HalfFiles.{half_file_opens}
use Rattle.lc_model.proofs.Host.RunsKept.{files_of_halves}
use Rattle.lc_model.proofs.Host.WholeRuns.{numbered}
use Rattle.lc_model.proofs.Facts.{tested_not_less}
use Rattle.rpn_compiler.specs.declared.files.TablePair.{TablePair}
use Rattle.host_refinement.specs.Statements.{AreBrought, WritesByBytes}
use Rattle.app_host.specs.Shared.{on_board}
use Rattle.app_host.specs.Hosted.{Object, Hosted, in_numbers}
use Rattle.flight_core.specs.declared.error.Report.{Report}
use Rattle.flight_core.specs.declared.error.RunError.{RunError}
use Rattle.flight_core.specs.declared.error.RunError.TheVariants as error
use Rattle.flight_core.specs.Brought.{meanings_of, AreWhole}
use Rattle.flight_core.specs.Compiled.{sources_of, file_in, AreAllCompiled}
use Rattle.flight_core.specs.Ending.{ending_of}
use Rattle.flight_core.specs.Flight.{FliesSo}
use Rattle.flight_core.specs.Run.{members_of, mission_of, IsOfProfile, IsOutputFrom, EndsSo, RunsSo}
use Rattle.flight_core.proofs.Known.{known_first}
use Rattle.flight_core.proofs.TextsCompiled.{AreTexts, texts_of}

-- ---- the files

-- a file that opens is as long as its headers and its image
length_of_opened : (bytes : List ℕ) (f : TableFile) → opened bytes ≡ Ok f → length bytes ≡ 116 + length f.image
length_of_opened bytes f e =
    by_tests (nat_lt (length bytes) 116) (not (u32_at bytes 0 == content_type)) (not (u32_at bytes 4 == subtype)) (not (u32_at bytes 8 == file_header_length))
    (not (u32_at bytes 68 == 0)) (not (u32_at bytes 72 == length bytes - 116)) refl e
  where
    whole : nat_lt (length bytes) 116 ≡ false → ◌≡◌ {A = Result TableFile ℕ} (Ok (fields_of bytes)) (Ok f) → length bytes ≡ 116 + length f.image
    whole long is =
        let same : fields_of bytes ≡ f = cc is in
        let enough : 116 ≤ length bytes = tested_not_less (length bytes) 116 long in
        let size : length (fields_of bytes).image ≡ length bytes - 116 = length-drop 116 bytes in
        omega (arith, enough, size, ap (λ (g : TableFile). length g.image) same)

    by_tests : (a b c d e₀ f₀ : Bool) → nat_lt (length bytes) 116 ≡ a →
        cond {A = Result TableFile ℕ} a (Err 51) (cond {A = Result TableFile ℕ} b (Err 52) (cond {A = Result TableFile ℕ} c (Err 53) (cond {A = Result TableFile ℕ} d (Err 54) (cond {A = Result TableFile ℕ} e₀ (Err 55) (cond {A = Result TableFile ℕ} f₀ (Err 56) (Ok (fields_of bytes))))))) ≡ Ok f → length bytes ≡ 116 + length f.image
    by_tests true b c d e₀ f₀ long is = absurd (cc is)
    by_tests false true c d e₀ f₀ long is = absurd (cc is)
    by_tests false false true d e₀ f₀ long is = absurd (cc is)
    by_tests false false false true e₀ f₀ long is = absurd (cc is)
    by_tests false false false false true f₀ long is = absurd (cc is)
    by_tests false false false false false true long is = absurd (cc is)
    by_tests false false false false false false long is = whole long is

pub whole_files : (sources : List (List ℕ)) (pairs : List TablePair) → AreAllCompiled sources pairs → AreWhole pairs
whole_files sources pairs all kind number less =
    let known : AreTexts sources pairs = texts_of sources pairs all in
    let text = numbered known.texts number (let below : number < length known.texts = omega (arith, less, known.many, known.pairs_many) in below) in
    let half : IsFileOfHalf layouts kind (file_in pairs kind number) text.0.source = files_of_halves edition known.texts (file_in pairs) known.files kind number text.0 text.1 in
    let opens : opened (file_in pairs kind number) ≡ Ok (wrapped kind half.0) = half_file_opens layouts kind (file_in pairs kind number) text.0.source half in
    ap (λ (r : Result TableFile ℕ). headers_length + size_in (meaning_by (λ (image : List ℕ). image) r)) opens ∙ sym (length_of_opened (file_in pairs kind number) (wrapped kind half.0) opens)

-- ---- how a run ends whose texts are compiled

module _ (pairs : List TablePair) (most : ℕ) (d : Devices) (members : List Member) where
  runs_by : (result : Result Report RunError) → EndsSo pairs members (length pairs) most d result → RunsSo pairs members (length pairs) most d result
  runs_by (Ok report) ends = ends
  runs_by (Err (error.Compile text e)) ends = ends
  runs_by (Err (error.BadRecord number)) ends = ends
  runs_by (Err (error.Truncated number)) ends = ends
  runs_by (Err error.Read) ends = ends
  runs_by (Err (error.Write sent)) ends = ends
  runs_by (Err error.ReadBound) ends = ends
  runs_by (Err error.Memory) ends = absurd (ends (λ entries. concat (written_from on_board (first_executive members) (meanings_of pairs) entries)) (λ entries brought. refl))

  pub runs_so : (h : Hosted) → in_numbers h ≡ first_host members → AllByRecursion (λ (member : Member). member.state ≢ Other) members → (result : Result Report RunError) → FliesSo pairs most h d result →
      RunsSo pairs members (length pairs) most d result
  runs_so h is all result flies =
      runs_by result (λ output from. flies (known_first h members is all) output (λ entries brought.
      ap (λ (x : model.Host (List ℕ)). concat (written_from on_board x.executive (meanings_of pairs) entries)) is ∙ from entries brought))

module _ (texts : List (Bor (List ℕ))) (schedule : Schedule) (stock : List Object) (most : ℕ) (d : Devices) where
  abbrev m : Mission
  m = mission_of texts schedule stock most

  module _ (writes : WritesByBytes m) (is_schedule : IsSchedule schedule) (profile : IsOfProfile schedule stock) (pairs : List TablePair) (all : AreAllCompiled (sources_of texts) pairs) where
    known : AreTexts (sources_of texts) pairs
    known = texts_of (sources_of texts) pairs all

    pub outputs : IsOutputFrom pairs (members_of stock) (length pairs) (output_by_bytes m (file_in pairs))
    unfolding on_board
    outputs entries brought =
        let here : AreBrought (length known.texts) entries = subst (λ k. AreBrought k entries) (known.pairs_many ∙ sym known.many) brought in
        writes (members_of stock) known.texts (file_in pairs) entries is_schedule (record { names = refl; profile = profile }) known.files here

    by_bytes : (ending : Ending) → IsOutcome (records_of (length pairs)) (output_by_bytes m (file_in pairs)) most d ending → IsRunByBytes m d ending
    by_bytes ending outcome = record {
      texts = known.texts;
      compile = known.compile;
      compiled = file_in pairs;
      files = known.files;
      outcome = subst (λ k. IsOutcome (records_of k) (output_by_bytes m (file_in pairs)) most d ending) known.pairs_many outcome;
    }

    ends_by : (result : Result Report RunError) → RunsSo pairs (members_of stock) (length pairs) most d result → EndsBy m d (ending_of result)
    ends_by (Ok report) ends = by_bytes (ending_of (Ok report)) (ends (output_by_bytes m (file_in pairs)) outputs)
    ends_by (Err (error.Compile number e)) ends = absurd (ends (output_by_bytes m (file_in pairs)) outputs)
    ends_by (Err (error.BadRecord number)) ends = by_bytes (ending_of (Err (error.BadRecord number))) (ends (output_by_bytes m (file_in pairs)) outputs)
    ends_by (Err (error.Truncated number)) ends = by_bytes (ending_of (Err (error.Truncated number))) (ends (output_by_bytes m (file_in pairs)) outputs)
    ends_by (Err error.Read) ends = by_bytes (ending_of (Err error.Read)) (ends (output_by_bytes m (file_in pairs)) outputs)
    ends_by (Err (error.Write sent)) ends = by_bytes (ending_of (Err (error.Write sent))) (ends (output_by_bytes m (file_in pairs)) outputs)
    ends_by (Err error.ReadBound) ends = by_bytes (ending_of (Err error.ReadBound)) (ends (output_by_bytes m (file_in pairs)) outputs)
    ends_by (Err error.Memory) ends = ends

    pub is_run : (result : Result Report RunError) → RunsSo pairs (members_of stock) (length pairs) most d result → d.source_after.reads ≤ most → IsRun m d (ending_of result)
    is_run result ends few = record { ends = ends_by result ends; few_reads = few }
