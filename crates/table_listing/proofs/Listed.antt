-- What listings add, line by line.
use Rattle.std.proofs.Common.{◌≡◌, ℕ, suc, ◌+◌, Bool, true, List, [], ◌++◌, length, Option, Result, Ok, Err, IfOk, refl, sym, subst, arith}
use Rattle.lc_model.specs.declared.kind.Kind.{Kind}
use Rattle.lc_model.specs.declared.mode.ApMode.{ApMode}
use Rattle.lc_model.specs.declared.rule.EventKind.{EventKind}
use Rattle.lc_model.specs.declared.rule.ReportMaxima.{ReportMaxima}
use Rattle.lc_model.specs.Name.{name_in}
use Rattle.lc_model.specs.Tables.File.{TableFile, opened}
use Rattle.table_validator.specs.Sound.{TableImage}
use Rattle.lc_model.specs.Tables.Image.{all_words, words_before_equal}
use Rattle.lc_model.specs.Tables.Spelled.{read_entry}
use Rattle.table_listing.specs.Formula.{Formula, IsTreeOf}
use Rattle.table_listing.specs.declared.headers.FileLine.{FileLine}
use Rattle.table_listing.specs.Headers.{file_line, table_line}
use Rattle.table_listing.specs.Judged.{kind_judged}
use Rattle.table_listing.specs.Lines.{actionpoint_line}
use Rattle.std.specs.Io.KnownBytes.{Appends}
use Rattle.std.proofs.KnownBytes.{Appends-nil, Appends-trans}
use Rattle.table_listing.specs.Listed.{Adds, AreEntriesListed, AreListed, IsActionpointListed, IsFileListed, IsImageListed, nothing, more, ended, headers_shown, preamble_shown}

-- no line yet
pub adds_nothing : (IsLine : ℕ → List ℕ → Type 0) (a : Option (List ℕ)) → Adds (AreListed IsLine 0) a a
adds_nothing IsLine a = record { text = []; is = nothing; appends = Appends-nil a }

-- a line more
pub adds_line : (IsLine : ℕ → List ℕ → Type 0) (n : ℕ) (a b c : Option (List ℕ)) → Adds (AreListed IsLine n) a b → Adds (IsLine n) b c → Adds (AreListed IsLine (n + 1)) a c
adds_line IsLine n a b c p q =
    let next : suc n ≡ n + 1 = omega arith in
    subst (λ m. Adds (AreListed IsLine m) a c) next (record {
      text = p.text ++ q.text;
      is = more p.is q.is;
      appends = Appends-trans a b c p.text q.text p.appends q.appends;
    })

-- as many lines as there are
pub adds_all : (IsLine : ℕ → List ℕ → Type 0) (n count : ℕ) (a b : Option (List ℕ)) → n ≡ count → Adds (AreListed IsLine n) a b → Adds (AreListed IsLine count) a b
adds_all IsLine n count a b e p = subst (λ m. Adds (AreListed IsLine m) a b) e p

-- the lines of the headers that were read off a file
pub adds_headers : (f : TableFile) (l : FileLine) (name description : List ℕ) (reserved size : ℕ) (a b c : Option (List ℕ))
    → l ≡ record { spacecraft = f.spacecraft; processor = f.processor; application = f.application; seconds = f.seconds; subseconds = f.subseconds }
    → name ≡ name_in f.name_field → description ≡ name_in f.description → reserved ≡ f.reserved → size ≡ length f.image
    → Appends a b (ended (file_line l.spacecraft l.processor l.application l.seconds l.subseconds)) → Appends b c (ended (table_line name description reserved size))
    → Appends a c (headers_shown f)
adds_headers f l name description reserved size a b c e n d r s p q = Appends-trans a b c _ _
    (subst (λ (h : FileLine). Appends a b (ended (file_line h.spacecraft h.processor h.application h.seconds h.subseconds))) e p)
    (subst (Appends b c) (λ i. ended (table_line (n i) (d i) (r i) (s i))) q)

-- the lines of a sound image
pub adds_image : (image : List ℕ) (valid : TableImage) (kind : Kind) (a b c : Option (List ℕ)) → valid ≡ record { kind = kind; bytes = image } → kind ≡ kind_judged image
    → Appends a b (preamble_shown image) → Adds (AreEntriesListed valid.kind valid.bytes) b c → Adds (IsImageListed image) a c
adds_image image valid kind a b c v k p q =
    let here : Adds (AreEntriesListed (kind_judged image) image) b c =
    subst (λ (k : Kind). Adds (AreEntriesListed k image) b c) k (subst (λ (v : TableImage). Adds (AreEntriesListed v.kind v.bytes) b c) v q) in
    record {
      text = preamble_shown image ++ here.text;
      is = record { entries = here.text; listed = here.is; is = refl };
      appends = Appends-trans a b c (preamble_shown image) here.text p here.appends;
    }

-- the lines of a file that was opened
pub adds_file : {E : Type 0} (bytes : List ℕ) (f : TableFile) (result : Result Bool E) (a b c : Option (List ℕ)) → opened bytes ≡ Ok f → Appends a b (headers_shown f)
    → IfOk result (λ sound. sound ≡ true → Adds (IsImageListed f.image) b c) → IfOk result (λ sound. sound ≡ true → Adds (IsFileListed (opened bytes)) a c)
adds_file bytes f (Err error) a b c o p q = tt
adds_file bytes f (Ok sound) a b c o p q = λ yes. let image : Adds (IsImageListed f.image) b c = q yes in
    subst (λ r. Adds (IsFileListed r) a c) (sym o) (record {
      text = headers_shown f ++ image.text;
      is = record { image = image.text; listed = image.is; is = refl };
      appends = Appends-trans a b c (headers_shown f) image.text p image.appends;
    })

-- the line of an actionpoint whose fields were read off its entry
pub adds_actionpoint : (n : ℕ) (entry there : List ℕ) (condition : Formula) (mode : ApMode) (report : ReportMaxima) (sequence fails : ℕ) (kind : EventKind) (id : ℕ) (text : List ℕ)
    (a b : Option (List ℕ)) → entry ≡ there → mode ≡ (read_entry entry).mode → report ≡ (read_entry entry).report → sequence ≡ (read_entry entry).sequence
    → fails ≡ (read_entry entry).fails → kind ≡ (read_entry entry).event_kind → id ≡ (read_entry entry).event_id → text ≡ (read_entry entry).text
    → IsTreeOf (words_before_equal (all_words entry)) condition
    → Appends a b (ended (actionpoint_line n (record { mode = mode; report = report; sequence = sequence; fails = fails; event_kind = kind; event_id = id; text = text; words = [] }) condition))
    → Adds (IsActionpointListed there n) a b
adds_actionpoint n entry there condition mode report sequence fails kind id text a b is m r s f k d t tree appends =
    subst (λ e. Adds (IsActionpointListed e n) a b) is (record {
      text = ended (actionpoint_line n (record { mode = mode; report = report; sequence = sequence; fails = fails; event_kind = kind; event_id = id; text = text; words = [] }) condition);
      is = record {
        condition = condition;
        tree = tree;
        line = λ i. ended (actionpoint_line n (record { mode = m i; report = r i; sequence = s i; fails = f i; event_kind = k i; event_id = d i; text = t i; words = [] }) condition);
      };
      appends = appends;
    })
