-- Comments that keep warnings quiet: `# quiet: NAME, ..` alone on a line keeps the warnings of these names in the next line quiet.
-- This project's own.
use Rattle.std.specs.Prelude.{ℕ, zero, suc, ◌+◌, Bool, true, false, not, ◌&&◌, ◌||◌, ◌==◌, if◌then◌else◌, List, [], ◌++◌, filter, length, map, min, take, drop, codes, bytes_eq, slice_index, slice_get, Option, Some, None}
use Rattle.std.specs.List.{list_any, prefix_len}
use Rattle.lc_model.specs.Host.ScheduleText.{parted}
use Rattle.diagnostics.specs.Line.{line_feed, line_of, line_start}
use Rattle.rule_lints.specs.declared.lint.Lint.TheVariants as lint
use Rattle.rule_lints.specs.declared.warning.Warning.{Warning}
use Rattle.rule_lints.specs.declared.comments.Placed.{Placed}
use Rattle.rule_lints.specs.Names.{name_of}
use Rattle.rule_lints.specs.Items.{warn_if}

-- ---- comments

-- space, tab, carriage return and comma part names
abbrev pub is_gap : ℕ → Bool
is_gap byte = byte == 32 || byte == 9 || byte == 13 || byte == 44

-- the names among some bytes
abbrev pub names_in : List ℕ → List (List ℕ)
names_in bytes = filter (λ name. not (length name == 0)) (parted is_gap bytes)

-- what a quiet comment begins with
abbrev pub opening : List ℕ
opening = codes "# quiet:"

-- the most names that are taken of one comment
abbrev pub most_names : ℕ
most_names = 16

-- a line without the blanks in front
abbrev pub unindented : List ℕ → List ℕ
unindented line = drop (prefix_len is_gap line) line

-- what stands behind that
abbrev pub behind_opening : List ℕ → Option (List ℕ)
behind_opening line = if bytes_eq (take 8 (unindented line)) opening then Some (drop 8 (unindented line)) else None

-- the names that a line keeps quiet in the next one
abbrev pub names_behind : Option (List ℕ) → List (List ℕ)
names_behind None = []
names_behind (Some bytes) = take most_names (names_in bytes)

abbrev pub quiet_names : List ℕ → List (List ℕ)
quiet_names line = names_behind (behind_opening line)

-- ---- what is kept quiet

-- the line that ends before a line that begins here; nothing above the first one
abbrev pub above : List ℕ → ℕ → List ℕ
above text zero = []
above text (suc end) = line_of text end

-- the place at which the line of a place begins; a place after the text counts as its end
abbrev pub start_of : List ℕ → ℕ → ℕ
start_of text at = line_start text (min at (length text))

-- the line above that of a place
abbrev pub line_above : List ℕ → ℕ → List ℕ
line_above text at = above text (start_of text at)

-- the line above keeps the warning quiet
abbrev pub is_quieted : List ℕ → Warning → Bool
is_quieted text w = list_any (bytes_eq (name_of w.lint)) (quiet_names (line_above text w.at))

-- the warnings that are reported
abbrev pub kept : List ℕ → List Warning → List Warning
kept text found = filter (λ w. not (is_quieted text w)) found

-- ---- comments that keep nothing quiet

-- a warning with the place of its line
abbrev pub placed_at : List ℕ → Warning → Placed
placed_at text w = record { lint = w.lint; line = start_of text w.at }

abbrev pub placed : List ℕ → List Warning → List Placed
placed text found = map (placed_at text) found

-- the line that begins here has a warning of this name
abbrev pub is_met : List Placed → ℕ → List ℕ → Bool
is_met all line name = list_any (λ (p : Placed). bytes_eq (name_of p.lint) name && p.line == line) all

-- a name of a comment in the line that begins here, with its number, keeps nothing quiet in the next line
abbrev pub of_name : List Placed → (at next number : ℕ) → Option (List ℕ) → List Warning
of_name all at next number None = []
of_name all at next number (Some name) = warn_if (not (is_met all next name)) lint.UnusedQuiet at number

-- so of the first so many
abbrev pub names_below : List Placed → (at next : ℕ) → List (List ℕ) → ℕ → List Warning
names_below all at next names zero = []
names_below all at next names (suc n) = names_below all at next names n ++ of_name all at next n (slice_get names n)

-- those of a line
abbrev pub of_line : List Placed → (at : ℕ) → List ℕ → List Warning
of_line all at line = names_below all at (at + length line + 1) (quiet_names line) (length (quiet_names line))

-- a line begins at this place
abbrev pub begins_line : List ℕ → ℕ → Bool
begins_line text zero = true
begins_line text (suc before) = slice_index text before == line_feed

abbrev pub of_place : List ℕ → List Placed → ℕ → List Warning
of_place text all at = if begins_line text at then of_line all at (line_of text at) else []

-- those of the lines that begin at the first so many places
abbrev pub spare_below : List ℕ → List Placed → ℕ → List Warning
spare_below text all zero = []
spare_below text all (suc n) = spare_below text all n ++ of_place text all n

-- the name that the warning of a comment is about
abbrev pub quiet_name : List ℕ → Warning → Option (List ℕ)
quiet_name text w = slice_get (quiet_names (line_of text (min w.at (length text)))) w.about

-- only with a schedule is a warning of this name given
abbrev pub is_of_schedule : Option (List ℕ) → Bool
is_of_schedule None = false
is_of_schedule (Some name) = bytes_eq (name_of lint.NeverSampled) name

-- without a schedule nobody knows whether such a name keeps something quiet
abbrev pub is_known : Bool → List ℕ → Warning → Bool
is_known has_plan text w = has_plan || not (is_of_schedule (quiet_name text w))

abbrev pub known : Bool → List ℕ → List Warning → List Warning
known has_plan text spare = filter (is_known has_plan text) spare

-- all comments that keep nothing quiet
abbrev pub spare_quiets : List ℕ → List Warning → List Warning
spare_quiets text found = spare_below text (placed text found) (length text)
