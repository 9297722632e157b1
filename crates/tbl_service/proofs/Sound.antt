-- After a call of the table services they are sound, as they were.
use Rattle.std.proofs.Common.{◌≡◌, ap, sym, ◌∙◌, subst, List, ℕ, ◌++◌, length, take, drop, Option, Some, None, Result, Ok, Err}
use Rattle.std.specs.Prelude.{IfOk, IfSome, IsSomeAnd, OnErr}
use Rattle.lc_model.specs.Refusal.{Refusal}
use Rattle.lc_model.specs.Tables.Slot.{Slot}
use Rattle.lc_model.specs.Services.Tables.{Handle, Places, TableService, IsTableService, changed_among, with_places}
use Rattle.lc_model.proofs.Services.TableServiceLaws.{changes_stay_sound}
use Rattle.tbl_service.specs.declared.error.TableError.{TableError}
use Rattle.tbl_service.specs.Error.{answered}
use Rattle.tbl_service.specs.Store.{NamedFile}
use Rattle.tbl_service.proofs.Installed.{all_written}

-- by an answer
pub stays_sound : {B : Type 0} (result : Result B TableError) (old new : TableService) (r : Result TableService Refusal) → answered result new ≡ r →
    OnErr result (new ≡ old) → IfOk r IsTableService → IsTableService old → IsTableService new
stays_sound (Ok done) old new r is same sound before = subst (λ q. IfOk q IsTableService) (sym is) sound
stays_sound (Err error) old new r is same sound before = subst IsTableService (sym same) before

-- an answer of all tables is one of the services
pub of_places : {B : Type 0} (result : Result B TableError) (files : List NamedFile) (old new : Places) (r : Result Places Refusal) → answered result new ≡ r →
    answered result (record { files = files; places = new }) ≡ with_places (record { files = files; places = old }) r
of_places (Ok done) files old new r is = ap (with_places (record { files = files; places = old })) is
of_places (Err error) files old new r is = ap (with_places (record { files = files; places = old })) is

module _ (files : List NamedFile) (old lent new : Places) (len : ℕ) (from : lent ≡ old) (is : len ≡ length old) (kept : length new ≡ length old) where
  -- all tables were lent, and written again
  abbrev pub written : Places
  written = take len (new ++ drop (length new) old)

  abbrev with_tables : Places → TableService
  with_tables places = record { files = files; places = places }

  all : new ≡ written
  all = sym (all_written new old len is kept)

  -- by an answer of all tables
  pub answered_sound : {B : Type 0} (result : Result B TableError) (r : Result TableService Refusal) → answered result (with_tables new) ≡ r → OnErr result (new ≡ lent) →
      IfOk r IsTableService → IsTableService (with_tables old) → IsTableService (with_tables written)
  answered_sound (Ok done) r so same sound before = subst (λ places. IsTableService (with_tables places)) all (subst (λ q. IfOk q IsTableService) (sym so) sound)
  answered_sound (Err error) r so same sound before = subst (λ places. IsTableService (with_tables places)) all (subst (λ places. IsTableService (with_tables places)) (sym (same ∙ from)) before)

  -- by a change at one table
  pub changed_sound : (change : Slot (List ℕ) → Slot (List ℕ)) (handle : Handle) → new ≡ changed_among change handle lent → IsTableService (with_tables old) →
      IsTableService (with_tables written)
  changed_sound change handle so before =
      subst (λ places. IsTableService (with_tables places)) (sym (so ∙ ap (changed_among change handle) from) ∙ all) (changes_stay_sound change handle (with_tables old) before)

  -- where a file's image is there, and so a change was made
  pub installed_sound : (o : Option (List ℕ)) (Fits : List ℕ → Type 0) (change : List ℕ → Slot (List ℕ) → Slot (List ℕ)) (handle : Handle) → IsSomeAnd o Fits →
      IfSome o (λ image. new ≡ changed_among (change image) handle lent) → IsTableService (with_tables old) → IsTableService (with_tables written)
  installed_sound None Fits change handle some so before = absurd some
  installed_sound (Some image) Fits change handle some so before = changed_sound (change image) handle so before
