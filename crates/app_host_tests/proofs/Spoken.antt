-- What an application says as it comes and goes keeps the rules of the interface.
use Rattle.std.proofs.Common.{◌≡◌, ◌≢◌, ◌∙◌, refl, sym, ap, subst, ℕ, ◌+◌, ◌≤◌, List, ◌++◌, [], length, slice_index_or, Option, Some, None, arith, length-append}
use Rattle.std.specs.Prelude.{IsSomeAnd, IfSome, IsTrue, option_map}
use Rattle.std.specs.List.{AllByRecursion}
use Rattle.lc_model.specs.Name.{Name}
use Rattle.lc_model.specs.Events.Request.{Request}
use Rattle.lc_model.specs.Kept.Summary.{Other}
use Rattle.lc_model.specs.Kept.Executive.{Pipe}
use Rattle.lc_model.specs.Services.Bus.{Bus, seen}
use Rattle.lc_model.specs.Services.Events.{Sender, sender_at}
use Rattle.lc_model.specs.Services.Tables.{Table, TableService, tables_at}
use Rattle.lc_model.specs.Services.Interface.{MayBeGiven, IsStarted, IsGiven, IsRetired, is_table_of}
use Rattle.app_host.specs.declared.services.Services.{Services}
use Rattle.app_host.specs.Shared.{held_by}
use Rattle.app_host.specs.Calls.{IsAtHome}
use Rattle.app_host.specs.Telling.{Tells, name_of}
use Rattle.app_host.specs.Seating.{IsClosed}
use Rattle.app_host.specs.Statements.{SilenceAnswers, ClosingRetires}
use Rattle.app_host.proofs.Rules.{host_in}
use Rattle.app_host_tests.proofs.Names.{may_write}

-- ---- a start that is told

some_same : (j k : ℕ) → ◌≡◌ {A = Option ℕ} (Some j) (Some k) → j ≡ k
some_same j k e = cc

still_named : (name : Name) (old new : Option Sender) → option_map name_of new ≡ option_map name_of old → IfSome old (λ (s : Sender). s.name ≡ name) → IfSome new (λ (s : Sender). s.name ≡ name)
still_named name old None e h = tt
still_named name None (Some new) e h = cc
still_named name (Some old) (Some new) e h = cc

still_there : (old new : Option Sender) → option_map name_of new ≡ option_map name_of old → old ≢ None → new ≢ None
still_there None new e some none = some refl
still_there (Some old) None e some none = let never : None ≡ Some (name_of old) = e in cc
still_there (Some old) (Some new) e some none = cc

module _ (seat : ℕ) (name : Name) (before between after : Services) (start : IsStarted seat name (held_by before) (held_by between)) where
  told_so : (teller : Name) (requests : List Request) → Tells (Some seat) teller requests between after → length after.outgoing ≤ 65536 → IsStarted seat name (held_by before) (held_by after)
  told_so teller requests told little = record {
    call = record {
      others = record {
        host = ap host_in (told.others None (λ same. cc)) ∙ start.call.others.host;
        senders = λ other two. told.others (Some other) (λ same. two (some_same other seat same)) ∙ start.call.others.senders other two;
        tables = λ other two. ap (λ (t : TableService). tables_at other t.places) told.tables ∙ start.call.others.tables other two;
        files = ap (λ (t : TableService). t.files) told.tables ∙ start.call.others.files;
        moment = told.moment ∙ start.call.others.moment;
      };
      pipes = λ other two. ap (λ (b : Bus). slice_index_or (seen b) other None) told.bus ∙ start.call.pipes other two;
      outgoing = little;
    };
    pipe = subst (λ (b : Bus). IfSome (slice_index_or (seen b) seat None) (λ (pipe : Pipe). pipe.waiting ≡ [])) (sym told.bus) start.pipe;
    has_pipe = λ none. start.has_pipe (ap (λ (b : Bus). slice_index_or (seen b) seat None) (sym told.bus) ∙ none);
    sender = still_there (sender_at (Some seat) between.events) (sender_at (Some seat) after.events) told.own start.sender;
    belongs = record {
      sender = still_named name (sender_at (Some seat) between.events) (sender_at (Some seat) after.events) told.own start.belongs.sender;
      tables = subst (λ (t : TableService). AllByRecursion (λ (table : Table). IsTrue (is_table_of name table.name)) (tables_at seat t.places)) (sym told.tables) start.belongs.tables;
    };
  }

  by_place : (place : Option Sender) → place ≢ None → (requests : Name → List Request) → IfSome place (λ (sender : Sender). Tells (Some seat) sender.name (requests sender.name) between after) →
      length after.outgoing ≤ 65536 → IsStarted seat name (held_by before) (held_by after)
  by_place None there requests told little = absurd (there refl)
  by_place (Some sender) there requests told little = told_so sender.name (requests sender.name) told little

  pub is_started : (requests : Name → List Request) → IfSome (sender_at (Some seat) between.events) (λ (sender : Sender). Tells (Some seat) sender.name (requests sender.name) between after) →
      between.outgoing ≡ before.outgoing → before.outgoing ≡ [] → length after.outgoing ≤ length between.outgoing + 168 → IsStarted seat name (held_by before) (held_by after)
  is_started requests told same idle size =
      by_place (sender_at (Some seat) between.events) start.sender requests told
      (let none : length between.outgoing ≡ 0 = ap length (same ∙ idle) in omega (arith, none, size))

-- ---- a letter

pub writes : SilenceAnswers → (place : Option ℕ) (name : Name) (packet : List ℕ) (before : Services) (bytes : List ℕ) → IsSomeAnd place (λ seat. IsAtHome Other name seat before) →
    IfSome place (λ seat. MayBeGiven seat name packet (held_by before)) → length name ≡ 1 → bytes ≡ before.outgoing ++ name →
    IfSome place (λ seat. IsGiven seat name packet (held_by before) (held_by (record before { outgoing = bytes })))
writes law None name packet before bytes home given one written = absurd home
writes law (Some seat) name packet before bytes home given one written =
    may_write seat name packet (held_by before) before bytes (law seat name before packet home.belongs given.idle)
    (let sum : length bytes ≡ length before.outgoing + length name = ap length written ∙ length-append before.outgoing name in
    let none : length before.outgoing ≡ 0 = ap length given.idle in
    omega (arith, sum, none, one))

-- ---- a last word

last_word : (seat : ℕ) (name : Name) (before after : Services) (bytes : List ℕ) → length bytes ≤ 65536 → IsRetired seat name (held_by before) (held_by after) →
    IsRetired seat name (held_by before) (held_by (record after { outgoing = bytes }))
last_word seat name before after bytes few retired = record {
  call = record {
    others = record {
      host = retired.call.others.host;
      senders = retired.call.others.senders;
      tables = retired.call.others.tables;
      files = retired.call.others.files;
      moment = retired.call.others.moment;
    };
    pipes = retired.call.pipes;
    outgoing = few;
  };
  free = record { pipe = retired.free.pipe; sender = retired.free.sender; tables = retired.free.tables };
}

pub leaves_a_word : ClosingRetires → (place : Option ℕ) (name : Name) (before after : Services) (bytes : List ℕ) → IfSome place (λ seat. IsClosed seat before after) → before.outgoing ≡ [] → length name ≡ 1 →
    bytes ≡ after.outgoing ++ name → IfSome place (λ seat. IsRetired seat name (held_by before) (held_by (record after { outgoing = bytes })))
leaves_a_word law None name before after bytes closed idle one written = tt
leaves_a_word law (Some seat) name before after bytes closed idle one written =
    last_word seat name before after bytes
    (let sum : length bytes ≡ length after.outgoing + length name = ap length written ∙ length-append after.outgoing name in
    let none : length after.outgoing ≡ 0 = ap length (closed.outgoing ∙ idle) in
    omega (arith, sum, none, one))
    (law seat name before after closed idle)
