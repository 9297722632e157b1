-- A handle that holds nothing owns nothing.
use Rattle.std.proofs.Common.{◌≡◌, [], ◌∷◌, refl}
use Rattle.std.specs.Prelude.{Option, None}
use Rattle.c_interface.specs.declared.handle.Fed.{Fed as FedValue}
use mir.Val.{vstruct, vcons, vnil, has_ty}
use mir.Syntax.{ty_ptr}
use denote.Triple.Entry.{on_entry}
use base.Logic.{emp}
use types.Kit.{raw, ◌$◌, ◌∵◌, !, qed, by, keep, use0}
use types.Run.{lit, no_more, and_then, returns, enter}
use types.ByLocal.{alloc_all, pass_all, free_all, look_at, sets}
use types.Part.{agg}
use contract.Monad.{fact, fact_i}
use contract.Running.{tables}
use denote.RawPtr.{null_ptr, ptr_val, rawptr_Lawful}
use denote.Steps.{nothing}
use denote.Triple.Walked.{walk_of}
use Rattle.std_alloc.proofs.ResultValues.{and_tt}
use Rattle.std.proofs.raw_atomic.Walks.{proved, leaves}
use Rattle.c_interface.proofs.Values.{heap, handle_in}
use Rattle.c_interface.specs.contracts.handle.nothing.{ended, clauses}
use Rattle.c_interface.specs.contracts.handle.nothing.Key.{name as #self}
use Rattle.c_interface.proofs.handle.nothing.Statement.{statement}
use Rattle.c_interface.proofs.handle.nothing.Code as code

pub nothing_spec : {M : Type 1} → statement M
nothing_spec 𝓤 𝓛 𝓜 𝓡 wired =
    let H = 𝓛.H in let 𝓣 = tables 𝓤 H 𝓜 𝓡 𝓡.env in let c = clauses 𝓛 𝓜.mem 𝓡.returns in let fn = code.function in
    proved 𝓛 ended tt c 𝓜 𝓡 tt #self fn (code.unfolded 𝓤 H 𝓜 𝓡 wired) (λ κs. tt) (λ κs. tt) (λ κs qs bounds a g are.
    let y : (walk_of 𝓛 ended tt c).Ghost = ((κs, qs, bounds, a, tt), g) in
    let good = ((rawptr_Lawful 𝓛).typed null_ptr _ refl).0 in let none : Option FedValue = None in
    qed 𝓛 (raw (on_entry 𝓛 ended.signature κs qs a tt) ∷ raw ((c κs a).requires g) ∷ []) ∵
    enter ! 𝓣.C 𝓣.Λ fn [] _ $ alloc_all ! (λ l. pass_all ! refl tt $
    sets ! (agg ! (and_then ! (lit ! tt) (no_more !))) refl (and_tt (has_ty ty_ptr (ptr_val null_ptr)) good.0, (good.1, tt)) $
    nothing ! $ handle_in ! null_ptr heap none $
    use0 𝓛 (raw (fact 𝓤 (none ≡ none))) (fact_i 𝓤 (none ≡ none) (emp 𝓤) refl) $ nothing ! $ nothing ! $
    returns ! (look_at ! 0 refl) $ free_all ! refl $ keep ! (0 ∷ 1 ∷ 3 ∷ 2 ∷ []) $ by ! (leaves 𝓛 ended tt c y (vstruct (vcons (ptr_val null_ptr) vnil)) (record { at = null_ptr; alloc = heap; value = none }) tt tt)))
