-- `lend` lends what the handle holds, and the handle follows it.
use Rattle.std.proofs.Common.{◌≡◌, ℕ, List, [], ◌∷◌, refl, sym}
use Rattle.std.specs.Prelude.{Some, IsSome}
use seplogic.Ra.Ura.{Ura}
use base.Fraction.{full_share}
use base.Logic.{ent, sep, id⊢}
use base.Fml.{Fml, GName, ftrue, fsep, flft}
use mir.Syntax.{named}
use mir.Raw.{raw as bare}
use mir.Val.{Val, vptr}
use prog.Wp.{Env}
use contract.Monad.{fact}
use contract.Running.{tables}
use types.Logic.{Logic, sem}
use types.Kit.{‵, raw, ◌⊛◌, some, later, at_ret, ◌$◌, ◌∵◌, !, qed, move, keep, drop, use1, split, split3, join, group, pick, await, rewrite, fsplit, fsplit3, fjoin, fpack, suffices, frame, done}
use types.Part.{whole, sub, look_in}
use types.Run.{stop, fld, addr, load, of_opd, first, blocks, exec, returns, enter}
use types.ByLocal.{alloc_all, pass_all, free_all, look_at, get, through, sets, sets_last, env}
use denote.Exit.{no}
use denote.RattleType.{RattleType, owns}
use denote.Memory.{lone, mem, cell_at, part_at, part_of}
use denote.RawPtr.{Ptr, block_ptr}
use denote.Ref.{MutRef, mut_vals, mut_Tells}
use denote.Signature.{plain, mut_ref_to}
use denote.Steps.{nothing, opens, heard}
use denote.Follow.{follows, Part, lends_Part}
use denote.Triple.Walked.{says, Stays, stay_dropped, walk_of, ends_at, Goes-spent_ref}
use Rattle.std_alloc.proofs.VecSteps.Shapes.{after}
use Rattle.std.proofs.raw_atomic.Walks.{proved}
use Rattle.std.specs.contracts.impls.GlobalAllocator.TheImpl.{ghosts}
use Rattle.c_interface.specs.declared.handle.Fed.{Fed as FedValue}
use Rattle.c_interface.specs.declared.handle.Handle.{Handle as HandleValue}
use Rattle.c_interface.specs.contracts.handle.Handle as handle
use Rattle.c_interface.specs.contracts.handle.Fed as fed
use Rattle.c_interface.specs.Lent.{with_fed}
use Rattle.c_interface.proofs.Values.{some_of, one_word, handle_out, handle_in}
use Rattle.c_interface.specs.contracts.handle.Handle.lend.{ended, clauses}
use Rattle.c_interface.specs.contracts.handle.Handle.lend.Key.{name as #self}
use Rattle.c_interface.proofs.handle.Handle.lend.Statement.{statement}
use Rattle.c_interface.proofs.handle.Handle.lend.Code as code

abbrev H : RattleType
H = handle.the_row

abbrev R : RattleType
R = fed.the_row

abbrev stayed : Stays ended.signature.params ended.kept
stayed = (stay_dropped (mut_ref_to (0 ∷ []) tt (plain (λ _. H))) no, tt)

-- all of the handle but what it holds
abbrev Rest : HandleValue → (b o rb ro : ℕ) → Fml
Rest h b o rb ro = fsep (ghosts.dealloc_token h.alloc (bare (lone R.mir)) (block_ptr b o)) (cell_at full_share H.mir (one_word b o ∷ []) rb ro)

back : {M : Type 1} {𝓤 : Ura M} (𝓛 : Logic 𝓤) (h : HandleValue) (b o rb ro : ℕ) → h.at ≡ block_ptr b o → (w : FedValue)
    → ent 𝓤 (sep 𝓤 (sem 𝓛 ((mem R).own_at w b o)) (sem 𝓛 (Rest h b o rb ro))) (sem 𝓛 ((mem H).own_at (with_fed h w) rb ro))
unfolding part_of
back 𝓛 h b o rb ro e w =
    qed 𝓛 (‵ (part_at R full_share w b o) ∷ ‵ (Rest h b o rb ro) ∷ []) ∵ move ! (1 ∷ []) $ fsplit ! $ move ! (2 ∷ 0 ∷ []) $ fjoin ! $
    handle_in ! (block_ptr b o) h.alloc (Some w) $
    rewrite ! 0 (λ (p : Ptr). ‵ (H.own_val (record { at = p; alloc = h.alloc; value = Some w }) (one_word b o ∷ []))) (sym e) refl $
    move ! (1 ∷ 0 ∷ []) $ fjoin ! $
    fpack ! (List Val) (λ us. fsep (cell_at full_share H.mir us rb ro) (H.own_val (with_fed h w) us)) (one_word b o ∷ []) $ done !

pub lend_spec : {M : Type 1} → statement M
lend_spec 𝓤 𝓛 𝓜 𝓡 wired =
    let 𝓣 = tables 𝓤 𝓛.H 𝓜 𝓡 𝓡.env in let c = clauses 𝓛 𝓜.mem 𝓡.returns in let W = walk_of 𝓛 ended stayed c in
    proved 𝓛 ended stayed c 𝓜 𝓡 (Goes-spent_ref 𝓛 1 (0 ∷ []) tt (plain (λ _. H)), tt) #self code.function (code.unfolded 𝓤 𝓛.H 𝓜 𝓡 wired)
    (λ κs. (mut_vals, tt)) (λ κs. (mut_Tells (named 0) κs.0 H, tt)) (λ κs qs bounds a g are.
    let κ = κs.0 in let q = qs.0 in let self = a.0 in let rb = self.ref_ptr.0 in let ro = self.ref_ptr.1 in let γ = self.ghost_name in let h = self.now in
    let y : W.Ghost = ((κs, qs, bounds, a, (mut_vals self, tt)), g) in
    qed 𝓛 (((‵ (flft κ q) ⊛ ‵ ftrue) ⊛ ‵ (owns (MutRef (named 0) κ H ∷ []) (self, tt) (vptr rb ro ∷ [], tt))) ∷ raw (fact 𝓤 (IsSome h.value)) ∷ []) ∵
    move ! (1 ∷ []) $ heard ! (IsSome h.value) (λ some_held.
    let x = (some_of h.value some_held).0 in let is = (some_of h.value some_held).1 in
    enter ! 𝓣.C 𝓣.Λ code.function (vptr rb ro ∷ []) _ $ alloc_all ! (λ l. pass_all ! refl ((tt, tt), tt) $
    let En : Env 𝓤 𝓛.H = env code.Mir.locals l in
    split ! $ split ! $ move ! (2 ∷ []) $ fsplit ! $ fsplit3 ! $ drop ! $ move ! (0 ∷ 1 ∷ 3 ∷ []) $
    opens ! tt H {h = h} rb ro (λ vs. move ! (1 ∷ []) $ handle_out ! h x is vs (λ b o e ws.
    rewrite ! 1 (λ (us : List Val). ‵ (cell_at full_share H.mir us rb ro)) ws refl $ fsplit ! $
    -- [what it holds; the right to free; the word; the open borrow; obs; auth]
    first ! $ blocks ! $
    sets ! (of_opd ! (load ! (through ! refl (fld ! refl (stop !))) (look_in ! 2 (sub ! 0 refl (whole !))))) refl (tt, tt) $
    sets ! (of_opd ! (get ! refl)) refl (tt, tt) $
    sets_last ! (addr ! (through ! refl (stop !))) refl (tt, tt) $ exec ! 𝓣.C 𝓣.Λ En (after 1 (code.function).body) (at_ret En (W.post y)) $
    sets ! (of_opd ! (get ! refl)) refl (tt, tt) $
    move ! (1 ∷ 2 ∷ []) $ fjoin ! $ move ! (2 ∷ 3 ∷ 4 ∷ 1 ∷ 0 ∷ []) $ group ! 5 $
    use1 𝓛 (later (some (λ (δ : GName). raw (Part 𝓛 H R (with_fed h) (named 0) κ q rb ro b o γ (sem 𝓛 (Rest h b o rb ro)) (back 𝓛 h b o rb ro e) x δ))))
    (lends_Part 𝓛 H R (with_fed h) (named 0) κ q rb ro b o γ (sem 𝓛 (Rest h b o rb ro)) (back 𝓛 h b o rb ro e) (H.coded.code h) (H.coded.code h) x) $ await ! tt $ pick ! (λ δ.
    use1 𝓛 (‵ ((MutRef (named 0) κ R).own_val (record { ref_ptr = (b, o); ghost_name = δ; now = x }) (vptr b o ∷ [])) ⊛ ‵ (flft κ q) ⊛ ‵ (follows H R γ δ (with_fed h))) (id⊢ 𝓤 _) $ split3 ! $
    returns ! (look_at ! 0 refl) $ free_all ! refl $ keep ! (0 ∷ 1 ∷ 2 ∷ []) $
    suffices ! _ (ends_at 𝓛 ended stayed c y (vptr b o) (record { ref_ptr = (b, o); ghost_name = δ; now = x }) (tt, tt) (tt, tt)) $
    nothing ! $ nothing ! $ fjoin ! $ join ! $ nothing ! $ move ! (2 ∷ 0 ∷ []) $ join ! $ join ! $ frame ! $ says ! is $ done !))))))
