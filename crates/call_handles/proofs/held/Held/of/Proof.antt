-- `of` takes over the box that the pointer points to. Assumes `Logic`.
use Rattle.std.proofs.Common.{◌≡◌, List, [], ◌∷◌, ◌++◌, Some, refl}
use mir.Val.{Val}
use base.Logic.{SProp, emp}
use base.Fml.{ftrue}
use prog.Wp.{WpFn}
use contract.Monad.{fact, fact_i}
use contract.Running.{tables}
use types.Kit.{‵, raw, ◌⊛◌, prop, ◌$◌, ◌∵◌, !, qed, by, move, drop, use0, split, regoal, fsplit, fjoin, fpack}
use types.Part.{agg, whole, sub}
use types.Run.{stop, fld, of_opd, no_more, and_then, returns, enter}
use types.ByLocal.{alloc_all, pass_all, free_all, look_at, get, get_in, sets}
use denote.RattleType.{owns}
use denote.Signature.{types_at}
use denote.Steps.{nothing, heard}
use denote.Triple.Entry.{alive}
use denote.Triple.Walked.{Stays, stay_dropped, walk_of}
use Rattle.core.proofs.alloc.Calls.{Goes-blank}
use Rattle.std_alloc.proofs.ResultValues.{and_tt}
use Rattle.std.proofs.raw_atomic.Walks.{proved_at, leaves}
use Rattle.call_handles.specs.Handles.{IsSound}
use Rattle.call_handles.proofs.Values.{slot_of, pointer_typed, alone, alone_owns, alone_made, beside, beside_told}
use Rattle.call_handles.specs.contracts.handle.Handle as handle
use Rattle.std_alloc.specs.Box.Ownership.{box_owns}
use Rattle.std_heap.specs.declared.Global.{Global}
use Rattle.std_heap.specs.contracts.GlobalAllocator.TheImpl.{ghosts}
use Rattle.call_handles.specs.contracts.held.Held as held
use Rattle.call_handles.specs.contracts.held.Held.of.{ended, clauses}
use Rattle.call_handles.specs.contracts.held.Held.of.Key.{name as #self}
use Rattle.call_handles.proofs.held.Held.of.Statement.{statement}
use Rattle.call_handles.proofs.held.Held.of.Code as code

abbrev stays : Stays ended.signature.params ended.kept
stays = (stay_dropped (slot_of 0 ended.signature.params) ended.kept.0, tt)

pub of_spec : {M : Type 1} → statement M
of_spec 𝓤 𝓛 𝓜 𝓡 wired =
    let c = clauses 𝓛 𝓜.mem 𝓡.returns in let 𝓣 = tables 𝓤 𝓛.H 𝓜 𝓡 𝓡.env in let fn = code.function in
    proved_at 𝓛 ended stays c 𝓜 𝓡
    (Goes-blank 𝓛 0 (slot_of 0 ended.signature.params) ended.kept.0 (λ κs x f. tt), tt) #self fn
    (code.unfolded 𝓤 𝓛.H 𝓜 𝓡 wired) (λ z are.
    let Post : Val → SProp 𝓤 = (walk_of 𝓛 ended stays c).post z in let v = z.0.3.0 in
    let p = v.at in
    let x : held.the_row.Denot = record { at = p; value = Some v.value } in
    qed 𝓛 ((raw (alive 𝓛 ended.signature z.0.0 z.0.1) ⊛ ‵ (owns
    (types_at ended.signature.params z.0.0) z.0.3 z.0.4)) ∷ raw (fact 𝓤 (IsSound v.value)) ∷ []) ∵
    move ! (1 ∷ []) $ heard ! (IsSound v.value)
    (λ sound. split ! $ move ! (1 ∷ []) $ fsplit ! $ fsplit ! $ drop ! $ move ! (1 ∷ []) $ drop ! $
    -- [what is at the pointer; nothing of lifetimes]
    regoal ! (λ (us : List Val). prop (WpFn 𝓤 𝓛.H 𝓣.C 𝓣.Λ fn us Post))
    (λ i. beside_told p v.alloc z.0.4.0 are.0.0 i ++ []) refl $
    enter ! 𝓣.C 𝓣.Λ fn (beside p ∷ []) Post $ alloc_all ! (λ l. pass_all ! refl
    ((and_tt _ (pointer_typed p).0, ((pointer_typed p).1, (((tt, tt), tt), tt))), tt) $
    sets ! (of_opd ! (get_in ! (fld ! refl (stop !)) (sub ! 0 refl (whole !)))) refl
    (pointer_typed p) $
    sets ! (of_opd ! (get ! refl)) refl (pointer_typed p) $
    sets ! (agg ! (and_then ! (get ! refl) (no_more !))) refl
    (and_tt _ (pointer_typed p).0, ((pointer_typed p).1, tt)) $
    returns ! (look_at ! 0 refl) $ free_all ! refl $
    fpack ! Global (λ heap. box_owns (ghosts.dealloc_token heap) handle.the_row p v.value) v.alloc $
    nothing ! $ fpack ! (IsSound v.value) (λ _. ftrue) sound $ move ! (1 ∷ 0 ∷ []) $ fjoin ! $
    use0 𝓛 (‵ (alone_owns p (alone p ∷ []))) (alone_made 𝓛 p) $ fjoin ! $
    use0 𝓛 (raw (fact 𝓤 (x.value ≡ x.value))) (fact_i 𝓤 (x.value ≡ x.value) (emp 𝓤) refl) $ nothing
    ! $ nothing ! $ fjoin ! $ move ! (3 ∷ 0 ∷ 2 ∷ 1 ∷ []) $
    by ! (leaves 𝓛 ended stays c z (alone p) x (tt, tt) (tt, tt)))))
