-- `take` gives back the box that the pointer points to, and keeps a pointer to nothing. Assumes
-- `Logic`.
use Rattle.std.proofs.Common.{◌≡◌, List, [], ◌∷◌, ◌++◌, Option, None, Some, IsSome, refl, subst}
use mir.Val.{Val}
use base.Logic.{SProp, emp}
use prog.Wp.{WpFn}
use contract.Monad.{fact, fact_i}
use contract.Running.{tables}
use types.Kit.{‵, raw, ◌⊛◌, prop, ◌$◌, ◌∵◌, !, qed, by, move, drop, use0, use2, split, regoal, rewrite, fsplit, fjoin, fpick}
use types.Part.{agg, whole, sub}
use types.Run.{stop, fld, of_opd, no_more, and_then, returns, enter}
use types.ByLocal.{alloc_all, pass_all, free_all, look_at, get, get_in, sets}
use denote.Laws.{Is}
use denote.RattleType.{RattleType, owns}
use denote.Signature.{types_at}
use denote.Steps.{nothing, heard}
use denote.Struct.Tuple.{Tuple}
use denote.Triple.Entry.{alive}
use denote.Triple.Walked.{Stays, stay_dropped, walk_of}
use Rattle.core.proofs.alloc.Calls.{Goes-blank}
use Rattle.std_alloc.proofs.Pairs.{pair_of, pair_val}
use Rattle.std_alloc.proofs.ResultValues.{and_tt}
use Rattle.std_heap.specs.contracts.Global as global
use Rattle.std_heap.proofs.Handle.{heap_val, heap_Tells}
use Rattle.std.proofs.raw_atomic.Walks.{proved_at, leaves}
use Rattle.call_handles.specs.declared.handle.Handle.{Handle}
use Rattle.call_handles.specs.Handles.{IsSound}
use Rattle.call_handles.specs.contracts.handle.Handle as handle
use Rattle.std_heap.specs.contracts.GlobalAllocator.TheImpl.{ghosts}
use Rattle.call_handles.specs.Ownership.{held_at}
use Rattle.call_handles.specs.contracts.held.Held as held
use Rattle.call_handles.specs.contracts.loose.Loose as loose
use Rattle.call_handles.proofs.Values.{slot_of, by_some, and_and, pointer_typed, alone, alone_owns, alone_told, alone_made, beside, beside_owns, beside_made}
use Rattle.call_handles.specs.contracts.held.Held.take.{ended, clauses}
use Rattle.call_handles.specs.contracts.held.Held.take.Key.{name as #self}
use Rattle.call_handles.proofs.held.Held.take.Statement.{statement}
use Rattle.call_handles.proofs.held.Held.take.Code as code

abbrev stays : Stays ended.signature.params ended.kept
stays = (
  stay_dropped (slot_of 0 ended.signature.params) ended.kept.0,
  (stay_dropped (slot_of 1 ended.signature.params) ended.kept.1.0, tt),
)

-- the type of what a box is taken apart into
abbrev row : RattleType
row = loose.the_row handle.the_row global.the_row ghosts

pub take_spec : {M : Type 1} → statement M
take_spec 𝓤 𝓛 𝓜 𝓡 wired =
    let c = clauses 𝓛 𝓜.mem 𝓡.returns in let 𝓣 = tables 𝓤 𝓛.H 𝓜 𝓡 𝓡.env in let fn = code.function in
    proved_at 𝓛 ended stays c 𝓜 𝓡 (
      Goes-blank 𝓛 0 (slot_of 0 ended.signature.params) ended.kept.0 (λ κs x f. tt),
      (Goes-blank 𝓛 0 (slot_of 1 ended.signature.params) ended.kept.1.0 (λ κs x f. tt), tt),
    )
    #self fn (code.unfolded 𝓤 𝓛.H 𝓜 𝓡 wired) (λ z are.
    let Post : Val → SProp 𝓤 = (walk_of 𝓛 ended stays c).post z in let v = z.0.3.0 in
    let p = v.at in let heap = z.0.3.1.0 in
    let one : z.0.4.1.0 ≡ heap_val ∷ [] = heap_Tells heap z.0.4.1.0 are.1.0 in
    let is_heap : Is global.the_row heap (heap_val ∷ []) =
    subst (λ (vs : List Val). Is global.the_row heap vs) one are.1.0 in
    qed 𝓛 ((raw (alive 𝓛 ended.signature z.0.0 z.0.1) ⊛ ‵ (owns
    (types_at ended.signature.params z.0.0) z.0.3 z.0.4)) ∷ raw (fact 𝓤 (IsSome v.value)) ∷ []) ∵
    move ! (1 ∷ []) $ heard ! (IsSome v.value)
    (λ some. split ! $ move ! (1 ∷ []) $ fsplit ! $ fsplit ! $ drop ! $ move ! (1 ∷ []) $ drop ! $
    by_some v.value some (λ h is.
    rewrite ! 0 (λ (o : Option Handle). ‵ (held_at p o)) is refl $ fsplit ! $ move !
    (1 ∷ []) $ fpick ! (λ sound. drop ! $ fpick ! (λ other.
    -- [what the box owns; nothing of lifetimes]
    let x : row.Denot = record { at = p; alloc = heap; value = h } in
    let left : held.the_row.Denot = record { at = p; value = None } in
    let Said : Type 0 = (v.value ≡ Some h) × IsSound h × (left.value ≡ None) in
    let good = pointer_typed p in let both : Val = pair_val (beside p) (alone p) in
    regoal ! (λ (us : List Val). prop (WpFn 𝓤 𝓛.H 𝓣.C 𝓣.Λ fn us Post))
    (λ i. alone_told p z.0.4.0 are.0.0 i ++ (one i ++ [])) refl $
    enter ! 𝓣.C 𝓣.Λ fn (alone p ∷ heap_val ∷ []) Post $
    alloc_all ! (λ l. pass_all ! refl
    ((and_tt _ (pointer_typed p).0, ((pointer_typed p).1, tt)), ((tt, ((tt, tt), tt)), tt)) $
    sets ! (of_opd ! (get_in ! (fld ! refl (stop !)) (sub ! 0 refl (whole !)))) refl
    (pointer_typed p) $
    sets ! (of_opd ! (get ! refl)) refl (pointer_typed p) $
    sets ! (agg ! (and_then ! (get ! refl) (and_then ! (get ! refl) (no_more !)))) refl
    (and_tt _ good.0, (good.1, (((tt, tt), tt), tt))) $
    sets ! (of_opd ! (get ! refl)) refl (and_tt _ good.0, (good.1, (((tt, tt), tt), tt))) $
    sets ! (agg ! (and_then ! (get ! refl) (no_more !))) refl (and_tt _ good.0, (good.1, tt)) $
    sets ! (agg ! (and_then ! (get ! refl) (and_then ! (get ! refl) (no_more !)))) refl (
      and_and _ _ (and_tt _ good.0) (and_tt _ good.0),
      ((good.1, (((tt, tt), tt), tt)), ((good.1, tt), tt)),
    ) $
    returns ! (look_at ! 0 refl) $ free_all ! refl $
    nothing ! $ use0 𝓛 (‵ (alone_owns p (alone p ∷ [])))
    (alone_made 𝓛 p) $ fjoin ! $ move ! (1 ∷ []) $
    use0 𝓛 (‵ (beside_owns p heap (beside p ∷ []))) (beside_made 𝓛 p heap is_heap) $ fjoin ! $
    use2 𝓛 (‵ ((Tuple (row ∷ held.the_row ∷ [])).own_val (x, left) (both ∷ [])))
    (pair_of 𝓛 row held.the_row x left (beside p) (alone p)) $
    use0 𝓛 (raw (fact 𝓤 Said)) (fact_i 𝓤 Said (emp 𝓤) (is, sound, refl)) $ nothing ! $ nothing ! $
    fjoin ! $ nothing ! $ fjoin ! $ move ! (3 ∷ 0 ∷ 2 ∷ 1 ∷ []) $
    by ! (leaves 𝓛 ended stays c z both (x, left) (tt, (tt, tt)) (tt, (tt, tt)))))))))
