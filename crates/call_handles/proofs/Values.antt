-- The machine values of the structs that hold a pointer, and what their fields own.
use Rattle.std.proofs.Common.{◌≡◌, ℕ, zero, suc, List, [], ◌∷◌, ◌++◌, Option, None, Some, IsSome, refl, sym, ◌∙◌, lit<}
use mathlib.Core.Bool.{Bool, true, false, true≢false, ◌&&◌}
use lib.Dec.{T}
use seplogic.Ra.Ura.{Ura}
use mir.Syntax.{ty_ptr}
use mir.Val.{Val, vstruct, vcons, vnil, of_list}
use base.Logic.{ent, emp}
use base.Fml.{Fml}
use types.Kit.{◌$◌, ◌∵◌, !, qed, done, fjoin, fpack, feq_i}
use types.Logic.{Logic, sem}
use denote.Builtin.{unit}
use denote.Laws.{Is}
use denote.RattleType.{RattleType, Valss}
use denote.RawPtr.{Ptr, RawPtr, block_ptr, null_ptr, ptr_val}
use denote.Signature.{Slot, plain}
use denote.Shadow.{shadow, makes_shadow}
use denote.Steps.{nothing, owned}
use denote.Struct.Laws as laws
use denote.Struct.Struct.{Struct, within}
use Rattle.core.proofs.cell.Inside.{Good}
use Rattle.std_heap.specs.contracts.Global as global
use Rattle.std_heap.proofs.Global.TheLaws as global_laws
use Rattle.std_heap.proofs.Handle.{heap_val, heap_Tells}

-- The parameter at a place of a function without lifetimes.
abbrev pub slot_of : {n : ℕ} → ℕ → List (Slot n) → Slot n
slot_of k [] = plain (λ _. unit)
slot_of zero (s ∷ ss) = s
slot_of (suc k) (s ∷ ss) = slot_of k ss

pub and_and : (x y : Bool) → T x → T y → T (x && (y && true))
and_and true true s t = tt
and_and true false s t = absurd t
and_and false y s t = absurd s

-- The type of a struct with these fields, whose name doesn't matter.
abbrev pub fields_of : List RattleType → RattleType
fields_of fields = Struct (record { name = []; args = []; types = []; fields = fields })

pub pointer_typed : (p : Ptr) → Good ty_ptr (ptr_val p)
pointer_typed (block_ptr b o) = (tt, tt)
pointer_typed null_ptr = (tt, record { fits = lit< tt })

pub by_some : {X : Type 1} {Y : Type 0} (o : Option Y) → IsSome o → ((y : Y) → o ≡ Some y → X) → X
by_some None some k = absurd (true≢false (sym some))
by_some (Some y) some k = k y refl

-- The machine value of a pointer alone.
abbrev pub alone : Ptr → Val
alone p = vstruct (vcons (ptr_val p) vnil)

abbrev pub alone_owns : Ptr → List Val → Fml
alone_owns p = (fields_of (RawPtr ∷ [])).own_val (p, tt)

pub alone_told : (p : Ptr) (vs : List Val) → shadow (alone_owns p vs) → vs ≡ alone p ∷ []
alone_told p vs s = s.1.0 ∙ (λ i. vstruct (of_list (s.1.1.0 i ++ [])) ∷ [])

pub alone_made : {M : Type 1} {𝓤 : Ura M} (𝓛 : Logic 𝓤) (p : Ptr)
    → ent 𝓤 (emp 𝓤) (sem 𝓛 (alone_owns p (alone p ∷ [])))
alone_made 𝓛 p = makes_shadow 𝓛 (alone_owns p (alone p ∷ [])) (λ _. (tt, (tt, tt)))
    ((ptr_val p ∷ [], tt), (refl, (refl, tt)))

-- a pointer beside the heap's handle, which has one value
abbrev pub beside : Ptr → Val
beside p = vstruct (vcons (ptr_val p) (vcons heap_val vnil))

abbrev pub beside_owns : Ptr → global.the_row.Denot → List Val → Fml
beside_owns p heap = (fields_of (RawPtr ∷ global.the_row ∷ [])).own_val (p, (heap, tt))

pub beside_told : (p : Ptr) (heap : global.the_row.Denot) (vs : List Val)
    → shadow (beside_owns p heap vs) → vs ≡ beside p ∷ []
beside_told p heap vs s =
    s.1.0 ∙ (λ i. vstruct (of_list (s.1.1.0 i ++ (heap_Tells heap _ s.1.1.1.0 i ++ []))) ∷ [])

pub beside_made : {M : Type 1} {𝓤 : Ura M} (𝓛 : Logic 𝓤) (p : Ptr) (heap : global.the_row.Denot)
    → Is global.the_row heap (heap_val ∷ [])
    → ent 𝓤 (emp 𝓤) (sem 𝓛 (beside_owns p heap (beside p ∷ [])))
beside_made 𝓛 p heap is =
    qed 𝓛 [] ∵ nothing ! $ owned ! global.the_row (Is global.the_row)
    (laws.makes global.the_type global_laws.the_plain 𝓛) heap (heap_val ∷ []) is $ fjoin ! $
    feq_i ! (List Val) (ptr_val p ∷ []) (ptr_val p ∷ []) refl $ fjoin ! $ feq_i ! (List Val)
    (beside p ∷ []) (beside p ∷ []) refl $ fjoin ! $
    fpack ! (Valss (RawPtr ∷ global.the_row ∷ []))
    (within (record { name = []; args = []; types = []; fields = RawPtr ∷ global.the_row ∷ [] })
    (p, (heap, tt)) (beside p ∷ [])) (ptr_val p ∷ [], (heap_val ∷ [], tt)) $ done !
