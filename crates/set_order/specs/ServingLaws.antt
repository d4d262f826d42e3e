-- Laws of what objects serve: which capacities suffice, and how many replies there are.
use Rattle.std.proofs.Common.{◌≡◌, ℕ, ◌-◌, ◌≤◌, ◌∙◌, Bool, true, false, List, [], ◌∷◌, length, map, Some, sym, ap, subst, arith}
use Rattle.std.proofs.lemmas.Option.{same_Some, none-some}
use Rattle.std.proofs.lemmas.List.{length-map}
use Rattle.book_base.specs.Reaching as objects
use Rattle.set_order.specs.Serving.{ServesTo, SufficesAfter, served_alone}
use Rattle.set_order.specs.Joins.{joins_some, list_joined, join_reply, mask_of, with_joins, served_joins}

-- A capacity that suffices for operations of a sequential object suffices for sets of them, each of
-- which has one operation.
pub served_alone-suffices : (next : List ℕ → ℕ → List ℕ × ℕ) (list : List ℕ)
    (operations capacity : ℕ) → objects.SufficesAfter next list operations capacity
    → SufficesAfter (served_alone next) list operations capacity
served_alone-suffices next list operations capacity fits [] later to few =
    omega (arith, fits [] (omega arith), ap (λ (l : List ℕ). length l) to)
served_alone-suffices next list operations capacity fits ([] ∷ sets) later to few =
    absurd (none-some (to.0, to.1) to.2)
served_alone-suffices next list operations capacity fits ((op ∷ []) ∷ sets) later to few =
    let same = same_Some ((next list op).0, (next list op).1 ∷ []) (to.0, to.1) to.2 in
    served_alone-suffices next (next list op).0 (operations - 1) capacity
    (λ steps low. fits ((op, 0) ∷ steps) (omega (arith, low, few))) sets later
    (subst (λ (l : List ℕ). ServesTo (served_alone next) l sets later)
    (sym (ap (λ (s : List ℕ × List ℕ). s.0) same)) to.3)
    (omega (arith, few))
served_alone-suffices next list operations capacity fits ((op ∷ other ∷ ops) ∷ sets) later to few =
    absurd (none-some (to.0, to.1) to.2)

-- A sequential object that serves a set of operations gives as many replies as there are
-- operations.
pub served_alone-replies : (next : List ℕ → ℕ → List ℕ × ℕ) → (list ops after replies : List ℕ)
    → served_alone next list ops ≡ Some (after, replies) → length replies ≡ length ops
served_alone-replies next list [] after replies h = absurd (none-some (after, replies) h)
served_alone-replies next list (op ∷ []) after replies h =
    let same = same_Some ((next list op).0, (next list op).1 ∷ []) (after, replies) h in
    sym (ap (λ (s : List ℕ × List ℕ). length s.1) same)
served_alone-replies next list (op ∷ other ∷ ops) after replies h =
    absurd (none-some (after, replies) h)

list_joined-small : (some : Bool) (mask : ℕ) (list : List ℕ) → length list ≤ 1
    → length (list_joined some mask list) ≤ 1
list_joined-small true mask list small = omega arith
list_joined-small false mask list small = small

-- Sets that Joins serves lead from a list of at most one word to such a list.
pub served_joins-small : (list : List ℕ) (sets : List (List ℕ)) (later : List ℕ) → length list ≤ 1
    → ServesTo served_joins list sets later → length later ≤ 1
served_joins-small list [] later small to =
    omega (arith, small, ap (λ (l : List ℕ). length l) to)
served_joins-small list (ops ∷ sets) later small to =
    let mask : ℕ = with_joins (mask_of list) ops in
    let same = same_Some (list_joined (joins_some ops) mask list, map (join_reply mask) ops)
    (to.0, to.1) to.2 in
    served_joins-small to.0 sets later
    (omega (
      arith,
      list_joined-small (joins_some ops) mask list small,
      ap (λ (s : List ℕ × List ℕ). length s.0) same,
    )) to.3

-- Joins gives as many replies as there are operations.
pub served_joins-replies : (list ops after replies : List ℕ)
    → served_joins list ops ≡ Some (after, replies) → length replies ≡ length ops
served_joins-replies list ops after replies h =
    let mask : ℕ = with_joins (mask_of list) ops in
    let same = same_Some (list_joined (joins_some ops) mask list, map (join_reply mask) ops)
    (after, replies) h in
    sym (ap (λ (s : List ℕ × List ℕ). length s.1) same) ∙ length-map ops (join_reply mask)
