-- Words that stand for a list: what is found by the words holds of the list.
use Rattle.std.proofs.Common.{◌≡◌, ◌≢◌, ℕ, ◌<◌, ◌⊎◌, Bool, IsTrue, true, List, [], ◌∷◌, get_or, Option, Some, refl, sym, ap, subst, inl, inr, arith}
use Rattle.std.specs.List.{AllByRecursion}
use Rattle.std.specs.Option.{IfSome}
use Rattle.book_base.specs.declared.call.Call.{Call}
use Rattle.search_hints.specs.declared.marked_callers.MarkedCallers.{MarkedCallers}
use Rattle.book_base.specs.Book.{Page}
use Rattle.book_base.specs.Next.{next_call}
use Rattle.search_hints.specs.Marks.{IsMarked}
use Rattle.legal_orders.specs.Container.{Reading}
use Rattle.legal_orders.specs.Calls.{PutsIn, PutsInAlone}
use Rattle.list_pruning.proofs.Placing.{all-weaker}
use Rattle.list_pruning.specs.declared.top.Top.{Top}
use Rattle.list_pruning.specs.LastFirst.{IsSmall, Lacks, EndsWith, TakesLast, PutsPaired, PutsKept, PutsNeedless, IsItem, HasTop, StandFor}
use Rattle.list_pruning.proofs.Stepping.{all-prefix}

-- Where `TakesLast` holds of a caller and the first words, it holds of the caller and each list for
-- which the words stand.
pub takes_last : (reading : Reading) (book : List Page) (cut ends others list : List ℕ)
    (look : Bool) (caller : ℕ)
    → StandFor reading book cut ends others look list → TakesLast reading book cut ends caller
    → TakesLast reading book cut list caller
takes_last reading book cut ends others list look caller stands it =
    record {
      value = it.value;
      last = stands.last it.value it.last;
      puts = it.puts;
      takes = it.takes;
    }

-- Where `PutsPaired` holds of a caller and the other words, it holds of the caller and each list
-- for which the words stand.
pub puts_paired_in : (reading : Reading) (book : List Page) (cut ends others list : List ℕ)
    (look : Bool) (caller : ℕ)
    → StandFor reading book cut ends others look list → PutsPaired reading book cut others caller
    → PutsPaired reading book cut list caller
puts_paired_in reading book cut ends others list look caller stands it = record {
  value = it.value;
  taker = it.taker;
  alone = it.alone;
  lacks = stands.lacks caller it.value it.alone it.lacks;
  may_come = it.may_come;
  takes = it.takes;
}

-- Where `PutsKept` holds of a caller and the other words, and `look` is true, it holds of the
-- caller and each list for which the words stand.
pub puts_kept : (reading : Reading) (book : List Page) (cut ends others list : List ℕ) (look : Bool)
    (caller : ℕ) → IsTrue look
    → StandFor reading book cut ends others look list → PutsKept reading book cut others caller
    → PutsKept reading book cut list caller
puts_kept reading book cut ends others list look caller told stands it =
    record { put = it.put; below = stands.kept told it.below; never_empty = it.never_empty }

-- Where the next call of each caller whose mark was taken away puts in a value that a take doesn't
-- show, or the last one of the first words, it puts in a value that the take doesn't show, or the
-- last item of each list for which the words stand.
pub puts_needless : (reading : Reading) (book : List Page) (cut ends others list : List ℕ)
    (look : Bool) (shown : Option ℕ) (all left : MarkedCallers)
    → StandFor reading book cut ends others look list
    → ((i : ℕ) → IsMarked all i → IsMarked left i ⊎ PutsNeedless reading book cut ends shown i)
    → (i : ℕ) → IsMarked all i → IsMarked left i ⊎ PutsNeedless reading book cut list shown i
puts_needless reading book cut ends others list look shown all left stands needless i marked =
    elim (needless i marked) [
      | inl kept ↦ inl kept
      | inr out ↦ elim out.2 [
        | inl other ↦ inr (out.0, out.1, inl other)
        | inr last ↦ inr (out.0, out.1, inr (stands.last out.0 last))
      ]
    ]

-- A list stands for itself.
pub stand_for_itself : (reading : Reading) (book : List Page) (cut list : List ℕ)
    → StandFor reading book cut list list true list
stand_for_itself reading book cut list =
    record { last = λ v ends. ends; lacks = λ caller v alone lacks. lacks; kept = λ told all. all }

-- ---- by the top alone

-- Each item of a list after a cut is below the bound.
pub small_items : (reading : Reading) (book : List Page) (cut : List ℕ) (bound : ℕ) (list : List ℕ)
    → AllByRecursion (IsItem reading book cut bound) list → IsSmall bound list
small_items reading book cut bound list all =
    all-weaker (IsItem reading book cut bound) (λ (x : ℕ). x < bound) list
    (λ (x : ℕ) (item : IsItem reading book cut bound x). item.small) all

-- A value that a caller's next call, and no other call, puts in is none of the items of a list
-- after the cut.
lacks_it : (reading : Reading) (book : List Page) (cut : List ℕ) (bound : ℕ) (list : List ℕ)
    (caller v : ℕ) → AllByRecursion (IsItem reading book cut bound) list
    → PutsInAlone reading book (next_call cut caller) v → Lacks list v
lacks_it reading book cut bound list caller v all alone =
    all-weaker (IsItem reading book cut bound) (λ (x : ℕ). x ≢ v) list
    (λ (x : ℕ) (item : IsItem reading book cut bound x) (e : x ≡ v).
    let same : item.put ≡ next_call cut caller =
    alone.1 item.put (subst (λ (w : ℕ). PutsIn reading book item.put w) e item.puts) in
    absurd (omega (
      arith,
      item.inside,
      ap (λ (c : Call). get_or cut c.caller 0) same,
      ap (λ (c : Call). c.number) same,
    )))
    all

-- A list of one word ends with this word alone.
ends_with_one : (w v : ℕ) → EndsWith (w ∷ []) v → v ≡ w
ends_with_one w v ends =
    (all-prefix (λ (x : ℕ). x ≡ w) ends.0 v
    (subst (λ (xs : List ℕ). AllByRecursion (λ (x : ℕ). x ≡ w) xs) ends.1 (refl, tt))).1

ends_with_none : (v : ℕ) → EndsWith [] v → ⊥
ends_with_none v ends = (all-prefix (λ (x : ℕ). ⊥) ends.0 v
    (subst (λ (xs : List ℕ). AllByRecursion (λ (x : ℕ). ⊥) xs) ends.1 tt)).1

-- The last word of a top, with no other words, stands for each list with this top.
pub stand_for_last : (reading : Reading) (book : List Page) (cut : List ℕ) (bound : ℕ) (top : Top)
    (list : List ℕ) (w : ℕ) → top.last ≡ Some w
    → HasTop reading book cut bound top list → StandFor reading book cut (w ∷ []) [] top.kept list
stand_for_last reading book cut bound top list w is has =
    let last : EndsWith list w = subst (λ (o : Option ℕ). IfSome o (EndsWith list)) is has.last in
    record {
      last = λ (v : ℕ) (ends : EndsWith (w ∷ []) v).
          subst (EndsWith list) (sym (ends_with_one w v ends)) last;
      lacks = λ caller v alone lacks. lacks_it reading book cut bound list caller v has.items alone;
      kept = λ told all. has.kept told;
    }

-- No words at all stand for each list with this top.
pub stand_for_none : (reading : Reading) (book : List Page) (cut : List ℕ) (bound : ℕ) (top : Top)
    (list : List ℕ)
    → HasTop reading book cut bound top list → StandFor reading book cut [] [] top.kept list
stand_for_none reading book cut bound top list has =
    record {
      last = λ (v : ℕ) (ends : EndsWith [] v). absurd (ends_with_none v ends);
      lacks = λ caller v alone lacks. lacks_it reading book cut bound list caller v has.items alone;
      kept = λ told all. has.kept told;
    }
