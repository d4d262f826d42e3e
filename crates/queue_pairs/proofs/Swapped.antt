-- Two lists of numbers of covered calls that differ in one call each of one kind.
use Rattle.std.proofs.Common.{◌≡◌, ◌≢◌, ℕ, ◌+◌, ◌<◌, ◌≤◌, ◌∙◌, List, length, get_or, set, Some, sym, ap, inl, inr, arith}
use Rattle.std.proofs.lemmas.Bool.{cases_lt, cases_eq}
use Rattle.std.proofs.lemmas.List.{get_or-set_same, get_or-set_other, length-set, set_past}
use Rattle.book_base.specs.declared.call.Call.{Call}
use Rattle.book_base.specs.declared.call.Record.{Record}
use Rattle.book_base.specs.Book.{Page, answers_of, IsValid, record_of}
use Rattle.book_base.specs.Pruning.{HasOneOpen}
use Rattle.book_base.proofs.ViewLemmas.{answer_stands}
use Rattle.queue_pairs.specs.Moments.{moment_of, IsHeldBy, MayTakeEffect}
use Rattle.queue_pairs.specs.Pairs.{IsNext}
use Rattle.queue_pairs.specs.Serving.{IsDueNoLater}
use Rattle.queue_pairs.proofs.Moments.{later_moment}
use Rattle.queue_pairs.proofs.Serving.{IsSame, next-at}

-- two lists with the same number at a place have the same number there when one caller's number is
-- set in both
set-alike : (one other : List ℕ) (at n i : ℕ) → length other ≡ length one
    → get_or other i 0 ≡ get_or one i 0 → get_or (set other at n) i 0 ≡ get_or (set one at n) i 0
set-alike one other at n i wide alike =
    elim (cases_eq i at) [
      | inl same ↦
          elim (cases_lt at (length one)) [
            | inl inside ↦
                let first : get_or (set one at n) at 0 ≡ n = get_or-set_same one at n 0 inside in
                let second : get_or (set other at n) at 0 ≡ n =
                get_or-set_same other at n 0 (omega (arith, inside, wide)) in
                ap (λ (k : ℕ). get_or (set other at n) k 0) same
                ∙ (second ∙ (sym first ∙ sym (ap (λ (k : ℕ). get_or (set one at n) k 0) same)))
            | inr past ↦
                ap (λ (xs : List ℕ). get_or xs i 0)
                (set_past other at n (omega (arith, past, wide)))
                ∙ (alike ∙ sym (ap (λ (xs : List ℕ). get_or xs i 0) (set_past one at n past)))
          ]
      | inr apart ↦ get_or-set_other other at i n 0 apart
          ∙ (alike ∙ sym (get_or-set_other one at i n 0 apart))
    ]

-- One list of numbers covers call w and has p as its next call of the kind, the other list covers p
-- and has w as the next one; all other callers have the same numbers in both.
pub record AreSwapped (kind : Call → Type 0) (one other : List ℕ) (p w : Call) : Type 0 where
  pub apart : p.caller ≢ w.caller
  pub next_p : IsNext kind one p
  pub next_w : IsNext kind other w
  pub has_w : get_or one w.caller 0 ≡ w.number + 1
  pub has_p : get_or other p.caller 0 ≡ p.number + 1
  pub others : (i : ℕ) → i ≢ p.caller → i ≢ w.caller → get_or other i 0 ≡ get_or one i 0
  pub wide : length other ≡ length one
  pub inside_p : p.caller < length one
  pub inside_w : w.caller < length one

-- Once both calls are covered by both lists of numbers, the numbers are the same.
pub both-stand : (kind : Call → Type 0) (one other : List ℕ) (p w x : Call)
    → AreSwapped kind one other p w → x ≡ p
    → IsSame (set other w.caller (w.number + 1)) (set one x.caller (x.number + 1))
both-stand kind one other p w x h is =
    let at : x.caller ≡ p.caller = ap (λ (c : Call). c.caller) is in
    let number : x.number ≡ p.number = ap (λ (c : Call). c.number) is in
    let inside_x : x.caller < length one = omega (arith, h.inside_p, at) in
    let inside_t : w.caller < length other = omega (arith, h.inside_w, h.wide) in
    let new_t : List ℕ = set other w.caller (w.number + 1) in
    let new_s : List ℕ = set one x.caller (x.number + 1) in
    record {
      wide = length-set other w.caller (w.number + 1)
          ∙ (h.wide ∙ sym (length-set one x.caller (x.number + 1)));
      numbers = λ i. elim (cases_eq i w.caller) [
        | inl same ↦
            let not_x : w.caller ≢ x.caller =
            λ (e : w.caller ≡ x.caller). h.apart (sym at ∙ sym e) in
            ap (λ (k : ℕ). get_or new_t k 0) same
            ∙ (get_or-set_same other w.caller (w.number + 1) 0 inside_t
            ∙ (sym h.has_w ∙ (sym (get_or-set_other one x.caller w.caller (x.number + 1) 0 not_x)
            ∙ sym (ap (λ (k : ℕ). get_or new_s k 0) same))))
        | inr not_w ↦
            elim (cases_eq i x.caller) [
              | inl same ↦
                  let first : get_or new_t i 0 ≡ get_or other i 0 =
                  get_or-set_other other w.caller i (w.number + 1) 0 not_w in
                  let second : get_or new_s x.caller 0 ≡ x.number + 1 =
                  get_or-set_same one x.caller (x.number + 1) 0 inside_x in
                  let there : get_or other i 0 ≡ p.number + 1 =
                  ap (λ (k : ℕ). get_or other k 0) (same ∙ at) ∙ h.has_p in
                  first ∙ (there ∙ (ap (λ (k : ℕ). k + 1) (sym number)
                  ∙ (sym second ∙ sym (ap (λ (k : ℕ). get_or new_s k 0) same))))
              | inr not_x ↦
                  let not_p : i ≢ p.caller = λ (e : i ≡ p.caller). not_x (e ∙ sym at) in
                  get_or-set_other other w.caller i (w.number + 1) 0 not_w ∙ (h.others i not_p not_w
                  ∙ sym (get_or-set_other one x.caller i (x.number + 1) 0 not_x))
            ]
      ];
    }

-- Where both calls are next at the same numbers, one list covers the one of them, and the other
-- list the other.
pub swapped-first : (kind : Call → Type 0) (numbers : List ℕ) (p w : Call) → p.caller ≢ w.caller
    → IsNext kind numbers p → IsNext kind numbers w → p.caller < length numbers
    → w.caller < length numbers → AreSwapped kind (set numbers w.caller (w.number + 1))
    (set numbers p.caller (p.number + 1)) p w
swapped-first kind numbers p w apart next_p next_w inside_p inside_w =
    let w_apart : w.caller ≢ p.caller = λ (e : w.caller ≡ p.caller). apart (sym e) in
    let with_w = λ (i : ℕ) (other : i ≢ w.caller).
    get_or-set_other numbers w.caller i (w.number + 1) 0 other in
    let with_p = λ (i : ℕ) (other : i ≢ p.caller).
    get_or-set_other numbers p.caller i (p.number + 1) 0 other in
    let long_w : length (set numbers w.caller (w.number + 1)) ≡ length numbers =
    length-set numbers w.caller (w.number + 1) in
    let long_p : length (set numbers p.caller (p.number + 1)) ≡ length numbers =
    length-set numbers p.caller (p.number + 1) in
    record {
      apart = apart;
      next_p = next-at kind (set numbers w.caller (w.number + 1)) numbers p
          (with_w p.caller apart) next_p;
      next_w = next-at kind (set numbers p.caller (p.number + 1)) numbers w
          (with_p w.caller w_apart) next_w;
      has_w = get_or-set_same numbers w.caller (w.number + 1) 0 inside_w;
      has_p = get_or-set_same numbers p.caller (p.number + 1) 0 inside_p;
      others = λ i other_p other_w. with_p i other_p ∙ sym (with_w i other_w);
      wide = long_p ∙ sym long_w;
      inside_p = omega (arith, inside_p, long_w);
      inside_w = omega (arith, inside_w, long_w);
    }

-- The two lists still differ in the two calls when a third caller's call is covered by both.
pub swapped-more : (kind : Call → Type 0) (one other : List ℕ) (p w x : Call)
    → AreSwapped kind one other p w → x.caller ≢ p.caller → x.caller ≢ w.caller
    → AreSwapped kind (set one x.caller (x.number + 1)) (set other x.caller (x.number + 1)) p w
swapped-more kind one other p w x h not_p not_w =
    let p_apart : p.caller ≢ x.caller = λ (e : p.caller ≡ x.caller). not_p (sym e) in
    let w_apart : w.caller ≢ x.caller = λ (e : w.caller ≡ x.caller). not_w (sym e) in
    let in_one = λ (i : ℕ) (apart : i ≢ x.caller).
    get_or-set_other one x.caller i (x.number + 1) 0 apart in
    let in_other = λ (i : ℕ) (apart : i ≢ x.caller).
    get_or-set_other other x.caller i (x.number + 1) 0 apart in
    let long_one : length (set one x.caller (x.number + 1)) ≡ length one =
    length-set one x.caller (x.number + 1) in
    let long_other : length (set other x.caller (x.number + 1)) ≡ length other =
    length-set other x.caller (x.number + 1) in
    record {
      apart = h.apart;
      next_p = next-at kind (set one x.caller (x.number + 1)) one p
          (in_one p.caller p_apart) h.next_p;
      next_w = next-at kind (set other x.caller (x.number + 1)) other w
          (in_other w.caller w_apart) h.next_w;
      has_w = in_one w.caller w_apart ∙ h.has_w;
      has_p = in_other p.caller p_apart ∙ h.has_p;
      others = λ i other_p other_w.
          set-alike one other x.caller (x.number + 1) i h.wide (h.others i other_p other_w);
      wide = long_other ∙ (h.wide ∙ sym long_one);
      inside_p = omega (arith, h.inside_p, long_one);
      inside_w = omega (arith, h.inside_w, long_one);
    }

-- Call w may take effect when p does, where some view holds w by then and p is due no later than w.
pub effect-moves : (book : List Page) (p w x : Call) (m : ℕ) → x ≡ p → IsHeldBy book w m
    → IsDueNoLater book p w → MayTakeEffect book x m → MayTakeEffect book w m
effect-moves book p w x m is held due effect = record {
  first = held;
  last = λ r known. let d = due r known in omega
      (arith, d.2, effect.last d.0 (ap (λ (c : Call). record_of book c) is ∙ d.1));
}

-- No later call of w's caller takes effect while p, which is due no later than w, isn't covered.
pub none-after : (kind : Call → Type 0) (one other : List ℕ) (book : List Page) (p w x : Call)
    (m : ℕ) → IsValid book → HasOneOpen book → AreSwapped kind one other p w → IsNext kind one x
    → x.caller ≡ w.caller → MayTakeEffect book x m → IsDueNoLater book p w
    → ((o : Record) → record_of book p ≡ Some o
    → get_or (set one x.caller (x.number + 1)) p.caller 0 ≤ p.number → m ≤ moment_of o) → ⊥
none-after kind one other book p w x m valid only h next same effect due in_time =
    let past : w.number < x.number =
    omega (arith, next.outside, h.has_w, ap (λ (i : ℕ). get_or one i 0) same) in
    let by = effect.first in
    elim (cases_lt w.number (answers_of book w.caller)) [
      | inl answered ↦
          let here = answer_stands book w answered in
          let lacks : get_or here.0.view x.caller 0 ≤ x.number = omega
          (arith, past, valid.own w here.0 here.1, ap (λ (i : ℕ). get_or here.0.view i 0) same) in
          let late : moment_of here.0 < moment_of by.1 =
          later_moment book w by.0 here.0 by.1 x valid here.1 by.2 lacks by.3 in
          let d = due here.0 here.1 in
          let apart : p.caller ≢ x.caller = λ (e : p.caller ≡ x.caller). h.apart (e ∙ same) in
          let out : get_or (set one x.caller (x.number + 1)) p.caller 0 ≤ p.number = omega (
            arith,
            h.next_p.outside,
            get_or-set_other one x.caller p.caller (x.number + 1) 0 apart,
          ) in
          let soon : m ≤ moment_of d.0 = in_time d.0 d.1 out in
          absurd (omega (arith, late, by.4, d.2, soon))
      | inr unseen ↦
          let few : get_or by.1.view x.caller 0 ≤ answers_of book x.caller + 1 =
          only by.0 by.1 x.caller by.2 in
          absurd (omega (arith, unseen, past, few, by.3, ap (λ (i : ℕ). answers_of book i) same))
    ]
