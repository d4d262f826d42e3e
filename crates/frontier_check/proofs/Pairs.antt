-- The pairs that a memo has in its long lists of counts and of words.
use Rattle.std.proofs.Common.{◌≡◌, ℕ, ◌+◌, ◌-◌, ◌*◌, ◌<◌, ◌≤◌, ◌⊎◌, ◌∙◌, ◌^◌, List, [], ◌∷◌, ◌++◌, length, take, drop, Some, Result, Ok, Err, OnOk, sym, ap, subst, inl, inr, arith, slice_get}
use Rattle.std.specs.List.{slice_range}
use Rattle.std.proofs.lemmas.List.{length-append, length-drop, length_push, drop-append-le, take-append-le, drop_at, take_all}
use Rattle.std.proofs.lemmas.Option.{slice_get_within}
use Rattle.std.proofs.Math.Nat.{mul-le-mul_right}
use Rattle.list_laws.proofs.Places.{slice_get-push_cases}
use Rattle.frontier_check.specs.declared.memo.MemoEntry.{MemoEntry}
use Rattle.frontier_check.specs.declared.memo.Memo.{Memo}
use Rattle.frontier_check.specs.Memo.{IsMemo, Remembers, counts_at, words_at}

-- a range of two joined lists that ends within the first list is that range of the first list
range-append_left : (xs ys : List ℕ) (from to : ℕ) → from ≤ to → to ≤ length xs
    → slice_range (xs ++ ys) from to ≡ slice_range xs from to
range-append_left xs ys from to le within =
    let e : drop from (xs ++ ys) ≡ drop from xs ++ ys = drop-append-le from xs ys (omega arith) in
    ap (λ (l : List ℕ). take (to - from) l) e
    ∙ take-append-le (to - from) (drop from xs) ys (omega (arith, length-drop from xs))

-- the range of two joined lists that begins where the first list ends, and is as long as the second
-- list, is the second list
range-append_right : (xs ys : List ℕ) (from to : ℕ) → from ≡ length xs → to ≡ from + length ys
    → slice_range (xs ++ ys) from to ≡ ys
range-append_right xs ys from to at end =
    ap (λ (l : List ℕ). take (to - from) l) (drop_at xs ys from (sym at))
    ∙ take_all (to - from) ys (omega arith)

-- The counts of one entry lie within those of all entries.
pub counts_inside : (k n callers : ℕ) → k < n → k * callers + callers ≤ n * callers
counts_inside k n callers h = let le : (k + 1) * callers ≤ n * callers =
    mul-le-mul_right callers (omega arith) in omega arith

-- A new memo is the old one with one entry added at its end, for a cut and a list.
pub record IsAdded (old new : Memo) (cut list : List ℕ) (entry : MemoEntry) : Type 0 where
  pub callers : new.callers ≡ old.callers
  pub counts : new.counts.items ≡ old.counts.items ++ cut
  pub words : new.words.items ≡ old.words.items ++ list
  pub entries : new.entries.items ≡ old.entries.items ++ entry ∷ []
  pub wide : length cut ≡ old.callers
  pub from : entry.from ≡ length old.words.items
  pub len : entry.len ≡ length list

-- A memo stays sound with one entry more, where its entries are still few enough.
pub memo-added : (old new : Memo) (cut list : List ℕ) (entry : MemoEntry) → IsMemo old
    → IsAdded old new cut list entry → length old.entries.items + 1 < 2 ^ 32 → IsMemo new
memo-added old new cut list entry h a few =
    let total : length new.entries.items ≡ length old.entries.items + 1 =
    ap (λ (l : List MemoEntry). length l) a.entries ∙ length_push old.entries.items entry in
    let long : length new.counts.items ≡ length old.counts.items + length cut =
    ap (λ (l : List ℕ). length l) a.counts ∙ length-append old.counts.items cut in
    let longer : length new.words.items ≡ length old.words.items + length list =
    ap (λ (l : List ℕ). length l) a.words ∙ length-append old.words.items list in
    record {
      counts =
          let product : length new.entries.items * new.callers
          ≡ (length old.entries.items + 1) * old.callers = ap (λ (n : ℕ). n * new.callers) total
          ∙ ap (λ (n : ℕ). (length old.entries.items + 1) * n) a.callers in
          let all = h.counts in
          let wide = a.wide in
          omega arith;
      words = λ (k : ℕ) (e : MemoEntry) (at : slice_get new.entries.items k ≡ Some e).
          let there : slice_get (old.entries.items ++ entry ∷ []) k ≡ Some e =
          subst (λ (es : List MemoEntry). slice_get es k ≡ Some e) a.entries at in
          elim (slice_get-push_cases old.entries.items entry k e there) [
            | inl early ↦ omega (arith, h.words k e early)
            | inr last ↦ omega (
              arith,
              a.from,
              a.len,
              ap (λ (x : MemoEntry). x.from) last.1,
              ap (λ (x : MemoEntry). x.len) last.1,
            )
          ];
      few = omega arith;
    }

-- A memo with one entry more remembers no pair but that of this entry and those that it remembered
-- before.
pub remembers-added : (old new : Memo) (cut list : List ℕ) (entry : MemoEntry) → IsMemo old
    → IsAdded old new cut list entry
    → (c l : List ℕ) → Remembers new c l → Remembers old c l ⊎ ((c ≡ cut) × (l ≡ list))
remembers-added old new cut list entry h a c l (k, e, at, counts, words) =
    let there : slice_get (old.entries.items ++ entry ∷ []) k ≡ Some e =
    subst (λ (es : List MemoEntry). slice_get es k ≡ Some e) a.entries at in
    let wider : counts_at new k
    ≡ slice_range (old.counts.items ++ cut) (k * old.callers) (k * old.callers + old.callers) =
    ap (λ (n : ℕ). slice_range new.counts.items (k * n) (k * n + n)) a.callers ∙ ap
    (λ (xs : List ℕ). slice_range xs (k * old.callers) (k * old.callers + old.callers)) a.counts in
    let longer : words_at new e ≡ slice_range (old.words.items ++ list) e.from (e.from + e.len) =
    ap (λ (xs : List ℕ). slice_range xs e.from (e.from + e.len)) a.words in
    elim (slice_get-push_cases old.entries.items entry k e there) [
      | inl early ↦
          let inside =
          counts_inside k (length old.entries.items) old.callers (slice_get_within _ k e early) in
          let all = h.counts in
          inl (
            k,
            e,
            early,
            counts ∙ (wider ∙ range-append_left old.counts.items cut (k * old.callers)
                (k * old.callers + old.callers) (omega arith) (omega arith)),
            words ∙ (longer ∙ range-append_left old.words.items list e.from (e.from + e.len)
                (omega arith) (h.words k e early)),
          )
      | inr last ↦
          let start : k * old.callers ≡ length old.counts.items =
          ap (λ (n : ℕ). n * old.callers) last.0 ∙ sym h.counts in
          let wide = a.wide in
          inr (
            counts ∙ (wider ∙ range-append_right old.counts.items cut (k * old.callers)
                (k * old.callers + old.callers) start (omega arith)),
            words ∙ (longer ∙ range-append_right old.words.items list e.from (e.from + e.len)
                (ap (λ (x : MemoEntry). x.from) last.1 ∙ a.from)
                (omega (arith, a.len, ap (λ (x : MemoEntry). x.len) last.1))),
          )
    ]

-- A memo with another table remembers no other pairs.
pub remembers-slots : (old new : Memo) → new ≡ record old { slots = new.slots }
    → (cut list : List ℕ) → Remembers new cut list → Remembers old cut list
remembers-slots old new is cut list h = subst (λ (m : Memo). Remembers m cut list) is h

-- What holds whatever a call answers holds after an answer Ok.
pub OnOk-holds : {T E P : Type 0} (r : Result T E) → P → OnOk r P
OnOk-holds (Ok x) p = p
OnOk-holds (Err e) p = tt

-- A memo remembers a pair where an equal memo remembers an equal pair.
pub remembers-moved : (old new : Memo) (old_cut new_cut old_list new_list : List ℕ) → new ≡ old
    → new_cut ≡ old_cut → new_list ≡ old_list → Remembers new new_cut new_list
    → Remembers old old_cut old_list
remembers-moved old new old_cut new_cut old_list new_list e f k h =
    subst (λ (m : Memo). Remembers m old_cut old_list) e
    (subst (λ (c : List ℕ). Remembers new c old_list) f
    (subst (λ (l : List ℕ). Remembers new new_cut l) k h))
