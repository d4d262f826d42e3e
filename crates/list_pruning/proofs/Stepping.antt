-- What an operation does to the end of a list, whatever the items before the end are.
use Rattle.std.proofs.Common.{◌≡◌, ◌≢◌, ℕ, suc, ◌+◌, ◌-◌, ◌<◌, ◌⊎◌, ◌∙◌, List, [], ◌∷◌, ◌++◌, length, get_or, take, map, Some, refl, sym, ap, subst, inl, inr, append_assoc, arith}
use Rattle.std.specs.List.{AllByRecursion}
use Rattle.std.proofs.lemmas.List.{take_more, take_all}
use Rattle.book_base.specs.SeqSpec.{SeqSpec}
use Rattle.book_base.specs.Book.{Page}
use Rattle.book_base.specs.Order.{step_at}
use Rattle.book_base.specs.Reaching.{list_after_run}
use Rattle.book_base.specs.Pruning.{IsReached}
use Rattle.legal_orders.specs.Container.{Puts, Takes, Neither, Reading}
use Rattle.list_pruning.proofs.Placing.{cases_deed}
use Rattle.list_pruning.specs.LastFirst.{GivesLastFirst, IsSmall, EndsWith}

-- a list is empty, or it has a last item
pub cases_end : (list : List ℕ) → (list ≡ [])
    ⊎ ((prefix : List ℕ) × (x : ℕ) × (list ≡ prefix ++ x ∷ []))
cases_end [] = inl refl
cases_end (y ∷ rest) = elim (cases_end rest) [
  | inl none ↦ inr ([], y, ap (λ (xs : List ℕ). y ∷ xs) none)
  | inr some ↦ inr (y ∷ some.0, some.1, ap (λ (xs : List ℕ). y ∷ xs) some.2)
]

-- What holds of each item of a list, and of one more item, holds of each item of the list with this
-- one at its end.
pub all-append : (P : ℕ → Type 0) (xs : List ℕ) (y : ℕ) → AllByRecursion P xs → P y
    → AllByRecursion P (xs ++ y ∷ [])
all-append P [] y all it = (it, tt)
all-append P (x ∷ xs) y all it = (all.0, all-append P xs y all.1 it)

-- What holds of each item of a list with an item at its end holds of each item of the list, and of
-- this item.
pub all-prefix : (P : ℕ → Type 0) (xs : List ℕ) (y : ℕ) → AllByRecursion P (xs ++ y ∷ [])
    → AllByRecursion P xs × P y
all-prefix P [] y all = (tt, all.0)
all-prefix P (x ∷ xs) y all = let rest = all-prefix P xs y all.1 in ((all.0, rest.0), rest.1)

-- What holds at each index of a list holds of each item.
pub all_by_index : (P : ℕ → Type 0) (list : List ℕ)
    → ((k : ℕ) → k < length list → P (get_or list k 0)) → AllByRecursion P list
all_by_index P [] all = tt
all_by_index P (x ∷ rest) all = (
  all 0 (omega arith),
  all_by_index P rest (λ (k : ℕ) (below : k < length rest). all (suc k) (omega (arith, below))),
)

-- A list with n + 1 items ends with the item at index n.
pub ends_with_last : (list : List ℕ) (n : ℕ) → length list ≡ n + 1 → EndsWith list (get_or list n 0)
ends_with_last list n long = (
  take n list,
  sym (take_all (n + 1) list (omega (arith, long))) ∙ take_more list n 0 (omega (arith, long)),
)

-- A list that isn't empty ends with the item at its last index.
pub ends_with_before : (list : List ℕ) → length list - 1 < length list
    → EndsWith list (get_or list (length list - 1) 0)
ends_with_before list some = ends_with_last list (length list - 1) (omega (arith, some))

-- What a put does isn't what a take does.
pub put_no_take : (v : ℕ) → Puts v ≡ Takes → ⊥
put_no_take v e = cc

-- What an operation does that neither puts nor takes isn't what a take does.
pub neither_no_take : Neither ≡ Takes → ⊥
neither_no_take e = cc

-- An operation does the same to two lists with the same end: it changes the end alone, to the same
-- new end with both, and has the same reply to both; and a take shows an item of which the property
-- holds.
pub record StepsAbove (reading : Reading) (next : List ℕ → ℕ → List ℕ × ℕ) (P : ℕ → Type 0) (op : ℕ)
    (low other above : List ℕ) : Type 0 where
  pub new_above : List ℕ
  pub all : AllByRecursion P new_above
  pub one : (next (low ++ above) op).0 ≡ low ++ new_above
  pub two : (next (other ++ above) op).0 ≡ other ++ new_above
  pub reply : (next (low ++ above) op).1 ≡ (next (other ++ above) op).1
  pub shown : reading.deed op ≡ Takes → (x : ℕ) × P x
      × (reading.shown (next (low ++ above) op).1 ≡ Some x)

above-put : (reading : Reading) (next : List ℕ → ℕ → List ℕ × ℕ) (bound : ℕ)
    → GivesLastFirst reading next bound → (P : ℕ → Type 0) (op v : ℕ) (low other above : List ℕ)
    → reading.deed op ≡ Puts v → P v → AllByRecursion P above
    → StepsAbove reading next P op low other above
above-put reading next bound is P op v low other above put it all =
    let no : reading.deed op ≢ Takes =
    λ (e : reading.deed op ≡ Takes). put_no_take v (sym put ∙ e) in
    record {
      new_above = above ++ v ∷ [];
      all = all-append P above v all it;
      one = is.put (low ++ above) op v put ∙ append_assoc low above (v ∷ []);
      two = is.put (other ++ above) op v put ∙ append_assoc other above (v ∷ []);
      reply = is.blind (low ++ above) (other ++ above) op no;
      shown = λ (e : reading.deed op ≡ Takes). absurd (no e);
    }

above-take : (reading : Reading) (next : List ℕ → ℕ → List ℕ × ℕ) (bound : ℕ)
    → GivesLastFirst reading next bound → (P : ℕ → Type 0) → ((x : ℕ) → P x → x < bound)
    → (op x : ℕ) (low other prefix : List ℕ) → reading.deed op ≡ Takes
    → AllByRecursion P (prefix ++ x ∷ [])
    → StepsAbove reading next P op low other (prefix ++ x ∷ [])
above-take reading next bound is P small op x low other prefix takes all =
    let parts = all-prefix P prefix x all in
    let mine : low ++ (prefix ++ x ∷ []) ≡ (low ++ prefix) ++ x ∷ [] =
    sym (append_assoc low prefix (x ∷ [])) in
    let its : other ++ (prefix ++ x ∷ []) ≡ (other ++ prefix) ++ x ∷ [] =
    sym (append_assoc other prefix (x ∷ [])) in
    let shows : reading.shown (next (low ++ (prefix ++ x ∷ [])) op).1 ≡ Some x
    = ap (λ (xs : List ℕ). reading.shown (next xs op).1) mine
    ∙ is.shows (low ++ prefix) x op (small x parts.1) takes in
    let also : reading.shown (next (other ++ (prefix ++ x ∷ [])) op).1 ≡ Some x
    = ap (λ (xs : List ℕ). reading.shown (next xs op).1) its
    ∙ is.shows (other ++ prefix) x op (small x parts.1) takes in
    record {
      new_above = prefix;
      all = parts.0;
      one = ap (λ (xs : List ℕ). (next xs op).0) mine ∙ is.take (low ++ prefix) x op takes;
      two = ap (λ (xs : List ℕ). (next xs op).0) its ∙ is.take (other ++ prefix) x op takes;
      reply = is.one_reply _ _ x shows also;
      shown = λ e. (x, parts.1, shows);
    }

above-neither : (reading : Reading) (next : List ℕ → ℕ → List ℕ × ℕ) (bound : ℕ)
    → GivesLastFirst reading next bound → (P : ℕ → Type 0) (op : ℕ) (low other above : List ℕ)
    → reading.deed op ≡ Neither → AllByRecursion P above
    → StepsAbove reading next P op low other above
above-neither reading next bound is P op low other above neither all =
    let no : reading.deed op ≢ Takes =
    λ (e : reading.deed op ≡ Takes). neither_no_take (sym neither ∙ e) in
    record {
      new_above = above;
      all = all;
      one = is.neither (low ++ above) op neither;
      two = is.neither (other ++ above) op neither;
      reply = is.blind (low ++ above) (other ++ above) op no;
      shown = λ (e : reading.deed op ≡ Takes). absurd (no e);
    }

-- An operation does the same to two lists with the same end, or the end is empty and the operation
-- is a take.
pub steps_above : (reading : Reading) (next : List ℕ → ℕ → List ℕ × ℕ) (bound : ℕ)
    → GivesLastFirst reading next bound → (P : ℕ → Type 0) → ((x : ℕ) → P x → x < bound)
    → (op : ℕ) (low other above : List ℕ) → ((v : ℕ) → reading.deed op ≡ Puts v → P v)
    → AllByRecursion P above
    → StepsAbove reading next P op low other above ⊎ ((reading.deed op ≡ Takes) × (above ≡ []))
steps_above reading next bound is P small op low other above puts all =
    elim (cases_deed (reading.deed op)) [
      | inl put ↦
          inl
          (above-put reading next bound is P op put.0 low other above put.1 (puts put.0 put.1) all)
      | inr else ↦ elim else [
        | inl takes ↦ elim (cases_end above) [
          | inl none ↦ inr (takes, none)
          | inr some ↦
              inl (subst (λ (xs : List ℕ). StepsAbove reading next P op low other xs) (sym some.2)
              (above-take reading next bound is P small op some.1 low other some.0 takes
              (subst (λ (xs : List ℕ). AllByRecursion P xs) some.2 all)))
        ]
        | inr neither ↦ inl (above-neither reading next bound is P op low other above neither all)
      ]
    ]

-- ---- all items stay below the bound

small-taken : (reading : Reading) (next : List ℕ → ℕ → List ℕ × ℕ) (bound : ℕ)
    → GivesLastFirst reading next bound → (P : ℕ → Type 0) (list : List ℕ) (op : ℕ)
    → reading.deed op ≡ Takes → AllByRecursion P list → AllByRecursion P (next list op).0
small-taken reading next bound is P list op takes all = elim (cases_end list) [
  | inl none ↦
      let nothing : (next list op).0 ≡ [] =
      ap (λ (xs : List ℕ). (next xs op).0) none ∙ (is.empty op takes).0 in
      subst (λ (xs : List ℕ). AllByRecursion P xs) (sym nothing) tt
  | inr some ↦
      let left : (next list op).0 ≡ some.0 =
      ap (λ (xs : List ℕ). (next xs op).0) some.2 ∙ is.take some.0 some.1 op takes in
      subst (λ (xs : List ℕ). AllByRecursion P xs) (sym left)
      (all-prefix P some.0 some.1 (subst (λ (xs : List ℕ). AllByRecursion P xs) some.2 all)).0
]

-- What holds of each item of a list, and of each value that an operation puts in, holds of each
-- item of the list after this operation.
pub all_next : (reading : Reading) (next : List ℕ → ℕ → List ℕ × ℕ) (bound : ℕ)
    → GivesLastFirst reading next bound → (P : ℕ → Type 0) (list : List ℕ) (op : ℕ)
    → ((v : ℕ) → reading.deed op ≡ Puts v → P v) → AllByRecursion P list
    → AllByRecursion P (next list op).0
all_next reading next bound is P list op puts all = elim (cases_deed (reading.deed op)) [
  | inl put ↦ subst (λ (xs : List ℕ). AllByRecursion P xs) (sym (is.put list op put.0 put.1))
      (all-append P list put.0 all (puts put.0 put.1))
  | inr other ↦ elim other [
    | inl takes ↦ small-taken reading next bound is P list op takes all
    | inr neither ↦
        subst (λ (xs : List ℕ). AllByRecursion P xs) (sym (is.neither list op neither)) all
  ]
]

small-run : (reading : Reading) (next : List ℕ → ℕ → List ℕ × ℕ) (bound : ℕ)
    → GivesLastFirst reading next bound → (list : List ℕ) (steps : List (ℕ × ℕ))
    → IsSmall bound list → IsSmall bound (list_after_run next list steps)
small-run reading next bound is list [] small = small
small-run reading next bound is list (step ∷ steps) small =
    small-run reading next bound is (next list step.0).0 steps
    (all_next reading next bound is (λ (x : ℕ). x < bound) list step.0 (is.small step.0) small)

-- Each item of a list that some order reaches is below the bound, where each item of the first list
-- is.
pub small_reached : (reading : Reading) (spec : SeqSpec) (bound : ℕ) (book : List Page)
    (cut list : List ℕ) → GivesLastFirst reading spec.next bound → IsSmall bound spec.init
    → IsReached spec book cut list → IsSmall bound list
small_reached reading spec bound book cut list is small reached =
    subst (λ (xs : List ℕ). IsSmall bound xs) reached.reaches.reached
    (small-run reading spec.next bound is spec.init (map (step_at book) reached.before) small)
