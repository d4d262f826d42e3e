-- Laws of logs: what their entries of one caller are, and how they end.
use Rattle.std.proofs.Common.{◌≡◌, ◌≢◌, ℕ, suc, ◌+◌, ◌<◌, ◌⊎◌, ◌==◌, List, [], ◌∷◌, ◌++◌, length, map, refl, sym, ap, ◌∙◌, subst, inl, inr, arith, append_assoc, length-append, eq-eqb, ne_eqb}
use Rattle.std.specs.List.{All, filter}
use Rattle.std.proofs.lemmas.Bool.{cases_eq, cond-true, cond-false}
use Rattle.std.proofs.lemmas.List.{append-nil, map-append}
use Rattle.std.proofs.lemmas.List.Elements.{All-nil, All-cons, All-head, All-tail, All-push, filter-append}
use Rattle.shared_words.specs.declared.entry.Entry.{Entry}
use Rattle.shared_words.specs.Entries.{calls_by, BeginsWith, IsWithinCap, entry}

-- a list is empty, or has a last element
pub ends : {A : Type 0} (xs : List A) → (xs ≡ []) ⊎ ((ys : List A) × (y : A) × (xs ≡ ys ++ y ∷ []))
ends [] = inl refl
ends (x ∷ xs) = elim (ends xs) [
  | inl none ↦ inr ([], x, ap (λ (l : List _). x ∷ l) none)
  | inr some ↦ inr (x ∷ some.0, some.1, ap (λ (l : List _). x ∷ l) some.2)
]

-- lists with a last element each, which are one, have one last element
pub same_ends : {A : Type 0} (xs ys : List A) (x y : A)
    → xs ++ x ∷ [] ≡ ys ++ y ∷ [] → (xs ≡ ys) × (x ≡ y)
same_ends [] [] x y e = (refl, cc)
same_ends [] (z ∷ ys) x y e =
    absurd (let long = ap length e in omega (arith, length-append ys (y ∷ [])))
same_ends (z ∷ xs) [] x y e =
    absurd (let long = ap length e in omega (arith, length-append xs (x ∷ [])))
same_ends (w ∷ xs) (z ∷ ys) x y e =
    let head : w ≡ z = cc in
    let tail : xs ++ x ∷ [] ≡ ys ++ y ∷ [] = cc in
    let same = same_ends xs ys x y tail in
    ((λ i. head i ∷ same.0 i), same.1)

-- an element of a list with one more element is that element, or one of the list
pub ends_at : {A : Type 0} (log before rest : List A) (last e : A)
    → log ++ last ∷ [] ≡ before ++ e ∷ rest
    → ((log ≡ before) × (last ≡ e)) ⊎ ((rest' : List A) × (log ≡ before ++ e ∷ rest'))
ends_at log before rest last e is = elim (ends rest) [
  | inl none ↦ inl (same_ends log before last e (is ∙ ap (λ (l : List _). before ++ e ∷ l) none))
  | inr some ↦ inr (
    some.0,
    (same_ends log (before ++ e ∷ some.0) last some.1 (is ∙ ap (λ (l : List _). before ++ e ∷ l)
        some.2 ∙ sym (append_assoc before (e ∷ some.0) (some.1 ∷ [])))).0,
  )
]

-- the calls of a caller in a log and then another are those in the first and then those in the
-- second
pub calls_by-append : (i : ℕ) (xs ys : List Entry)
    → calls_by i (xs ++ ys) ≡ calls_by i xs ++ calls_by i ys
calls_by-append i xs ys =
    ap (λ (l : List Entry). map (λ (e : Entry). e.op) l)
    (filter-append (λ (e : Entry). e.caller == i) xs ys)
    ∙ map-append (λ (e : Entry). e.op) (filter (λ (e : Entry). e.caller == i) xs)
    (filter (λ (e : Entry). e.caller == i) ys)

-- a log of one entry has the entry's call where it is the caller's, and else no call of the caller
pub calls_by-own : (i : ℕ) (e : Entry) → e.caller ≡ i → calls_by i (e ∷ []) ≡ e.op ∷ []
calls_by-own i e own = ap (λ (l : List Entry). map (λ (d : Entry). d.op) l)
    (cond-true (e.caller == i) (e ∷ []) [] (eq-eqb e.caller i own))

pub calls_by-other : (i : ℕ) (e : Entry) → e.caller ≢ i → calls_by i (e ∷ []) ≡ []
calls_by-other i e other = ap (λ (l : List Entry). map (λ (d : Entry). d.op) l)
    (cond-false (e.caller == i) (e ∷ []) [] (ne_eqb e.caller i other))

pub calls_by-push_own : (i op : ℕ) (xs : List Entry)
    → calls_by i (xs ++ entry i op ∷ []) ≡ calls_by i xs ++ op ∷ []
calls_by-push_own i op xs = calls_by-append i xs (entry i op ∷ [])
    ∙ ap (λ (l : List ℕ). calls_by i xs ++ l) (calls_by-own i (entry i op) refl)

pub calls_by-push_other : (i : ℕ) (xs : List Entry) (e : Entry) → e.caller ≢ i
    → calls_by i (xs ++ e ∷ []) ≡ calls_by i xs
calls_by-push_other i xs e other = calls_by-append i xs (e ∷ []) ∙ ap
    (λ (l : List ℕ). calls_by i xs ++ l) (calls_by-other i e other) ∙ append-nil (calls_by i xs)

-- how many entries a caller has, with one more after them
pub length-calls_by-push : (i : ℕ) (xs : List Entry) (e : Entry)
    → (length (calls_by i (xs ++ e ∷ [])) ≡ length (calls_by i xs))
    ⊎ ((e.caller ≡ i) × (length (calls_by i (xs ++ e ∷ [])) ≡ length (calls_by i xs) + 1))
length-calls_by-push i xs e = elim (cases_eq e.caller i) [
  | inr other ↦ inl (ap length (calls_by-push_other i xs e other))
  | inl own ↦ inr (
    own,
    ap length (calls_by-append i xs (e ∷ []))
        ∙ length-append (calls_by i xs) (calls_by i (e ∷ []))
        ∙ ap (λ (l : List ℕ). length (calls_by i xs) + length l) (calls_by-own i e own)
        ∙ ap (λ (n : ℕ). length (calls_by i xs) + n) (let one : suc 0 ≡ 1 = omega arith in one),
  )
]

-- two logs in a row have as many entries of a caller as the first and the second together
pub calls_by-prefix : (i : ℕ) (xs ys : List Entry)
    → length (calls_by i xs) + length (calls_by i ys) ≡ length (calls_by i (xs ++ ys))
calls_by-prefix i xs ys =
    sym (ap length (calls_by-append i xs ys) ∙ length-append (calls_by i xs) (calls_by i ys))

-- a log has more entries of a caller than there are before one of the caller's entries
pub calls_by-at : (xs ys : List Entry) (e : Entry)
    → length (calls_by e.caller xs) < length (calls_by e.caller (xs ++ e ∷ ys))
calls_by-at xs ys e =
    let split : calls_by e.caller (xs ++ (e ∷ []) ++ ys) ≡ calls_by e.caller (xs ++ e ∷ ys) =
    ap (calls_by e.caller) (append_assoc xs (e ∷ []) ys) in
    let parts = calls_by-prefix e.caller (xs ++ e ∷ []) ys in
    let own = calls_by-prefix e.caller xs (e ∷ []) in
    let one = ap length (calls_by-own e.caller e refl) in
    let same = ap length split in
    omega arith

-- what holds of each element holds in a prefix
pub All-prefix : {A : Type 0} (P : A → Type 0) (xs ys : List A) → All P (xs ++ ys) → All P xs
All-prefix P [] ys h = All-nil P
All-prefix P (x ∷ xs) ys h =
    All-cons P x xs (All-head P x (xs ++ ys) h) (All-prefix P xs ys (All-tail P x (xs ++ ys) h))

-- what holds of each element holds after a prefix
pub All-suffix : {A : Type 0} (P : A → Type 0) (xs ys : List A) → All P (xs ++ ys) → All P ys
All-suffix P [] ys h = h
All-suffix P (x ∷ xs) ys h = All-suffix P xs ys (All-tail P x (xs ++ ys) h)

-- a log with no entry is within any bounds
pub within_none : (n cap : ℕ) → IsWithinCap n cap []
within_none n cap = record { callers = λ k d low. absurd (omega arith); calls = λ i. omega arith }

-- a prefix of a log within bounds is within them
pub within_prefix : (n cap : ℕ) (xs ys : List Entry) → IsWithinCap n cap (xs ++ ys)
    → IsWithinCap n cap xs
within_prefix n cap xs ys h =
    record {
      callers = All-prefix (λ (e : Entry). e.caller < n) xs ys h.callers;
      calls = λ i. let all = h.calls i in let parts = calls_by-prefix i xs ys in omega arith;
    }

-- the caller of an entry of such a log is below n, and has fewer than cap calls before this entry
pub within_at : (n cap : ℕ) (xs ys : List Entry) (e : Entry) → IsWithinCap n cap (xs ++ e ∷ ys)
    → (e.caller < n) × (length (calls_by e.caller xs) < cap)
within_at n cap xs ys e h = (
  All-head (λ (d : Entry). d.caller < n) e ys
      (All-suffix (λ (d : Entry). d.caller < n) xs (e ∷ ys) h.callers),
  (let all = h.calls e.caller in let here = calls_by-at xs ys e in omega arith),
)

-- a log within bounds stays within them with one more entry of a caller that has calls left
pub within_push : (n cap : ℕ) (log : List Entry) (e : Entry) → IsWithinCap n cap log → e.caller < n
    → length (calls_by e.caller log) < cap → IsWithinCap n cap (log ++ e ∷ [])
within_push n cap log e h low left =
    record {
      callers = All-push (λ (d : Entry). d.caller < n) log e h.callers low;
      calls = λ i.
          let all = h.calls i in
          elim (length-calls_by-push i log e) [
            | inl same ↦ omega arith
            | inr more ↦ let here : length (calls_by i log) < cap =
                subst (λ (j : ℕ). length (calls_by j log) < cap) more.0 left in
                let up = more.1 in omega arith
          ];
    }

-- a prefix with all entries of the caller whose entry is the last is the whole log
pub whole_prefix : (log prefix ys : List Entry) (e : Entry) → log ≡ ys ++ e ∷ []
    → BeginsWith log prefix → calls_by e.caller log ≡ calls_by e.caller prefix → log ≡ prefix
whole_prefix log prefix ys e last begins own = elim (ends begins.0) [
  | inl none ↦ begins.1 ∙ ap (λ (l : List Entry). prefix ++ l) none ∙ append-nil prefix
  | inr some ↦
      let split : log ≡ (prefix ++ some.0) ++ some.1 ∷ [] = begins.1 ∙ ap
      (λ (l : List Entry). prefix ++ l) some.2 ∙ sym (append_assoc prefix some.0 (some.1 ∷ [])) in
      let same = same_ends ys (prefix ++ some.0) e some.1 (sym last ∙ split) in
      let more =
      ap length (calls_by-own e.caller some.1 (ap (λ (d : Entry). d.caller) (sym same.1))) in
      let parts = calls_by-prefix e.caller (prefix ++ some.0) (some.1 ∷ []) in
      let prefixes = calls_by-prefix e.caller prefix some.0 in
      let all = ap (λ (l : List Entry). length (calls_by e.caller l)) split in
      let mine = ap length own in
      absurd (omega arith)
]

-- prefixes of prefixes
pub begins_itself : (log : List Entry) → BeginsWith log log
begins_itself log = ([], sym (append-nil log))

pub begins_more : (log prefix : List Entry) (e : Entry) → BeginsWith log prefix
    → BeginsWith (log ++ e ∷ []) prefix
begins_more log prefix e h =
    (h.0 ++ e ∷ [], ap (λ (l : List Entry). l ++ e ∷ []) h.1 ∙ append_assoc prefix h.0 (e ∷ []))
