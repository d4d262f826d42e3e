-- The parts of a watch, looked up by their keys.
use Rattle.std.proofs.Common.{◌≡◌, ◌≢◌, ◌∙◌, ℕ, suc, nat_eq, ◌+◌, ◌-◌, ◌<◌, ◌≤◌, ◌^◌, min, Bool, false, cond, List, [], ◌∷◌, length, take, Option, Some, None, is_some, Result, Ok, Err, OnOk, OnErr, slice_get, refl, sym, ap, subst, inl, inr, arith}
use Rattle.std.specs.Map.{lookup, set_value}
use Rattle.std.proofs.lemmas.Bool.{cases_Bool, cases_eq, eqb-true}
use Rattle.std.proofs.lemmas.Option.{none-some, same_Some, slice_get_within, slice_get-get_or, get_or_from_slice_get}
use Rattle.std.proofs.lemmas.List.Sums.{sum_by_more}
use Rattle.indexmap.specs.IndexMap.{IndexMap, Updates, WritesThrough}
use Rattle.book_base.specs.SeqSpec.{SeqSpec}
use Rattle.streams.specs.Stream.{StreamEvent}
use Rattle.watch_core.specs.Part.{Parted, IsPartOf, TakesEvent, IsTold, Copies}
use Rattle.watch_core.specs.Parts.{TakeEvent, AreTold, configurations_of}
use Rattle.watch_core.proofs.Partly.{takes_first}

apart_eqb : (a b : ℕ) → (a ≡ b → ⊥) → nat_eq a b ≡ false
apart_eqb a b apart = elim (cases_Bool (nat_eq a b)) [
  | inl is ↦ absurd (apart (eqb-true a b is))
  | inr differs ↦ differs
]

-- a value that is written over itself changes nothing
pub set_same : (test : ℕ → Bool) (es : List (ℕ × Parted)) (x : Parted)
    → lookup test es ≡ Some x → set_value test es x ≡ es
set_same test [] x is = refl
set_same test (e ∷ es) x is = elim (cases_Bool (test e.0)) [
  | inl here ↦
      let value : e.1 ≡ x = same_Some e.1 x
      (sym (ap (λ (b : Bool). cond b (Some e.1) (lookup test es)) here) ∙ is) in
      ap (λ (b : Bool). cond b ((e.0, x) ∷ es) (e ∷ set_value test es x)) here
      ∙ ap (λ (v : Parted). (e.0, v) ∷ es) (sym value)
  | inr there ↦
      ap (λ (b : Bool). cond b ((e.0, x) ∷ es) (e ∷ set_value test es x)) there
      ∙ ap (λ (l : List (ℕ × Parted)). e ∷ l) (set_same test es x
      (sym (ap (λ (b : Bool). cond b (Some e.1) (lookup test es)) there) ∙ is))
]

-- an entry that is found by a key has a place
pub entry_of : (k : ℕ) (es : List (ℕ × Parted)) (x : Parted) → lookup (nat_eq k) es ≡ Some x
    → (j : ℕ) × (slice_get es j ≡ Some (k, x))
entry_of k [] x is = absurd (none-some x is)
entry_of k (e ∷ es) x is = elim (cases_Bool (nat_eq k e.0)) [
  | inl here ↦
      let value : e.1 ≡ x = same_Some e.1 x
      (sym (ap (λ (b : Bool). cond b (Some e.1) (lookup (nat_eq k) es)) here) ∙ is) in (
        0,
        ap (λ (v : Parted). Some (e.0, v)) value
            ∙ ap (λ (i : ℕ). Some (i, x)) (sym (eqb-true k e.0 here)),
      )
  | inr there ↦
      let rest = entry_of k es x
      (sym (ap (λ (b : Bool). cond b (Some e.1) (lookup (nat_eq k) es)) there) ∙ is) in
      (suc rest.0, rest.1)
]

module _ {S : Type 0} (m n : IndexMap ℕ Parted S) (key : ℕ) (new : Parted)
    (update : Updates nat_eq m n key (Some new)) where
  updated_others : (k : ℕ) → k ≢ key → lookup (nat_eq k) n.entries ≡ lookup (nat_eq k) m.entries
  updated_others k apart = update.2 k (apart_eqb key k (λ e. apart (sym e)))

  pub take_updated : (spec : SeqSpec) (event : StreamEvent) (old : Option Parted)
      → lookup (nat_eq key) m.entries ≡ old → TakesEvent spec event old (Some new)
      → TakeEvent spec key event m.entries n.entries
  take_updated spec event old is takes = record {
    own = subst (λ (o : Option Parted). TakesEvent spec event o (lookup (nat_eq key) n.entries))
        (sym is) (subst (λ (o : Option Parted). TakesEvent spec event old o) (sym update.1) takes);
    others = updated_others;
  }

  pub told_updated : (spec : SeqSpec) (process reply : ℕ) (old : Option Parted)
      → lookup (nat_eq key) m.entries ≡ old → IsTold spec process reply old (Some new)
      → AreTold spec key process reply m.entries n.entries
  told_updated spec process reply old is told = record {
    own = subst (λ (o : Option Parted). IsTold spec process reply o (lookup (nat_eq key) n.entries))
        (sym is)
        (subst (λ (o : Option Parted). IsTold spec process reply old o) (sym update.1) told);
    others = updated_others;
  }

  pub other_updated : (k : ℕ) → (k ≡ key → ⊥)
      → lookup (nat_eq k) n.entries ≡ lookup (nat_eq k) m.entries
  other_updated = updated_others

-- what is written through a key that is found updates it
pub written : {S : Type 0} (m n : IndexMap ℕ Parted S) (key : ℕ) (old new : Parted)
    → lookup (nat_eq key) m.entries ≡ Some old → WritesThrough nat_eq (nat_eq key) m new n
    → Updates nat_eq m n key (Some new)
written m n key old new is writes = writes.3 (ap is_some is)

-- Parts are copied, the first ones of a list of entries, as many as a number says: each part of the
-- copy is that of its key, and each of the first ones has a copy.
pub record CopiesFirst (parts copy : List (ℕ × Parted)) (number : ℕ) : Type 0 where
  pub from : (k : ℕ) (p : Parted) → lookup (nat_eq k) copy ≡ Some p
      → (one : Parted) × (lookup (nat_eq k) parts ≡ Some one) × Copies (Some one) (Some p)
  pub all : (j k : ℕ) (one : Parted) → j < number → slice_get parts j ≡ Some (k, one)
      → (p : Parted) × (lookup (nat_eq k) copy ≡ Some p)

pub copies_none : (parts : List (ℕ × Parted)) → CopiesFirst parts [] 0
copies_none parts = record {
  from = λ k p is. absurd (none-some p is);
  all = λ j k one low at. absurd (omega (arith, low));
}

pub copies_more : {S : Type 0} (parts : List (ℕ × Parted)) (m n : IndexMap ℕ Parted S)
    (at key : ℕ) (one copy : Parted) → CopiesFirst parts m.entries at
    → slice_get parts at ≡ Some (key, one) → lookup (nat_eq key) parts ≡ Some one
    → Copies (Some one) (Some copy) → Updates nat_eq m n key (Some copy)
    → CopiesFirst parts n.entries (at + 1)
copies_more parts m n at key one copy done here found copies update = record {
  from = λ k p is. elim (cases_eq k key) [
    | inl same ↦
        let equal : copy ≡ p = same_Some copy p (sym update.1
        ∙ (ap (λ (i : ℕ). lookup (nat_eq i) n.entries) (sym same) ∙ is)) in (
          one,
          ap (λ (i : ℕ). lookup (nat_eq i) parts) same ∙ found,
          subst (λ (c : Parted). Copies (Some one) (Some c)) equal copies,
        )
    | inr apart ↦ done.from k p (sym (other_updated m n key copy update k apart) ∙ is)
  ];
  all = λ j k other low there. elim (cases_eq k key) [
    | inl same ↦ (copy, ap (λ (i : ℕ). lookup (nat_eq i) n.entries) same ∙ update.1)
    | inr apart ↦ elim (cases_eq j at) [
      | inl last ↦ absurd (apart (ap (λ (e : ℕ × Parted). e.0) (same_Some (k, other) (key, one)
          (sym there ∙ (ap (λ (i : ℕ). slice_get parts i) last ∙ here)))))
      | inr before ↦
          let old = done.all j k other (omega (arith, low, before)) there in
          (old.0, other_updated m n key copy update k apart ∙ old.1)
    ]
  ];
}

pub copies_all : (parts copy : List (ℕ × Parted)) (number : ℕ) → length parts ≤ number
    → CopiesFirst parts copy number → (k : ℕ)
    → Copies (lookup (nat_eq k) parts) (lookup (nat_eq k) copy)
copies_all parts copy number long done k =
    by (lookup (nat_eq k) parts) (lookup (nat_eq k) copy) refl refl
  where
    by : (one other : Option Parted) → lookup (nat_eq k) parts ≡ one
        → lookup (nat_eq k) copy ≡ other → Copies one other
    by None None was is = record {
      held = λ spec events held. held;
      known = λ one has reply given. (one, has, refl, given);
    }
    by None (Some p) was is = absurd (none-some _ (sym was ∙ (done.from k p is).1))
    by (Some one) None was is =
        let entry = entry_of k parts one was in
        let found = done.all entry.0 k one
        (omega (arith, slice_get_within parts entry.0 (k, one) entry.1, long)) entry.1 in
        absurd (none-some found.0 (sym is ∙ found.1))
    by (Some one) (Some p) was is =
        let from = done.from k p is in
        subst (λ (c : Parted). Copies (Some c) (Some p)) (same_Some from.0 one (sym from.1 ∙ was))
        from.2

-- the part of a key whose first event comes is inserted
pub take_inserted : {S : Type 0} (spec : SeqSpec) (key : ℕ) (event : StreamEvent)
    (m n : IndexMap ℕ Parted S) (first new inserted : Parted)
    → lookup (nat_eq key) m.entries ≡ None → IsPartOf spec first [] → first.calls ≡ []
    → TakesEvent spec event (Some first) (Some new) → Updates nat_eq m n key (Some inserted)
    → inserted ≡ new → TakeEvent spec key event m.entries n.entries
take_inserted spec key event m n first new inserted none is empty takes update same =
    take_updated m n key inserted update spec event None none
    (subst (λ (p : Parted). TakesEvent spec event None (Some p)) (sym same)
    (takes_first spec event first new is empty takes))

-- a part that is written over itself changes nothing
pub written_same : {S : Type 0} (m n : IndexMap ℕ Parted S) (key : ℕ) (old new : Parted)
    → lookup (nat_eq key) m.entries ≡ Some old → WritesThrough nat_eq (nat_eq key) m new n
    → new ≡ old → n.entries ≡ m.entries
written_same m n key old new is writes same =
    writes.0 ∙ (ap (λ (v : Parted). set_value (nat_eq key) m.entries v) same
    ∙ set_same (nat_eq key) m.entries old is)

-- how many configurations the first parts have, with one more
pub count_more : (parts : List (ℕ × Parted)) (at count n next k : ℕ) (one : Parted)
    → Some (k, one) ≡ slice_get parts at
    → count ≡ min (configurations_of (take at parts)) (2 ^ 64 - 1) → n ≡ length one.residue
    → next ≡ min (count + n) (2 ^ 64 - 1)
    → next ≡ min (configurations_of (take (at + 1) parts)) (2 ^ 64 - 1)
count_more parts at count n next k one here is number further =
    let low = slice_get_within parts at (k, one) (sym here) in
    let more = sum_by_more (λ (e : ℕ × Parted). length e.1.residue) parts at (k, one) low in
    let item = ap (λ (e : ℕ × Parted). length e.1.residue)
    (get_or_from_slice_get parts at (k, one) (k, one) (sym here)) in
    capped (configurations_of (take at parts))
    (configurations_of (take (at + 1) parts)) count n next
    (more ∙ (ap (λ (m : ℕ). configurations_of (take at parts) + m) (item ∙ sym number))) is further
  where
    capped : (old new count n next : ℕ) → new ≡ old + n → count ≡ min old (2 ^ 64 - 1)
        → next ≡ min (count + n) (2 ^ 64 - 1) → next ≡ min new (2 ^ 64 - 1)
    capped old new count n next sum is further = omega (arith, sum, is, further)

-- at a place within the parts there is one
pub none_at : (parts : List (ℕ × Parted)) (at : ℕ) → at < length parts
    → None ≡ slice_get parts at → ⊥
none_at parts at low none =
    let there = slice_get-get_or parts at (0, record { taken = 0; calls = []; residue = [] }) low in
    absurd (none-some _ (none ∙ there))

pub on_ok_then : {X E : Type 0} {P Q : Type 0} (r : Result X E) → OnOk r P → (P → Q) → OnOk r Q
on_ok_then (Ok x) p then = then p
on_ok_then (Err e) p then = tt

pub on_err_then : {X E : Type 0} {P Q : Type 0} (r : Result X E) → OnErr r P → (P → Q) → OnErr r Q
on_err_then (Ok x) p then = tt
on_err_then (Err e) p then = then p

pub on_err : {X E : Type 0} {P : Type 0} (r : Result X E) → P → OnErr r P
on_err (Ok x) p = tt
on_err (Err e) p = p
