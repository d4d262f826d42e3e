-- A table with one more step, or one more promise.
use Rattle.std.proofs.Common.{◌≡◌, ◌⊎◌, ℕ, suc, Bool, true, false, ◌&&◌, List, [], ◌∷◌, slice_get, None, Some, IsTrue, nat_eq, inl, inr, sym, ap, subst, ◌∙◌}
use Rattle.std.specs.List.{list_any}
use Rattle.std.specs.Map.{lookup}
use Rattle.std.proofs.lemmas.Bool.{cases_Bool, and_from, eqb-true, eq-eqb}
use Rattle.std.proofs.lemmas.Map.Entries.{lookup_head, lookup_tail}
use Rattle.std.proofs.lemmas.Option.{none-some, same_Some}
use Rattle.told_models.specs.declared.table.Transition.{Transition}
use Rattle.told_models.specs.Table.{Table, is_same_pair, told_step, IsPromised, KeepsPromises, Extends, TellsStep, TakesPromise}

-- pairs that the test for sameness tells apart differ
apart_pairs : (state op other word : ℕ) → is_same_pair (state, op) (other, word) ≡ false
    → (other ≡ state) × (word ≡ op) → ⊥
apart_pairs state op other word apart same =
    let found = and_from (nat_eq state other) (nat_eq op word) (eq-eqb state other (sym same.0))
    (eq-eqb op word (sym same.1)) in
    absurd cc

-- pairs that differ are told apart
same_pair-false : (state op other word : ℕ) → ((other ≡ state) × (word ≡ op) → ⊥)
    → is_same_pair (state, op) (other, word) ≡ false
same_pair-false state op other word apart =
    elim (cases_Bool (nat_eq state other)) [
      | inr differs ↦ ap (λ (b : Bool). b && nat_eq op word) differs
      | inl same ↦ elim (cases_Bool (nat_eq op word)) [
        | inr differs ↦ ap (λ (b : Bool). b && nat_eq op word) same ∙ differs
        | inl both ↦
            absurd (apart (sym (eqb-true state other same), sym (eqb-true op word both)))
      ]
    ]

-- two pairs are the same, or they differ
pub same_or_apart : (a b c d : ℕ) → ((c ≡ a) × (d ≡ b)) ⊎ ((c ≡ a) × (d ≡ b) → ⊥)
same_or_apart a b c d = elim (cases_Bool (nat_eq a c)) [
  | inr differs ↦ inr (λ same. absurd (let e = eq-eqb a c (sym same.0) in cc))
  | inl first ↦ elim (cases_Bool (nat_eq b d)) [
    | inr differs ↦ inr (λ same. absurd (let e = eq-eqb b d (sym same.1) in cc))
    | inl second ↦ inl (sym (eqb-true a c first), sym (eqb-true b d second))
  ]
]

-- pairs that the test for sameness finds alike are the same
alike_pairs : (a b c d : ℕ) → is_same_pair (a, b) (c, d) ≡ true → (c ≡ a) × (d ≡ b)
alike_pairs a b c d alike = elim (same_or_apart a b c d) [
  | inl same ↦ same
  | inr apart ↦ absurd (let e = same_pair-false a b c d apart in cc)
]

-- a table whose steps are another's with a transition put at a pair tells this step
pub tells_step : (old new : Table) (state op : ℕ) (transition : Transition) → new.init ≡ old.init
    → new.promises ≡ old.promises → told_step new state op ≡ Some transition
    → ((q : ℕ × ℕ) → is_same_pair (state, op) q ≡ false
    → lookup (is_same_pair q) new.steps ≡ lookup (is_same_pair q) old.steps)
    → TellsStep old new state op transition
tells_step old new state op transition init promises told others = record {
  init = init;
  promises = promises;
  told = told;
  others = λ other word apart.
      others (other, word) (same_pair-false state op other word apart);
}

-- where nothing was told at a pair, a table that tells a step there extends the table before it
pub extends-tells : (old new : Table) (state op : ℕ) (transition : Transition)
    → told_step old state op ≡ None → TellsStep old new state op transition → Extends old new
extends-tells old new state op transition absent tells = record {
  init = tells.init;
  steps = λ other word made told. tells.others other word
      (λ same. none-some made (sym absent
      ∙ ap (λ (s : ℕ). told_step old s op) (sym same.0)
      ∙ ap (λ (w : ℕ). told_step old other w) (sym same.1) ∙ told)) ∙ told;
  promises = λ word reply made. ap (list_any (is_same_pair (word, reply))) tells.promises ∙ made;
}

-- and its steps keep its promises where those before and this one do
pub keeps-tells : (old new : Table) (state op : ℕ) (transition : Transition) → KeepsPromises old
    → TellsStep old new state op transition
    → (IsPromised old op transition.reply → transition.next ≡ state) → KeepsPromises new
keeps-tells old new state op transition kept tells keeps other word made told promised =
    let before : IsPromised old word made.reply =
    ap (list_any (is_same_pair (word, made.reply))) (sym tells.promises) ∙ promised in
    elim (same_or_apart state op other word) [
      | inr apart ↦ kept other word made (sym (tells.others other word apart) ∙ told) before
      | inl same ↦
          let is : made ≡ transition = same_Some made transition (sym told
          ∙ (ap (λ (s : ℕ). told_step new s word) same.0
          ∙ (ap (λ (w : ℕ). told_step new state w) same.1 ∙ tells.told))) in
          ap (λ (t : Transition). t.next) is ∙ (keeps (subst (λ (t : Transition).
          IsPromised old op t.reply) is (subst (λ (w : ℕ). IsPromised old w made.reply) same.1
          before)) ∙ sym same.0)
    ]

-- a table whose promises are another's with a pair put in takes this promise
pub takes_promise : (old new : Table) (op reply : ℕ) → new.init ≡ old.init
    → new.steps ≡ old.steps → IsPromised new op reply
    → ((q : ℕ × ℕ) → is_same_pair (op, reply) q ≡ false
    → list_any (is_same_pair q) new.promises ≡ list_any (is_same_pair q) old.promises)
    → TakesPromise old new op reply
takes_promise old new op reply init steps promised others = record {
  init = init;
  steps = steps;
  promised = promised;
  others = λ word other apart.
      let same = others (word, other) (same_pair-false op reply word other apart) in
      (λ made. sym same ∙ made, λ made. same ∙ made);
}

-- a table that takes a promise extends the table before it
pub extends-takes : (old new : Table) (op reply : ℕ) → TakesPromise old new op reply
    → Extends old new
extends-takes old new op reply takes = record {
  init = takes.init;
  steps = λ state word made told. ap (lookup (is_same_pair (state, word))) takes.steps ∙ told;
  promises = λ word other made. elim (same_or_apart op reply word other) [
    | inr apart ↦ (takes.others word other apart).1 made
    | inl same ↦ subst (λ (w : ℕ). IsPromised new w other) (sym same.0)
        (subst (λ (r : ℕ). IsPromised new op r) (sym same.1) takes.promised)
  ];
}

-- and its steps keep its promises where they keep those before and this one
pub keeps-takes : (old new : Table) (op reply : ℕ) → KeepsPromises old
    → TakesPromise old new op reply → ((state : ℕ) (transition : Transition)
    → told_step old state op ≡ Some transition → transition.reply ≡ reply
    → transition.next ≡ state) → KeepsPromises new
keeps-takes old new op reply kept takes keeps state word made told promised =
    let before : told_step old state word ≡ Some made =
    ap (lookup (is_same_pair (state, word))) (sym takes.steps) ∙ told in
    elim (same_or_apart op reply word made.reply) [
      | inr apart ↦ kept state word made before ((takes.others word made.reply apart).0 promised)
      | inl same ↦ keeps state made
          (subst (λ (w : ℕ). told_step old state w ≡ Some made) same.0 before) same.1
    ]

-- a step that was told stands at some place of a table
pub told_at : (steps : List ((ℕ × ℕ) × Transition)) (state op : ℕ) (transition : Transition)
    → lookup (is_same_pair (state, op)) steps ≡ Some transition → (k : ℕ)
    × (slice_get steps k ≡ Some ((state, op), transition))
told_at [] state op transition told = absurd (none-some transition told)
told_at (step ∷ steps) state op transition told =
    elim (cases_Bool (is_same_pair (state, op) step.0)) [
      | inl same ↦
          let is : step.1 ≡ transition = same_Some step.1 transition
          (sym (lookup_head (is_same_pair (state, op)) step steps same) ∙ told) in
          let pair = alike_pairs state op step.0.0 step.0.1 same in
          (0, λ i. Some ((pair.0 i, pair.1 i), is i))
      | inr other ↦
          let rest = told_at steps state op transition
          (sym (lookup_tail (is_same_pair (state, op)) step steps other) ∙ told) in
          (suc rest.0, rest.1)
    ]
