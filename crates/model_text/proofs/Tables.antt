-- The table of told lines, line after line.
use Rattle.std.proofs.Common.{◌≡◌, ℕ, zero, suc, ◌+◌, ◌-◌, ◌<◌, Bool, true, false, List, [], ◌∷◌, ◌++◌, length, take, get_or, slice_get, Option, Some, None, cond, refl, sym, ap, subst, ◌∙◌, append_assoc, inl, inr, true≢false, arith}
use Rattle.std.specs.Prelude.{◌↔◌, ◌||◌, nat_eq, not, flat_map}
use Rattle.std.specs.List.{AllByRecursion, list_any}
use Rattle.std.specs.Map.{lookup}
use Rattle.std.proofs.lemmas.Bool.{cases_Bool, cond-true, cond-false}
use Rattle.std.proofs.lemmas.Bool.Decides.{nat_tests}
use Rattle.std.proofs.lemmas.Option.{none-some}
use Rattle.std.proofs.lemmas.List.{append-nil, length-append, take_more}
use Rattle.std.proofs.lemmas.List.Concat.{flat_map-append}
use Rattle.std.proofs.lemmas.List.Folds.{list_any-append}
use Rattle.list_laws.proofs.Elements.{AllByRecursion-append}
use Rattle.list_laws.proofs.Places.{slice_get-push_last}
use Rattle.list_laws.proofs.Options.{cases_Option}
use Rattle.told_models.specs.declared.table.Transition.{Transition}
use Rattle.told_models.specs.Table.{Table, is_same_pair, told_step, IsPromised, Extends, TellsStep, TakesPromise}
use Rattle.model_text.specs.declared.told_line.Subject.{Subject}
use Rattle.model_text.specs.declared.told_line.Subject.TheVariants.{Leaves, Step}
use Rattle.model_text.specs.declared.told_line.ToldLine.{ToldLine}
use Rattle.model_text.specs.Told.{is_before, comes_before, comes_after, rises_after, promises_it, is_promise, keeps, MayFollow, AllFollow, step_by, promise_by, told_table, TellsAlike}

-- ---- each line comes after all lines before it

before-trans : (p q r : Subject) (a b c : ℕ) → is_before p a q b ≡ true → is_before q b r c ≡ true
    → is_before p a r c ≡ true
before-trans (Leaves o) (Leaves p) (Leaves q) a b c h k = grind (arith, nat_tests)
before-trans (Leaves o) (Leaves p) (Step s q n) a b c h k = refl
before-trans (Leaves o) (Step s p n) (Leaves q) a b c h k = absurd (true≢false (sym k))
before-trans (Leaves o) (Step s p n) (Step t q m) a b c h k = refl
before-trans (Step s o n) (Leaves p) r a b c h k = absurd (true≢false (sym h))
before-trans (Step s o n) (Step t p m) (Leaves q) a b c h k = absurd (true≢false (sym k))
before-trans (Step s o n) (Step t p m) (Step u q l) a b c h k = grind (arith, nat_tests)

-- each of some lines comes before a line
abbrev pub AllBefore : List ToldLine → ToldLine → Type 0
AllBefore told line = AllByRecursion (λ other. comes_before other line ≡ true) told

-- a line that comes after the last one of some lines comes after each of them
abbrev pub IsRising : List ToldLine → Type 0
IsRising told = (line : ToldLine) → rises_after told line ≡ true → AllBefore told line

pub last-push : (told : List ToldLine) (line : ToldLine)
    → slice_get (told ++ line ∷ []) (length (told ++ line ∷ []) - 1) ≡ Some line
last-push told line =
    let size : length (told ++ line ∷ []) - 1 ≡ length told =
    omega (arith, length-append told (line ∷ [])) in
    ap (slice_get (told ++ line ∷ [])) size ∙ slice_get-push_last told line

all_before-trans : (told : List ToldLine) (a b : ToldLine) → AllBefore told a
    → comes_before a b ≡ true → AllBefore told b
all_before-trans [] a b h k = tt
all_before-trans (first ∷ told) a b h k = (
  before-trans first.subject a.subject b.subject first.reply a.reply b.reply h.0 k,
  all_before-trans told a b h.1 k,
)

rising-push : (told : List ToldLine) (line : ToldLine) → IsRising told
    → rises_after told line ≡ true → IsRising (told ++ line ∷ [])
rising-push told line rising rises next after =
    let here : comes_before line next ≡ true =
    ap (λ (o : Option ToldLine). comes_after o next) (sym (last-push told line)) ∙ after in
    AllByRecursion-append (λ other. comes_before other next ≡ true) told (line ∷ [])
    (all_before-trans told line next (rising line rises) here) (here, tt)

-- the last of some lines, each of which may follow those before it
pub record IsLastLine (told : List ToldLine) (line : ToldLine) : Type 0 where
  pub before : AllBefore told line
  pub follows : MayFollow told line

walk : (done rest : List ToldLine) (line : ToldLine) → IsRising done
    → AllFollow done (rest ++ line ∷ []) → IsLastLine (done ++ rest) line
walk done [] line rising h =
    subst (λ (told : List ToldLine). IsLastLine told line) (sym (append-nil done))
    (record { before = rising line h.0.rises; follows = h.0 })
walk done (next ∷ rest) line rising h =
    subst (λ (told : List ToldLine). IsLastLine told line) (append_assoc done (next ∷ []) rest)
    (walk (done ++ next ∷ []) rest line (rising-push done next rising h.0.rises) h.1)

pub last_line : (told : List ToldLine) (line : ToldLine) → AllFollow [] (told ++ line ∷ [])
    → IsLastLine told line
last_line told line h = walk [] told line (λ next after. tt) h

-- ---- looking up

lookup_some : {K X : Type 0} (p : K → Bool) (xs ys : List (K × X)) (x : X)
    → lookup p xs ≡ Some x → lookup p (xs ++ ys) ≡ Some x
lookup_some p [] ys x e = absurd (none-some x e)
lookup_some {X = X} p (entry ∷ xs) ys x e = elim (cases_Bool (p entry.0)) [
  | inl met ↦
      cond-true (p entry.0) (Some entry.1) (lookup p (xs ++ ys)) met
      ∙ sym (cond-true (p entry.0) (Some entry.1) (lookup p xs) met) ∙ e
  | inr unmet ↦
      cond-false (p entry.0) (Some entry.1) (lookup p (xs ++ ys)) unmet
      ∙ lookup_some p xs ys x
      (sym (cond-false (p entry.0) (Some entry.1) (lookup p xs) unmet) ∙ e)
]

lookup_none : {K X : Type 0} (p : K → Bool) (xs ys : List (K × X)) → lookup p xs ≡ None
    → lookup p (xs ++ ys) ≡ lookup p ys
lookup_none p [] ys e = refl
lookup_none {X = X} p (entry ∷ xs) ys e = elim (cases_Bool (p entry.0)) [
  | inl met ↦ absurd (none-some entry.1
      (sym e ∙ cond-true (p entry.0) (Some entry.1) (lookup p xs) met))
  | inr unmet ↦
      cond-false (p entry.0) (Some entry.1) (lookup p (xs ++ ys)) unmet
      ∙ lookup_none p xs ys
      (sym (cond-false (p entry.0) (Some entry.1) (lookup p xs) unmet) ∙ e)
]

-- ---- the parts of the table of told lines

abbrev steps_in : List ToldLine → List ((ℕ × ℕ) × Transition)
steps_in told = flat_map (λ line. step_by line.subject line.reply) told

abbrev promises_in : List ToldLine → List (ℕ × ℕ)
promises_in told = flat_map (λ line. promise_by line.subject line.reply) told

pub steps-told : (told : List ToldLine) (state op : ℕ)
    → told_step (told_table told) state op ≡ lookup (is_same_pair (state, op)) (steps_in told)
unfolding told_table
steps-told told state op = refl

promises-told : (told : List ToldLine) → (told_table told).promises ≡ promises_in told
unfolding told_table
promises-told told = refl

steps-push : (told : List ToldLine) (line : ToldLine)
    → steps_in (told ++ line ∷ []) ≡ steps_in told ++ step_by line.subject line.reply
steps-push told line =
    flat_map-append (λ line. step_by line.subject line.reply) told (line ∷ [])
    ∙ ap (λ (xs : List ((ℕ × ℕ) × Transition)). steps_in told ++ xs)
    (append-nil (step_by line.subject line.reply))

promises-push : (told : List ToldLine) (line : ToldLine)
    → promises_in (told ++ line ∷ []) ≡ promises_in told ++ promise_by line.subject line.reply
promises-push told line =
    flat_map-append (λ line. promise_by line.subject line.reply) told (line ∷ [])
    ∙ ap (λ (xs : List (ℕ × ℕ)). promises_in told ++ xs)
    (append-nil (promise_by line.subject line.reply))

-- ---- no step is told twice, and no promise comes after a step

step_elsewhere : (subject : Subject) (reply state op next r : ℕ)
    → is_before subject reply (Step state op next) r ≡ true
    → lookup (is_same_pair (state, op)) (step_by subject reply) ≡ None
step_elsewhere (Leaves o) reply state op next r h = refl
step_elsewhere (Step s o n) reply state op next r h =
    let other : is_same_pair (state, op) (s, o) ≡ false = grind (arith, nat_tests) in
    cond-false (is_same_pair (state, op) (s, o)) _ _ other

pub step_untold : (told : List ToldLine) (line : ToldLine) (state op next : ℕ)
    → line.subject ≡ Step state op next → AllBefore told line
    → told_step (told_table told) state op ≡ None
step_untold told line state op next is h = steps-told told state op ∙ untold told h where
  untold : (told : List ToldLine) → AllBefore told line
      → lookup (is_same_pair (state, op)) (steps_in told) ≡ None
  untold [] h = refl
  untold (first ∷ told) h =
      lookup_none (is_same_pair (state, op)) (step_by first.subject first.reply) (steps_in told)
      (step_elsewhere first.subject first.reply state op next line.reply
      (ap (λ (s : Subject). is_before first.subject first.reply s line.reply) (sym is) ∙ h.0))
      ∙ untold told h.1

no_step : (subject : Subject) (reply op r : ℕ) → is_before subject reply (Leaves op) r ≡ true
    → step_by subject reply ≡ []
no_step (Leaves o) reply op r h = refl
no_step (Step s o n) reply op r h = absurd (true≢false (sym h))

pub none_told : (told : List ToldLine) (line : ToldLine) (op state word : ℕ)
    → line.subject ≡ Leaves op → AllBefore told line
    → told_step (told_table told) state word ≡ None
none_told told line op state word is h =
    steps-told told state word ∙ ap (lookup (is_same_pair (state, word))) (none told h) where
      none : (told : List ToldLine) → AllBefore told line → steps_in told ≡ []
      none [] h = refl
      none (first ∷ told) h =
          ap (λ (xs : List ((ℕ × ℕ) × Transition)). xs ++ steps_in told)
          (no_step first.subject first.reply op line.reply
          (ap (λ (s : Subject). is_before first.subject first.reply s line.reply) (sym is) ∙ h.0))
          ∙ none told h.1

-- ---- a step keeps the promises

promise_by-any : (subject : Subject) (reply op r : ℕ)
    → list_any (is_same_pair (op, r)) (promise_by subject reply) ≡ promises_it op r subject reply
promise_by-any (Leaves o) reply op r = or-false (is_same_pair (op, r) (o, reply)) where
  or-false : (b : Bool) → (b || false) ≡ b
  or-false true = refl
  or-false false = refl
promise_by-any (Step s o n) reply op r = refl

pub promised-told : (told : List ToldLine) (op r : ℕ)
    → list_any (is_same_pair (op, r)) (promises_in told) ≡ list_any (is_promise op r) told
promised-told [] op r = refl
promised-told (first ∷ told) op r =
    list_any-append (is_same_pair (op, r)) (promise_by first.subject first.reply)
    (promises_in told)
    ∙ ap (λ (b : Bool). b || list_any (is_same_pair (op, r)) (promises_in told))
    (promise_by-any first.subject first.reply op r)
    ∙ ap (λ (b : Bool). is_promise op r first || b) (promised-told told op r)

-- where a line may follow, a promised reply is that of a step to its own state
pub step_stays : (told : List ToldLine) (line : ToldLine) (state op next : ℕ)
    → line.subject ≡ Step state op next → MayFollow told line
    → IsPromised (told_table told) op line.reply → next ≡ state
step_stays told line state op next is h promised =
    let any : list_any (is_promise op line.reply) told ≡ true =
    sym (promised-told told op line.reply)
    ∙ ap (list_any (is_same_pair (op, line.reply))) (sym (promises-told told)) ∙ promised in
    let kept : keeps told (Step state op next) line.reply ≡ true =
    ap (λ (s : Subject). keeps told s line.reply) (sym is) ∙ h.keeps_promises in
    let here : (nat_eq state next || not true) ≡ true =
    ap (λ (b : Bool). nat_eq state next || not b) (sym any) ∙ kept in
    grind (arith, nat_tests)

-- ---- a line more

init-told : (told : List ToldLine) → (told_table told).init ≡ 0
unfolding told_table
init-told told = refl

promised_by : (a b : Table) (op r : ℕ) → a.promises ≡ b.promises → IsPromised a op r
    → IsPromised b op r
promised_by a b op r e p = ap (list_any (is_same_pair (op, r))) (sym e) ∙ p

same_pair : (s o state op : ℕ) → is_same_pair (s, o) (state, op) ≡ true → (s ≡ state) × (o ≡ op)
same_pair s o state op h = (grind (arith, nat_tests), grind (arith, nat_tests))

other_pair : (s o state op : ℕ) → is_same_pair (s, o) (state, op) ≡ false
    → (s ≡ state) × (o ≡ op) → ⊥
other_pair s o state op h (e, f) = grind (arith, nat_tests)

-- the table with one step more
module _ (told : List ToldLine) (line : ToldLine) (state op next : ℕ) (old new : Table)
    (is : line.subject ≡ Step state op next) (h : TellsAlike (told_table told) old)
    (k : TellsStep old new state op (record { next = next; reply = line.reply }))
    (extends : Extends old new) where
  abbrev transition : Transition
  transition = record { next = next; reply = line.reply }

  abbrev after : Table
  after = told_table (told ++ line ∷ [])

  looked : (s o : ℕ) → told_step after s o ≡ lookup (is_same_pair (s, o))
      (steps_in told ++ ((state, op), transition) ∷ [])
  looked s o =
      steps-told (told ++ line ∷ []) s o ∙ ap (lookup (is_same_pair (s, o))) (steps-push told line)
      ∙ ap (λ (subject : Subject). lookup (is_same_pair (s, o))
      (steps_in told ++ step_by subject line.reply)) is

  same_steps : (s o : ℕ) → told_step after s o ≡ told_step new s o
  same_steps s o = elim (cases_Option (told_step (told_table told) s o)) [
    | inl none ↦
        let here : told_step after s o
        ≡ cond (is_same_pair (s, o) (state, op)) (Some transition) None =
        looked s o ∙ lookup_none (is_same_pair (s, o)) (steps_in told)
        (((state, op), transition) ∷ []) (sym (steps-told told s o) ∙ none) in
        elim (cases_Bool (is_same_pair (s, o) (state, op))) [
          | inl met ↦
              let same = same_pair s o state op met in
              let found : told_step new s o ≡ Some transition =
              ap (λ (i : ℕ). told_step new i o) same.0
              ∙ ap (λ (j : ℕ). told_step new state j) same.1 ∙ k.told in
              here ∙ cond-true (is_same_pair (s, o) (state, op)) (Some transition) None met
              ∙ sym found
          | inr unmet ↦
              let found : told_step new s o ≡ None =
              k.others s o (other_pair s o state op unmet) ∙ sym (h.steps s o) ∙ none in
              here ∙ cond-false (is_same_pair (s, o) (state, op)) (Some transition) None unmet
              ∙ sym found
        ]
    | inr some ↦
        let found : told_step new s o ≡ Some some.0 =
        extends.steps s o some.0 (sym (h.steps s o) ∙ some.1) in
        looked s o ∙ lookup_some (is_same_pair (s, o)) (steps_in told)
        (((state, op), transition) ∷ []) some.0 (sym (steps-told told s o) ∙ some.1) ∙ sym found
  ]

  same_promises : after.promises ≡ (told_table told).promises
  same_promises =
      promises-told (told ++ line ∷ []) ∙ promises-push told line
      ∙ ap (λ (subject : Subject). promises_in told ++ promise_by subject line.reply) is
      ∙ append-nil (promises_in told) ∙ sym (promises-told told)

  pub alike-step : TellsAlike after new
  alike-step = record {
    init = init-told (told ++ line ∷ []) ∙ sym (init-told told) ∙ h.init ∙ sym k.init;
    steps = same_steps;
    promises = λ o r. (
      λ p. promised_by old new o r (sym k.promises)
          ((h.promises o r).0 (promised_by after (told_table told) o r same_promises p)),
      λ p. promised_by (told_table told) after o r (sym same_promises)
          ((h.promises o r).1 (promised_by new old o r k.promises p)),
    );
  }

or-none : (b : Bool) → (b || (false || false)) ≡ b
or-none true = refl
or-none false = refl

or-one : (b : Bool) → (b || (true || false)) ≡ true
or-one true = refl
or-one false = refl

-- the table with one promise more
module _ (told : List ToldLine) (line : ToldLine) (op : ℕ) (old new : Table)
    (is : line.subject ≡ Leaves op) (h : TellsAlike (told_table told) old)
    (k : TakesPromise old new op line.reply) where
  abbrev after_promise : Table
  after_promise = told_table (told ++ line ∷ [])

  still : (s o : ℕ) → told_step after_promise s o ≡ told_step new s o
  still s o =
      steps-told (told ++ line ∷ []) s o ∙ ap (lookup (is_same_pair (s, o))) (steps-push told line
      ∙ ap (λ (subject : Subject). steps_in told ++ step_by subject line.reply) is
      ∙ append-nil (steps_in told))
      ∙ sym (steps-told told s o) ∙ h.steps s o
      ∙ ap (lookup (is_same_pair (s, o))) (sym k.steps)

  any : (o r : ℕ) → list_any (is_same_pair (o, r)) after_promise.promises
      ≡ (list_any (is_same_pair (o, r)) (told_table told).promises
      || (is_same_pair (o, r) (op, line.reply) || false))
  any o r =
      ap (list_any (is_same_pair (o, r))) (promises-told (told ++ line ∷ [])
      ∙ promises-push told line
      ∙ ap (λ (subject : Subject). promises_in told ++ promise_by subject line.reply) is
      ∙ ap (λ (ps : List (ℕ × ℕ)). ps ++ (op, line.reply) ∷ []) (sym (promises-told told)))
      ∙ list_any-append (is_same_pair (o, r)) (told_table told).promises ((op, line.reply) ∷ [])

  same_promised : (o r : ℕ) → IsPromised after_promise o r ↔ IsPromised new o r
  same_promised o r = elim (cases_Bool (is_same_pair (o, r) (op, line.reply))) [
    | inl met ↦
        let same = same_pair o r op line.reply met in
        let here : IsPromised after_promise o r = any o r
        ∙ ap (λ (b : Bool). list_any (is_same_pair (o, r)) (told_table told).promises
        || (b || false)) met
        ∙ or-one (list_any (is_same_pair (o, r)) (told_table told).promises) in
        let there : IsPromised new o r =
        subst (λ (i : ℕ). IsPromised new i r) (sym same.0)
        (subst (λ (j : ℕ). IsPromised new op j) (sym same.1) k.promised) in
        (λ p. there, λ p. here)
    | inr unmet ↦
        let kept : list_any (is_same_pair (o, r)) after_promise.promises
        ≡ list_any (is_same_pair (o, r)) (told_table told).promises = any o r
        ∙ ap (λ (b : Bool). list_any (is_same_pair (o, r)) (told_table told).promises
        || (b || false)) unmet
        ∙ or-none (list_any (is_same_pair (o, r)) (told_table told).promises) in
        let others = k.others o r (other_pair o r op line.reply unmet) in (
          λ p. others.1 ((h.promises o r).0 (sym kept ∙ p)),
          λ p. kept ∙ (h.promises o r).1 (others.0 p),
        )
  ]

  pub alike-promise : TellsAlike after_promise new
  alike-promise = record {
    init = init-told (told ++ line ∷ []) ∙ sym (init-told told) ∙ h.init ∙ sym k.init;
    steps = still;
    promises = same_promised;
  }

-- the table of no lines
pub alike-nothing : TellsAlike (told_table []) (record { init = 0; steps = []; promises = [] })
unfolding told_table
alike-nothing = record {
  init = refl;
  steps = λ state op. refl;
  promises = λ op reply. (λ p. p, λ p. p);
}

-- ---- the lines before one

follow_take : (done told : List ToldLine) (n : ℕ) → AllFollow done told
    → AllFollow done (take n told)
follow_take done [] zero h = tt
follow_take done [] (suc n) h = tt
follow_take done (line ∷ told) zero h = tt
follow_take done (line ∷ told) (suc n) h = (h.0, follow_take (done ++ line ∷ []) told n h.1)

pub follow_to : (told : List ToldLine) (i : ℕ) (d : ToldLine) → i < length told
    → AllFollow [] told → AllFollow [] (take i told ++ get_or told i d ∷ [])
follow_to told i d lt h =
    subst (AllFollow []) (take_more told i d lt) (follow_take [] told (i + 1) h)

-- ---- no refusal but for want of memory

module _ (told : List ToldLine) (line : ToldLine) (table : Table)
    (follow : AllFollow [] (told ++ line ∷ [])) (h : TellsAlike (told_table told) table) where
  -- no step that is told breaks a promise that comes next
  pub no_broken_promise : (op state : ℕ) (transition : Transition) → line.subject ≡ Leaves op
      → told_step table state op ≡ Some transition → ⊥
  no_broken_promise op state transition is e = none-some transition
      (sym (none_told told line op state op is (last_line told line follow).before)
      ∙ h.steps state op ∙ e)

  -- a step that comes next isn't told
  pub no_contradiction : (state op next : ℕ) (transition : Transition)
      → line.subject ≡ Step state op next → told_step table state op ≡ Some transition → ⊥
  no_contradiction state op next transition is e = none-some transition
      (sym (step_untold told line state op next is (last_line told line follow).before)
      ∙ h.steps state op ∙ e)

  -- a step that comes next keeps the promises
  pub no_leaving : (state op next : ℕ) → line.subject ≡ Step state op next
      → IsPromised table op line.reply → (next ≡ state → ⊥) → ⊥
  no_leaving state op next is promised other = other (step_stays told line state op next is
      (last_line told line follow).follows ((h.promises op line.reply).1 promised))
