-- Dialogues about a book end: each step that is told leaves less to tell.
use Rattle.std.proofs.Common.{◌≡◌, ℕ, zero, suc, ◌+◌, ◌*◌, ◌<◌, ◌≤◌, List, [], ◌∷◌, length, sum_by, get_or, Contains, Option, None, Some, refl, sym, ap, subst, ◌∙◌, arith}
use Rattle.std.specs.Option.{option_map_or}
use Rattle.std.proofs.lemmas.List.Sums.{sum_by-cons}
use Rattle.book_base.specs.Book.{Page}
use Rattle.told_models.specs.declared.table.Transition.{Transition}
use Rattle.told_models.specs.Table.{Table, told_step, Extends}
use Rattle.told_models.specs.Closed.{Leads, HaveWords, IsWordOf, number_of_calls}
use Rattle.told_models.specs.Dialogue.{IsAsk, word_lists}
use Rattle.told_models.proofs.Leading.{near_among}

-- a sum is at most as many times a bound as it has numbers, where none is greater than the bound
sum-bounded : (f : ℕ → ℕ) (bound : ℕ) → ((x : ℕ) → f x ≤ bound) → (xs : List ℕ)
    → sum_by f xs ≤ length xs * bound
sum-bounded f bound all [] = omega arith
sum-bounded f bound all (x ∷ xs) =
    let more : length (x ∷ xs) * bound ≡ bound + length xs * bound = grind arith in
    omega (arith, more, sum_by-cons f x xs, all x, sum-bounded f bound all xs)

-- a sum is at most another one of equally many numbers, where no number is greater
sum-at_most : (f g : ℕ → ℕ) → ((x : ℕ) → f x ≤ g x) → (xs : List ℕ)
    → sum_by f xs ≤ sum_by g xs
sum-at_most f g all [] = omega arith
sum-at_most f g all (x ∷ xs) = omega (
  arith,
  sum_by-cons f x xs,
  sum_by-cons g x xs,
  all x,
  sum-at_most f g all xs,
)

-- a sum is less where besides some number is less
sum-less : (f g : ℕ → ℕ) → ((x : ℕ) → f x ≤ g x) → (xs : List ℕ) (y k : ℕ) → k < length xs
    → get_or xs k y ≡ y → f y < g y → sum_by f xs < sum_by g xs
sum-less f g all [] y k inside at less = absurd (omega arith)
sum-less f g all (x ∷ xs) y zero inside at less =
    let here : f x < g x = subst (λ (z : ℕ). f z < g z) (sym at) less in
    omega (
      arith,
      sum_by-cons f x xs,
      sum_by-cons g x xs,
      here,
      sum-at_most f g all xs,
    )
sum-less f g all (x ∷ xs) y (suc k) inside at less =
    omega (
      arith,
      sum_by-cons f x xs,
      sum_by-cons g x xs,
      all x,
      sum-less f g all xs y k (omega arith) at less,
    )

-- how many lists of operation words that lead on from a state a table has steps left untold for
left_at : Table → List ℕ → ℕ → ℕ → ℕ
left_at table ops zero state = 0
left_at table ops (suc most) state =
    sum_by (λ op. option_map_or (λ (t : Transition). left_at table ops most t.next)
    (told_step table state op) (word_lists (length ops) most + 1)) ops

-- after a step no more are left than a bound, where no more are left at each state
left_after-bounded : (f : ℕ → ℕ) (bound : ℕ) → ((state : ℕ) → f state ≤ bound)
    → (step : Option Transition)
    → option_map_or (λ (t : Transition). f t.next) step (bound + 1) ≤ bound + 1
left_after-bounded f bound all None = omega arith
left_after-bounded f bound all (Some t) = omega (arith, all t.next)

-- no more lists are left than there are
left_at-bounded : (table : Table) (ops : List ℕ) (most state : ℕ)
    → left_at table ops most state ≤ word_lists (length ops) most
unfolding left_at
left_at-bounded table ops zero state = omega arith
left_at-bounded table ops (suc most) state =
    sum-bounded (λ op. option_map_or (λ (t : Transition). left_at table ops most t.next)
    (told_step table state op) (word_lists (length ops) most + 1))
    (word_lists (length ops) most + 1)
    (λ op. left_after-bounded (left_at table ops most) (word_lists (length ops) most)
    (left_at-bounded table ops most) (told_step table state op)) ops

-- after a step no more are left than before more was told
left_after-falls : (f g : ℕ → ℕ) (bound : ℕ) → ((state : ℕ) → f state ≤ g state)
    → ((state : ℕ) → f state ≤ bound) → (old new : Option Transition)
    → ((t : Transition) → old ≡ Some t → new ≡ Some t)
    → option_map_or (λ (t : Transition). f t.next) new (bound + 1)
    ≤ option_map_or (λ (t : Transition). g t.next) old (bound + 1)
left_after-falls f g bound less all None new kept = left_after-bounded f bound all new
left_after-falls f g bound less all (Some t) new kept =
    subst (λ (o : Option Transition). option_map_or (λ (t : Transition). f t.next) o (bound + 1)
    ≤ g t.next) (sym (kept t refl)) (less t.next)

-- a table that extends another one has no more left than it
left_at-falls : (old new : Table) → Extends old new → (ops : List ℕ) (most state : ℕ)
    → left_at new ops most state ≤ left_at old ops most state
unfolding left_at
left_at-falls old new extends ops zero state = omega arith
left_at-falls old new extends ops (suc most) state = sum-at_most
    (λ op. option_map_or (λ (t : Transition). left_at new ops most t.next)
    (told_step new state op) (word_lists (length ops) most + 1))
    (λ op. option_map_or (λ (t : Transition). left_at old ops most t.next)
    (told_step old state op) (word_lists (length ops) most + 1))
    (λ op. left_after-falls (left_at new ops most) (left_at old ops most)
    (word_lists (length ops) most) (left_at-falls old new extends ops most)
    (left_at-bounded new ops most) (told_step old state op) (told_step new state op)
    (extends.steps state op)) ops

-- where a step is told at a state to which told steps lead, fewer are left than before
left_at-less : (old new : Table) → Extends old new → (ops : List ℕ) (op : ℕ) → Contains ops op
    → (transition : Transition) (most from : ℕ) (steps : List (ℕ × ℕ)) (to : ℕ)
    → length steps < most → HaveWords (Contains ops) steps → Leads old from steps to
    → told_step old to op ≡ None → told_step new to op ≡ Some transition
    → left_at new ops most from < left_at old ops most from
unfolding left_at
left_at-less old new extends ops op among transition zero from steps to few known leads
    untold told =
    absurd (omega arith)
left_at-less old new extends ops op among transition (suc most) from [] to few known leads untold
    told =
    let bound = word_lists (length ops) most in
    let after : Table → ℕ → ℕ = λ table word.
    option_map_or (λ (t : Transition). left_at table ops most t.next) (told_step table from word)
    (bound + 1) in
    let was : after old op ≡ bound + 1 =
    ap (λ (o : Option Transition). option_map_or (λ (t : Transition). left_at old ops most t.next)
    o (bound + 1)) (ap (λ (s : ℕ). told_step old s op) leads ∙ untold) in
    let is : after new op ≡ left_at new ops most transition.next =
    ap (λ (o : Option Transition). option_map_or (λ (t : Transition). left_at new ops most t.next)
    o (bound + 1)) (ap (λ (s : ℕ). told_step new s op) leads ∙ told) in
    sum-less (after new) (after old)
    (λ word. left_after-falls (left_at new ops most) (left_at old ops most) bound
    (left_at-falls old new extends ops most) (left_at-bounded new ops most)
    (told_step old from word) (told_step new from word) (extends.steps from word))
    ops op among.0 among.1 among.2
    (omega (arith, was, is, left_at-bounded new ops most transition.next))
left_at-less old new extends ops op among transition (suc most) from (step ∷ steps) to few known
    leads untold told =
    let bound = word_lists (length ops) most in
    let after : Table → ℕ → ℕ = λ table word.
    option_map_or (λ (t : Transition). left_at table ops most t.next) (told_step table from word)
    (bound + 1) in
    let was : after old step.0 ≡ left_at old ops most leads.0.next =
    ap (λ (o : Option Transition). option_map_or (λ (t : Transition). left_at old ops most t.next)
    o (bound + 1)) leads.1 in
    let is : after new step.0 ≡ left_at new ops most leads.0.next =
    ap (λ (o : Option Transition). option_map_or (λ (t : Transition). left_at new ops most t.next)
    o (bound + 1)) (extends.steps from step.0 leads.0 leads.1) in
    sum-less (after new) (after old)
    (λ word. left_after-falls (left_at new ops most) (left_at old ops most) bound
    (left_at-falls old new extends ops most) (left_at-bounded new ops most)
    (told_step old from word) (told_step new from word) (extends.steps from word))
    ops step.0 known.0.0 known.0.1 known.0.2
    (omega (
      arith,
      was,
      is,
      left_at-less old new extends ops op among transition most
          leads.0.next steps to (omega arith) known.1 leads.3 untold told,
    ))

-- A number for how much of an object is left to tell by so many of some operation words.
pub left_to_tell : List ℕ → ℕ → Table → ℕ
left_to_tell ops most table = left_at table ops most table.init

-- no more is left than there are lists of these words
pub left_to_tell-bounded : (ops : List ℕ) (most : ℕ) (table : Table)
    → left_to_tell ops most table ≤ word_lists (length ops) most
unfolding left_to_tell
left_to_tell-bounded ops most table = left_at-bounded table ops most table.init

-- no more is left where more was told
pub left_to_tell-falls : (ops : List ℕ) (most : ℕ) (old new : Table) → Extends old new
    → left_to_tell ops most new ≤ left_to_tell ops most old
unfolding left_to_tell
left_to_tell-falls ops most old new extends =
    let same : left_at new ops most new.init ≡ left_at new ops most old.init =
    ap (left_at new ops most) extends.init in
    omega (arith, same, left_at-falls old new extends ops most old.init)

-- less is left where a step is told that was asked for
pub left_to_tell-less : (book : List Page) (ops : List ℕ) (old new : Table) (state op : ℕ)
    → ((word : ℕ) → IsWordOf book word → Contains ops word)
    → IsAsk old (IsWordOf book) (number_of_calls book) state op → Extends old new
    → (transition : Transition) → told_step new state op ≡ Some transition
    → left_to_tell ops (number_of_calls book) new < left_to_tell ops (number_of_calls book) old
unfolding left_to_tell
left_to_tell-less book ops old new state op among ask extends transition told =
    let most = number_of_calls book in
    let near = near_among old (IsWordOf book) (Contains ops) most most state among (omega arith)
    ask.near in
    let same : left_at new ops most new.init ≡ left_at new ops most old.init =
    ap (left_at new ops most) extends.init in
    let less = left_at-less old new extends ops op (among op ask.word) transition most old.init
    near.steps state near.few near.words near.reached ask.untold told in
    omega (arith, same, less)
