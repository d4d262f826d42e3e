-- Objects that agree with a table.
use Rattle.std.proofs.Common.{◌≡◌, ℕ, suc, ◌+◌, ◌≤◌, List, [], ◌∷◌, length, map, get_or, Contains, Option, None, Some, unwrap_or, refl, sym, ap, subst, ◌∙◌, arith}
use Rattle.std.proofs.lemmas.List.{length-map}
use Rattle.std.proofs.lemmas.Option.{slice_get-get_or}
use Rattle.book_base.specs.declared.call.Place.{Place}
use Rattle.book_base.specs.SeqSpec.{SeqSpec}
use Rattle.book_base.specs.declared.call.Call.{Call}
use Rattle.book_base.specs.Book.{Page, page_of, IsCall, operation_of}
use Rattle.book_base.specs.Sequential.{IsRunFrom}
use Rattle.book_base.specs.Reaching.{Leaves}
use Rattle.told_models.specs.declared.table.Transition.{Transition}
use Rattle.book_base.specs.Order.{IsLegalOrder, HasLegalOrder, StandsAt, step_at, call_at}
use Rattle.told_models.specs.Table.{Table, told_step, IsPromised, KeepsPromises}
use Rattle.told_models.specs.Agreement.{AgreesBy, Agrees}
use Rattle.told_models.specs.Completion.{completion, made_or_bad}
use Rattle.told_models.specs.Closed.{Leads, HaveWords, IsNear, IsClosedTo, IsWordOf, number_of_calls}
use Rattle.told_models.specs.Dialogue.{IsAsk}
use Rattle.told_models.specs.Laws.{CompletionsAgree, AgreesWithFewer, ClosedTablesDecide, ClosedForBooks, AnswersExclude, VerdictsStand}
use Rattle.told_models.proofs.Leading.{near_step, near_among}
use Rattle.told_models.proofs.Counting.{order-bounded}

-- what an operation does at a list leaves the list where it does so at each told step
made_leaves : (list : List ℕ) (step : Option Transition) (reply : ℕ)
    → ((transition : Transition) → step ≡ Some transition → transition.reply ≡ reply
    → transition.next ∷ [] ≡ list) → (made_or_bad list step).1 ≡ reply
    → (made_or_bad list step).0 ≡ list
made_leaves list None reply leaves has = refl
made_leaves list (Some transition) reply leaves has = leaves transition refl has

completion_leaves : (table : Table) → KeepsPromises table → (op reply : ℕ)
    → IsPromised table op reply → Leaves (completion table).next op reply
completion_leaves table keeps op reply promised [] has = refl
completion_leaves table keeps op reply promised (state ∷ []) has =
    made_leaves (state ∷ []) (told_step table state op) reply
    (λ transition told gives. ap (λ (s : ℕ). s ∷ []) (keeps state op transition told
    (subst (λ (r : ℕ). IsPromised table op r) (sym gives) promised))) has
completion_leaves table keeps op reply promised (state ∷ word ∷ words) has = refl

pub completions_agree : CompletionsAgree
completions_agree table keeps = (
  λ state. state ∷ [],
  record {
    init = refl;
    steps = λ state op transition told. ap (made_or_bad (state ∷ [])) told;
    promises = completion_leaves table keeps;
  },
)

pub agrees_with_fewer : AgreesWithFewer
agrees_with_fewer old new spec extends agrees = (
  agrees.0,
  record {
    init = agrees.1.init ∙ ap agrees.0 extends.init;
    steps = λ state op transition told.
        agrees.1.steps state op transition (extends.steps state op transition told);
    promises = λ op reply promised. agrees.1.promises op reply (extends.promises op reply promised);
  },
)

-- told steps are a run of each object that agrees
told_steps_are_a_run : (list_of : ℕ → List ℕ) (table : Table) (spec : SeqSpec)
    → AgreesBy list_of table spec → (from : ℕ) (steps : List (ℕ × ℕ)) (to : ℕ)
    → Leads table from steps to → IsRunFrom spec.next (list_of from) steps
told_steps_are_a_run list_of table spec agrees from [] to leads = tt
told_steps_are_a_run list_of table spec agrees from (step ∷ steps) to leads =
    let made = agrees.steps from step.0 leads.0 leads.1 in (
      ap (λ (p : List ℕ × ℕ). p.1) made ∙ leads.2,
      subst (λ (list : List ℕ). IsRunFrom spec.next list steps)
          (sym (ap (λ (p : List ℕ × ℕ). p.0) made))
          (told_steps_are_a_run list_of table spec agrees leads.0.next steps to leads.3),
    )

-- in a closed table a run of an object that agrees, of no more steps than the depth, is of told
-- steps
run_is_told : (list_of : ℕ → List ℕ) (table : Table) (IsWord : ℕ → Type 0) (most : ℕ)
    (spec : SeqSpec) → AgreesBy list_of table spec → IsClosedTo table IsWord most
    → (depth from : ℕ) → IsNear table IsWord (depth + 1) from → (steps : List (ℕ × ℕ))
    → depth + length steps ≤ most → HaveWords IsWord steps
    → IsRunFrom spec.next (list_of from) steps → (to : ℕ) × Leads table from steps to
run_is_told list_of table IsWord most spec agrees closed depth from near [] few all run =
    (from, refl)
run_is_told list_of table IsWord most spec agrees closed depth from near (step ∷ steps) few all
    run =
    let found = closed from step.0
    (near_among table IsWord IsWord (depth + 1) most from (λ op is. is) (omega (arith, few)) near)
    all.0 in
    let made = agrees.steps from step.0 found.0 found.1 in
    let reply : found.0.reply ≡ step.1 = sym (ap (λ (p : List ℕ × ℕ). p.1) made) ∙ run.0 in
    let rest = run_is_told list_of table IsWord most spec agrees closed (depth + 1) found.0.next
    (near_step table IsWord (depth + 1) from step.0 found.0 near all.0 found.1) steps
    (omega (arith, few)) all.1
    (subst (λ (list : List ℕ). IsRunFrom spec.next list steps)
    (ap (λ (p : List ℕ × ℕ). p.0) made) run.1) in
    (rest.0, (found.0, found.1, reply, rest.1))

-- the operation words of the places of an order of the book's calls are the book's
places_have_words : (book : List Page) (order : List Place)
    → ((k : ℕ) (call : Call) → StandsAt order k call → IsCall book call)
    → HaveWords (IsWordOf book) (map (step_at book) order)
places_have_words book [] calls = tt
places_have_words book (place ∷ order) calls =
    let words = (page_of book place.caller).operations in
    let word : operation_of book (call_at place) ≡ Some (get_or words place.number 0) =
    slice_get-get_or words place.number 0 (calls 0 (call_at place) (place, refl, refl)) in (
      (call_at place, word ∙ ap (λ (o : Option ℕ). Some (unwrap_or o 0)) (sym word)),
      places_have_words book order
          (λ k call stands. calls (suc k) call (stands.0, stands.1, stands.2)),
    )

pub closed_tables_decide : ClosedTablesDecide
closed_tables_decide table book order a b closed by_a by_b legal =
    let steps = map (step_at book) order in
    let told = run_is_told by_a.0 table (IsWordOf book) (number_of_calls book) a by_a.1 closed 0
    table.init (record { steps = []; few = omega arith; words = tt; reached = refl }) steps
    (omega (arith, order-bounded a book order legal, length-map order (step_at book)))
    (places_have_words book order legal.calls)
    (subst (λ (list : List ℕ). IsRunFrom a.next list steps) by_a.1.init legal.run) in
    record {
      calls = legal.calls;
      once = legal.once;
      earlier = legal.earlier;
      answered = legal.answered;
      run = subst (λ (list : List ℕ). IsRunFrom b.next list steps) (sym by_b.1.init)
          (told_steps_are_a_run by_b.0 table b by_b.1 table.init steps told.0 told.1);
      precedence = legal.precedence;
    }

pub closed_for_books : ClosedForBooks
closed_for_books table ops most book among few closed state op near word = closed state op
    (near_among table (IsWordOf book) (Contains ops) (number_of_calls book) most state among few
    near) (among op word)

-- at a closed table an order that is legal for its completion is legal for each object that agrees
pub legal_for_all : (table : Table) (book : List Page) (ops : List ℕ) → KeepsPromises table
    → ((op : ℕ) → IsWordOf book op → Contains ops op)
    → IsClosedTo table (Contains ops) (number_of_calls book) → (order : List Place)
    → IsLegalOrder (completion table) book order → (spec : SeqSpec) → Agrees table spec
    → IsLegalOrder spec book order
legal_for_all table book ops keeps among closed order legal spec agrees =
    closed_tables_decide table book order (completion table) spec
    (closed_for_books table ops (number_of_calls book) book among (omega arith) closed)
    (completions_agree table keeps) agrees legal

pub answers_exclude : AnswersExclude
answers_exclude table book order keeps legal illegal =
    illegal (completion table) (completions_agree table keeps)
    (order.items, legal (completion table) (completions_agree table keeps))

pub verdicts_stand : VerdictsStand
verdicts_stand old new book extends = (
  λ order legal spec agrees. legal spec (agrees_with_fewer old new spec extends agrees),
  λ illegal spec agrees has. illegal spec (agrees_with_fewer old new spec extends agrees) has,
)
