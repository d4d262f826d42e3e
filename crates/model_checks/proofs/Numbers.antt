-- The numbers of operation words and of states.
use Rattle.std.proofs.Common.{◌≡◌, ℕ, ◌^◌, ◌<◌, ◌∙◌, List, [], ◌∷◌, ◌++◌, length, set, slice_get, Some, sym, ap, subst, inl, inr, arith}
use Rattle.std.specs.Map.{lookup}
use Rattle.std.proofs.lemmas.Bool.{cases_eq}
use Rattle.std.proofs.lemmas.Option.{same_Some}
use Rattle.list_laws.proofs.Places.{slice_get-push_cases}
use Rattle.book_base.specs.declared.call.Record.{Record}
use Rattle.book_base.specs.Book.{Page, page_of, with_call, with_answer}
use Rattle.book_base.proofs.GrowthLemmas.{page_of-set_same, page_of-set_other}
use Rattle.told_models.specs.declared.table.Transition.{Transition}
use Rattle.told_models.specs.Table.{Table, told_step, TellsStep, TakesPromise, is_same_pair}
use Rattle.told_models.specs.Closed.{Leads, IsNear}
use Rattle.told_models.proofs.Telling.{same_or_apart}
use Rattle.model_checks.specs.Words.{operation_word}
use Rattle.model_checks.specs.Checks.{AreNumbered, AreSmall}

-- A call whose operation has a number begins.
pub numbered-begun : (book : List Page) (i number : ℕ) → i < length book → number < 2 ^ 32
    → AreNumbered book → AreNumbered (with_call book i (operation_word number))
numbered-begun book i number low small all op word =
    let p : Page = record (page_of book i)
    { operations = (page_of book i).operations ++ operation_word number ∷ [] } in
    let call = word.0 in
    elim (cases_eq call.caller i) [
      | inl same ↦
          let here : slice_get
          ((page_of book i).operations ++ operation_word number ∷ []) call.number
          ≡ Some op =
          sym (ap (λ (k : ℕ). slice_get (page_of (set book i p) k).operations call.number)
          same ∙ ap (λ (q : Page). slice_get q.operations call.number)
          (page_of-set_same book i p low)) ∙ word.1 in
          elim (slice_get-push_cases (page_of book i).operations (operation_word number) call.number
          op here) [
            | inl old ↦ all op (record { caller = i; number = call.number }, old)
            | inr new ↦ (number, small, new.1)
          ]
      | inr other ↦ all op (
        call,
        sym (ap (λ (q : Page). slice_get q.operations call.number)
            (page_of-set_other book i call.caller p other)) ∙ word.1,
      )
    ]

-- A call ends, which changes no operation word.
pub numbered-ended : (book : List Page) (i : ℕ) (r : Record) → i < length book → AreNumbered book
    → AreNumbered (with_answer book i r)
numbered-ended book i r low all op word =
    let p : Page = record (page_of book i) { records = (page_of book i).records ++ r ∷ [] } in
    let call = word.0 in
    elim (cases_eq call.caller i) [
      | inl same ↦ all op (
        record { caller = i; number = call.number },
        sym (ap (λ (k : ℕ). slice_get (page_of (set book i p) k).operations call.number) same
            ∙ ap (λ (q : Page). slice_get q.operations call.number)
            (page_of-set_same book i p low)) ∙ word.1,
      )
      | inr other ↦ all op (
        call,
        sym (ap (λ (q : Page). slice_get q.operations call.number)
            (page_of-set_other book i call.caller p other)) ∙ word.1,
      )
    ]

-- A step to a state with a small number is told.
pub small-told : (old new : Table) (state op : ℕ) (transition : Transition)
    → TellsStep old new state op transition → transition.next < 2 ^ 32 → AreSmall old
    → AreSmall new
small-told old new state op transition tells low all = record {
  init = tells.init ∙ all.init;
  steps = λ other word made told. elim (same_or_apart state op other word) [
    | inr apart ↦ all.steps other word made (sym (tells.others other word apart) ∙ told)
    | inl same ↦
        let is : made ≡ transition = same_Some made transition (sym told
        ∙ (ap (λ (s : ℕ). told_step new s word) same.0
        ∙ (ap (λ (w : ℕ). told_step new state w) same.1 ∙ tells.told))) in
        subst (λ (t : Transition). t.next < 2 ^ 32) (sym is) low
  ];
}

-- A promise changes no step.
pub small-promised : (old new : Table) (op reply : ℕ) → TakesPromise old new op reply
    → AreSmall old → AreSmall new
small-promised old new op reply takes all = record {
  init = takes.init ∙ all.init;
  steps = λ state word made told. all.steps state word made
      (ap (lookup (is_same_pair (state, word))) (sym takes.steps) ∙ told);
}

small-led : (table : Table) (from : ℕ) (steps : List (ℕ × ℕ)) (to : ℕ) → AreSmall table
    → from < 2 ^ 32 → Leads table from steps to → to < 2 ^ 32
small-led table from [] to all low leads = subst (λ (s : ℕ). s < 2 ^ 32) leads low
small-led table from (step ∷ steps) to all low leads = small-led table leads.0.next steps to all
    (all.steps from step.0 leads.0 leads.1) leads.3

-- A state that told steps lead to has a small number.
pub small-near : (table : Table) (IsWord : ℕ → Type 0) (most state : ℕ) → AreSmall table
    → IsNear table IsWord most state → state < 2 ^ 32
small-near table IsWord most state all near =
    let first : table.init < 2 ^ 32 = omega (arith, all.init) in
    small-led table table.init near.steps state all first near.reached
