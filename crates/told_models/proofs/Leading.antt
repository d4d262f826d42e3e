-- Told steps that lead from one state to another.
use Rattle.std.proofs.Common.{◌≡◌, ℕ, ◌+◌, ◌<◌, ◌≤◌, List, [], ◌∷◌, ◌++◌, length, Some, refl, ap, ◌∙◌, arith}
use Rattle.std.proofs.lemmas.List.{length_push}
use Rattle.list_laws.proofs.Elements.{AllByRecursion-append}
use Rattle.told_models.specs.declared.table.Transition.{Transition}
use Rattle.told_models.specs.Table.{Table, told_step}
use Rattle.told_models.specs.Closed.{Leads, HaveWords, IsNear}

-- told steps and one more lead on
leads_on : (table : Table) (from : ℕ) (steps : List (ℕ × ℕ)) (to op : ℕ) (transition : Transition)
    → Leads table from steps to → told_step table to op ≡ Some transition
    → Leads table from (steps ++ (op, transition.reply) ∷ []) transition.next
leads_on table from [] to op transition leads told =
    (transition, ap (λ (s : ℕ). told_step table s op) leads ∙ told, refl, refl)
leads_on table from (step ∷ steps) to op transition leads told =
    (leads.0, leads.1, leads.2, leads_on table leads.0.next steps to op transition leads.3 told)

-- the state after one step more is near
pub near_step : (table : Table) (IsWord : ℕ → Type 0) (most state op : ℕ) (transition : Transition)
    → IsNear table IsWord most state → IsWord op → told_step table state op ≡ Some transition
    → IsNear table IsWord (most + 1) transition.next
near_step table IsWord most state op transition near word told = record {
  steps = near.steps ++ (op, transition.reply) ∷ [];
  few = omega (arith, near.few, length_push near.steps (op, transition.reply));
  words = AllByRecursion-append (λ (s : ℕ × ℕ). IsWord s.0) near.steps
      ((op, transition.reply) ∷ []) near.words (word, tt);
  reached = leads_on table table.init near.steps state op transition near.reached told;
}

-- steps whose words are among others' have those words
words_among : (IsWord IsOther : ℕ → Type 0) → ((op : ℕ) → IsWord op → IsOther op)
    → (steps : List (ℕ × ℕ)) → HaveWords IsWord steps → HaveWords IsOther steps
words_among IsWord IsOther among [] have = tt
words_among IsWord IsOther among (step ∷ steps) have =
    (among step.0 have.0, words_among IsWord IsOther among steps have.1)

-- a state that is near by some words is near by others that they are among, at any greater depth
pub near_among : (table : Table) (IsWord IsOther : ℕ → Type 0) (most more state : ℕ)
    → ((op : ℕ) → IsWord op → IsOther op) → most ≤ more → IsNear table IsWord most state
    → IsNear table IsOther more state
near_among table IsWord IsOther most more state among less near = record {
  steps = near.steps;
  few = omega (arith, near.few, less);
  words = words_among IsWord IsOther among near.steps near.words;
  reached = near.reached;
}

-- A state is reached by told steps, and then by a last one.
pub record LastStep (table : Table) (IsWord : ℕ → Type 0) (from most to : ℕ) : Type 0 where
  pub steps : List (ℕ × ℕ)
  pub few : length steps < most
  pub words : HaveWords IsWord steps
  pub state : ℕ
  pub led : Leads table from steps state
  pub op : ℕ
  pub word : IsWord op
  pub transition : Transition
  pub told : told_step table state op ≡ Some transition
  pub next : transition.next ≡ to

pub last_step : (table : Table) (IsWord : ℕ → Type 0) (from : ℕ) (step : ℕ × ℕ)
    (steps : List (ℕ × ℕ)) (to : ℕ) → HaveWords IsWord (step ∷ steps)
    → Leads table from (step ∷ steps) to → LastStep table IsWord from (length (step ∷ steps)) to
last_step table IsWord from step [] to have leads = record {
  steps = [];
  few = omega arith;
  words = tt;
  state = from;
  led = refl;
  op = step.0;
  word = have.0;
  transition = leads.0;
  told = leads.1;
  next = leads.3;
}
last_step table IsWord from step (second ∷ steps) to have leads =
    let rest = last_step table IsWord leads.0.next second steps to have.1 leads.3 in record {
      steps = step ∷ rest.steps;
      few = omega (arith, rest.few);
      words = (have.0, rest.words);
      state = rest.state;
      led = (leads.0, leads.1, leads.2, rest.led);
      op = rest.op;
      word = rest.word;
      transition = rest.transition;
      told = rest.told;
      next = rest.next;
    }
