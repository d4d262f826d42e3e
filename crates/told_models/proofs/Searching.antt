-- A search through the states of a table, breadth first, finds all near ones.
use Rattle.std.proofs.Common.{◌≡◌, ℕ, zero, suc, ◌+◌, ◌<◌, ◌≤◌, nat_eq, List, [], ◌∷◌, length, get_or, slice_get, Contains, Some, refl, sym, ap, subst, ◌∙◌, inl, inr, arith}
use Rattle.std.proofs.lemmas.Bool.{cases_lt}
use Rattle.std.proofs.lemmas.Option.{same_Some, slice_get-get_or}
use Rattle.indexmap.specs.IndexSet.{insert_key}
use Rattle.told_models.specs.declared.table.Transition.{Transition}
use Rattle.told_models.specs.Table.{Table, told_step}
use Rattle.told_models.specs.Closed.{Leads, HaveWords, IsNear, IsClosedTo}
use Rattle.told_models.specs.Search.{Continues, LeadsInto, AreExpanded, AreNear}
use Rattle.told_models.proofs.Leading.{near_step, near_among, last_step}
use Rattle.told_models.proofs.Inserting.{place_of, element_at, continues_contains, continues_length, insert_continues, insert_contains, insert_cases}

-- a step that leads into some states leads into more
pub leads_into-more : (table : Table) (old new : List ℕ) (state op : ℕ) → Continues old new
    → LeadsInto table old state op → LeadsInto table new state op
leads_into-more table old new state op longer leads =
    (leads.0, leads.1, continues_contains old new leads.0.next longer leads.2)

-- what stands at a place in a list stands there in one that it continues, if it is so long
was_at : (old new : List ℕ) (k state : ℕ) → Continues old new → k < length old
    → slice_get new k ≡ Some state → slice_get old k ≡ Some state
was_at old new k state longer inside at =
    let was = slice_get-get_or old k 0 inside in
    was ∙ (sym (longer k (get_or old k 0) was) ∙ at)

-- states that are expanded stay expanded in a longer list
expanded-longer : (table : Table) (ops old new : List ℕ) (from to : ℕ) → Continues old new
    → to ≤ length old → AreExpanded table ops old from to → AreExpanded table ops new from to
expanded-longer table ops old new from to longer within before k state op least less at among =
    leads_into-more table old new state op longer
    (before k state op least less
    (was_at old new k state longer (omega (arith, less, within)) at) among)

-- one state after another is expanded
pub expanded-next : (table : Table) (ops old new : List ℕ) (first k state : ℕ) → Continues old new
    → k < length old → slice_get old k ≡ Some state
    → ((op : ℕ) → Contains ops op → LeadsInto table new state op)
    → AreExpanded table ops old first k → AreExpanded table ops new first (k + 1)
expanded-next table ops old new first k state longer inside here leads before j other op least less
    at among =
    elim (cases_lt j k) [
      | inl earlier ↦
          expanded-longer table ops old new first k longer (omega (arith, inside)) before
          j other op least earlier at among
      | inr later ↦
          let same : k ≡ j = omega (arith, less, later) in
          let is : state ≡ other = same_Some state other (sym (longer k state here)
          ∙ ap (slice_get new) same ∙ at) in
          subst (λ (s : ℕ). LeadsInto table new s op) is (leads op among)
    ]

-- the states from one place to a second and from there to a third are expanded
expanded-joined : (table : Table) (ops states : List ℕ) (from middle to : ℕ)
    → AreExpanded table ops states from middle → AreExpanded table ops states middle to
    → AreExpanded table ops states from to
expanded-joined table ops states from middle to before after k state op least less at among =
    elim (cases_lt k middle) [
      | inl earlier ↦ before k state op least earlier at among
      | inr later ↦ after k state op later less at among
    ]

-- near states are near at a greater depth
pub near-more : (table : Table) (ops states : List ℕ) (most : ℕ) → AreNear table ops most states
    → AreNear table ops (most + 1) states
near-more table ops states most near state has = near_among table (Contains ops) (Contains ops) most
    (most + 1) state (λ op is. is) (omega arith) (near state has)

-- the step of one word more is told, and leads to a state that is put in
pub expanded_at-more : (table : Table) (ops states : List ℕ) (state k op : ℕ)
    (transition : Transition) → slice_get ops k ≡ Some op
    → told_step table state op ≡ Some transition
    → ((j word : ℕ) → j < k → slice_get ops j ≡ Some word → LeadsInto table states state word)
    → (j word : ℕ) → j < k + 1 → slice_get ops j ≡ Some word
    → LeadsInto table (insert_key nat_eq states transition.next) state word
expanded_at-more table ops states state k op transition here told before j word less at =
    elim (cases_lt j k) [
      | inl earlier ↦ leads_into-more table states (insert_key nat_eq states transition.next) state
          word (insert_continues states transition.next) (before j word earlier at)
      | inr later ↦
          let same : k ≡ j = omega (arith, less, later) in
          let is : op ≡ word = same_Some op word (sym here ∙ ap (slice_get ops) same ∙ at) in
          subst (λ (w : ℕ).
          LeadsInto table (insert_key nat_eq states transition.next) state w) is
          (transition, told, insert_contains states transition.next)
    ]

-- this state is near where the state before it was nearer
pub near-insert : (table : Table) (ops states : List ℕ) (state k op most : ℕ)
    (transition : Transition) → slice_get ops k ≡ Some op
    → told_step table state op ≡ Some transition → IsNear table (Contains ops) most state
    → AreNear table ops (most + 1) states
    → AreNear table ops (most + 1) (insert_key nat_eq states transition.next)
near-insert table ops states state k op most transition here told near before other has =
    elim (insert_cases states transition.next other has) [
      | inl old ↦ before other old
      | inr is ↦ subst (IsNear table (Contains ops) (most + 1)) is
          (near_step table (Contains ops) most state op transition near (element_at ops k op here)
          told)
    ]

-- the step of each word of a list leads on where those at all its places do
pub told_at_all : (table : Table) (ops states : List ℕ) (state k op : ℕ) → length ops ≤ k
    → ((j word : ℕ) → j < k → slice_get ops j ≡ Some word → LeadsInto table states state word)
    → Contains ops op → LeadsInto table states state op
told_at_all table ops states state k op all told among =
    let at = place_of ops op among in told at.0 op (omega (arith, at.1, all)) at.2

-- a state of a round was found in the rounds before
pub found_before : (old new : List ℕ) (k state : ℕ) → Continues old new → k < length old
    → slice_get new k ≡ Some state → Contains old state
found_before old new k state longer inside at =
    element_at old k state (was_at old new k state longer inside at)

-- After so many rounds of a search the states before `first` are expanded, each state that fewer
-- steps reach is one of these, and no more steps reach each state found.
pub record IsSearched (table : Table) (ops states : List ℕ) (first rounds : ℕ) : Type 0 where
  pub begun : Contains states table.init
  pub within : first ≤ length states
  pub near : AreNear table ops (rounds + 1) states
  pub expanded : AreExpanded table ops states 0 first
  pub reached : (state : ℕ) → IsNear table (Contains ops) rounds state
      → (k : ℕ) × (k < first) × (slice_get states k ≡ Some state)

pub searched-first : (table : Table) (ops : List ℕ)
    → IsSearched table ops (table.init ∷ []) 0 0
searched-first table ops = record {
  begun = (0, omega arith, refl);
  within = omega arith;
  near = λ state has. record {
    steps = [];
    few = omega arith;
    words = tt;
    reached = is_first has.0 state has.1 has.2;
  };
  expanded = λ k state op from to at among. absurd (omega (arith, to));
  reached = λ state near. absurd (omega (arith, near.few));
}
  where
    is_first : (k state : ℕ) → k < 1 → get_or (table.init ∷ []) k state ≡ state
        → table.init ≡ state
    is_first zero state less at = at
    is_first (suc k) state less at = absurd (omega (arith, less))

-- the next round of a search
pub searched-more : (table : Table) (ops old new : List ℕ) (first rounds : ℕ)
    → IsSearched table ops old first rounds → Continues old new
    → AreExpanded table ops new first (length old)
    → (AreNear table ops (rounds + 1) old → AreNear table ops (rounds + 1 + 1) new)
    → IsSearched table ops new (length old) (rounds + 1)
searched-more table ops old new first rounds searched longer expanded near = record {
  begun = continues_contains old new table.init longer searched.begun;
  within = continues_length old new longer;
  near = near searched.near;
  expanded = expanded-joined table ops new 0 first (length old)
      (expanded-longer table ops old new 0 first longer searched.within searched.expanded) expanded;
  reached =
      λ state is. let at = place_of old state (found state is.steps is.few is.words is.reached)
      in (at.0, at.1, longer at.0 state at.2);
}
  where
    found : (state : ℕ) (steps : List (ℕ × ℕ)) → length steps < rounds + 1
        → HaveWords (Contains ops) steps → Leads table table.init steps state → Contains old state
    found state [] few have leads = subst (Contains old) leads searched.begun
    found state (step ∷ steps) few have leads =
        let last = last_step table (Contains ops) table.init step steps state have leads in
        let at = searched.reached last.state (record {
          steps = last.steps;
          few = omega (arith, few, last.few);
          words = last.words;
          reached = last.led;
        }) in
        let led = searched.expanded at.0 last.state last.op (omega arith) at.1 at.2 last.word in
        subst (Contains old) (ap (λ (t : Transition). t.next)
        (same_Some led.0 last.transition (sym led.1 ∙ last.told)) ∙ last.next) led.2

-- a table is closed to the number of rounds of a search
pub searched-closed : (table : Table) (ops states : List ℕ) (first rounds : ℕ)
    → IsSearched table ops states first rounds → IsClosedTo table (Contains ops) rounds
searched-closed table ops states first rounds searched state op near among =
    let at = searched.reached state near in
    let led = searched.expanded at.0 state op (omega arith) at.1 at.2 among in
    (led.0, led.1)

-- a table is closed to each depth where the initial state is among some states that are expanded
pub expanded-closed : (table : Table) (ops states : List ℕ) (most : ℕ)
    → Contains states table.init → AreExpanded table ops states 0 (length states)
    → IsClosedTo table (Contains ops) most
expanded-closed table ops states most begun expanded state op near among =
    let led = follow state op (stays table.init near.steps state begun near.words near.reached)
    among in
    (led.0, led.1)
  where
    follow : (state op : ℕ) → Contains states state → Contains ops op
        → LeadsInto table states state op
    follow state op has among =
        let at = place_of states state has in
        expanded at.0 state op (omega arith) at.1 at.2 among

    stays : (from : ℕ) (steps : List (ℕ × ℕ)) (to : ℕ) → Contains states from
        → HaveWords (Contains ops) steps → Leads table from steps to → Contains states to
    stays from [] to there have leads = subst (Contains states) leads there
    stays from (step ∷ steps) to there have leads =
        let led = follow from step.0 there have.0 in
        stays leads.0.next steps to
        (subst (Contains states)
        (ap (λ (t : Transition). t.next) (same_Some led.0 leads.0 (sym led.1 ∙ leads.1))) led.2)
        have.1 leads.3

-- a search ends where all states are expanded
pub searched-all : (table : Table) (ops states : List ℕ) (first rounds most : ℕ)
    → IsSearched table ops states first rounds → first ≡ length states
    → IsClosedTo table (Contains ops) most
searched-all table ops states first rounds most searched all =
    expanded-closed table ops states most searched.begun
    (subst (AreExpanded table ops states 0) all searched.expanded)
