-- What was told of an object stays true as more is told.
use Rattle.std.proofs.Common.{◌≡◌, ℕ, ◌<◌, Bool, true, false, true≢false, IsTrue, List, [], ◌∷◌, ◌++◌, length, slice_get, if◌then◌else◌, Some, inl, inr, refl, sym, ap, subst, ◌∙◌, arith}
use Rattle.std.specs.List.{list_any}
use Rattle.std.specs.Map.{lookup}
use Rattle.std.specs.Option.{option_map_or}
use Rattle.std.proofs.lemmas.Option.{none-some, same_Some, slice_get_within}
use Rattle.std.proofs.lemmas.List.{length_push}
use Rattle.indexmap.specs.IndexSet.{insert_key}
use Rattle.list_laws.proofs.Prefixes.{slice_get-append_within}
use Rattle.told_models.specs.declared.table.Transition.{Transition}
use Rattle.told_models.specs.Table.{Table, is_same_pair, told_step, IsPromised, TellsStep, TakesPromise}
use Rattle.told_models.specs.Closed.{Leads}
use Rattle.told_models.proofs.Telling.{same_or_apart}
use Rattle.own_objects.specs.Objects.{IsReadOnlyWith}
use Rattle.own_objects.specs.Told.{AreBelow, value_at, MakesAmong, IsToldOf, Continues}

-- the keys of a set continue those before an insertion
pub continues-insert : {T : Type 0} (eq : T → T → Bool) (keys : List T) (key : T)
    → Continues keys (insert_key eq keys key)
continues-insert {T} eq keys key = by (list_any (eq key) keys)
  where
    by : (b : Bool) → Continues keys (if b then keys else keys ++ key ∷ [])
    by true = record { longer = omega arith; same = λ k inside. refl }
    by false = record {
      longer = omega (arith, length_push keys key);
      same = λ k inside. slice_get-append_within keys (key ∷ []) k inside;
    }

-- told steps lead to a number below the count, from one below it
pub leads_below : (count : ℕ) (table : Table) → AreBelow count table → (from : ℕ)
    (steps : List (ℕ × ℕ)) (to : ℕ) → from < count → Leads table from steps to → to < count
leads_below count table below from [] to inside leads = subst (λ s. s < count) leads inside
leads_below count table below from (step ∷ steps) to inside leads =
    leads_below count table below leads.0.next steps to
    (below.steps from step.0 leads.0 leads.1).1 leads.3

module _ {T S : Type 0} (value : T → S) (init : S) (next : S → ℕ → S × ℕ) where
  -- of a first state nothing need be told
  pub told_at_first : (state : T) → value state ≡ init
      → IsToldOf value init next (state ∷ []) (record { init = 0; steps = []; promises = [] })
  told_at_first state is = (
    record {
      begins = is;
      steps = λ from op transition told. absurd (none-some transition told);
      promises = λ op reply promised. absurd (true≢false (sym promised));
    },
    record {
      begins = omega arith;
      steps = λ from op transition told. absurd (none-some transition told);
    },
  )

  -- with more states
  pub told_with_states : (old new : List T) (table : Table) → Continues old new
      → IsToldOf value init next old table → IsToldOf value init next new table
  told_with_states old new table continues told =
      let at : (k : ℕ) → k < length old → value_at value init new k ≡ value_at value init old k =
      λ k inside. ap (λ o. option_map_or value o init) (continues.same k inside) in (
        record {
          begins = at table.init told.1.begins ∙ told.0.begins;
          steps = λ state op transition is.
              let below = told.1.steps state op transition is in
              ap (λ v. next v op) (at state below.0) ∙ told.0.steps state op transition is
              ∙ ap (λ v. (v, transition.reply)) (sym (at transition.next below.1));
          promises = told.0.promises;
        },
        record {
          begins = omega (arith, told.1.begins, continues.longer);
          steps = λ state op transition is.
              let below = told.1.steps state op transition is in
              (omega (arith, below.0, continues.longer), omega (arith, below.1, continues.longer));
        },
      )

  -- with a promise that the object keeps
  pub told_with_promise : (states : List T) (old new : Table) (op reply : ℕ)
      → TakesPromise old new op reply → IsReadOnlyWith next op reply
      → IsToldOf value init next states old → IsToldOf value init next states new
  told_with_promise states old new op reply takes leaves told =
      let same : (state word : ℕ) → told_step old state word ≡ told_step new state word =
      λ state word. ap (lookup (is_same_pair (state, word))) (sym takes.steps) in (
        record {
          begins = ap (value_at value init states) takes.init ∙ told.0.begins;
          steps = λ state word transition is.
              told.0.steps state word transition (same state word ∙ is);
          promises = λ word other promised. elim (same_or_apart op reply word other) [
            | inl one ↦
                subst (λ n. IsReadOnlyWith next n other) (sym one.0)
                (subst (λ n. IsReadOnlyWith next op n) (sym one.1) leaves)
            | inr apart ↦
                told.0.promises word other ((takes.others word other apart).0 promised)
          ];
        },
        record {
          begins = subst (λ n. n < length states) (sym takes.init) told.1.begins;
          steps = λ state word transition is.
              told.1.steps state word transition (same state word ∙ is);
        },
      )

  -- with a step that the object makes
  pub told_with_step : (states : List T) (old new : Table) (state op : ℕ) (transition : Transition)
      → TellsStep old new state op transition
      → MakesAmong value init next states state op transition
      → IsToldOf value init next states old → IsToldOf value init next states new
  told_with_step states old new state op transition tells makes told =
      let state_of : ℕ → S = value_at value init states in
      let one_step : (other word : ℕ) (made : Transition) → other ≡ state → word ≡ op
      → told_step new other word ≡ Some made → made ≡ transition =
      λ other word made is_state is_op is. same_Some made transition (sym is
      ∙ ap (λ s. told_step new s word) is_state ∙ ap (told_step new state) is_op ∙ tells.told) in (
        record {
          begins = ap state_of tells.init ∙ told.0.begins;
          steps = λ other word made is. elim (same_or_apart state op other word) [
            | inl one ↦
                ap (λ s. next (state_of s) word) one.0 ∙ ap (next (state_of state)) one.1 ∙ makes.0
                ∙ ap (λ (t : Transition). (state_of t.next, t.reply))
                (sym (one_step other word made one.0 one.1 is))
            | inr apart ↦ told.0.steps other word made (sym (tells.others other word apart) ∙ is)
          ];
          promises = λ word reply promised. told.0.promises word reply
              (subst (λ pairs. IsTrue (list_any (is_same_pair (word, reply)) pairs))
              tells.promises promised);
        },
        record {
          begins = subst (λ n. n < length states) (sym tells.init) told.1.begins;
          steps = λ other word made is. elim (same_or_apart state op other word) [
            | inl one ↦ (
              subst (λ n. n < length states) (sym one.0) makes.1,
              subst (λ (t : Transition). t.next < length states)
                  (sym (one_step other word made one.0 one.1 is)) makes.2,
            )
            | inr apart ↦ told.1.steps other word made (sym (tells.others other word apart) ∙ is)
          ];
        },
      )

  -- the step of a read-only operation leads back to its own state
  pub read_only_step : (states : List T) (table : Table) (state op reply : ℕ) (after : S)
      → IsToldOf value init next states table → IsPromised table op reply → state < length states
      → next (value_at value init states state) op ≡ (after, reply)
      → MakesAmong value init next states state op (record { next = state; reply = reply })
  read_only_step states table state op reply after told promised from made = (
    λ i. (
      told.0.promises op reply promised (value_at value init states state)
          (ap (λ (p : S × ℕ). p.1) made) i,
      (made i).1,
    ),
    from,
    from,
  )

  -- a step leads to the index of the state after it
  pub numbered_step : (old new : List T) (state op reply number : ℕ) (found after : T)
      → Continues old new → state < length old → slice_get new number ≡ Some found
      → value found ≡ value after
      → next (value_at value init old state) op ≡ (value after, reply)
      → MakesAmong value init next new state op (record { next = number; reply = reply })
  numbered_step old new state op reply number found after continues from at is made =
      let there : value_at value init new number ≡ value after =
      ap (λ o. option_map_or value o init) at ∙ is in
      let here : value_at value init new state ≡ value_at value init old state =
      ap (λ o. option_map_or value o init) (continues.same state from) in (
        ap (λ v. next v op) here ∙ made ∙ ap (λ v. (v, reply)) (sym there),
        omega (arith, from, continues.longer),
        slice_get_within new number found at,
      )
