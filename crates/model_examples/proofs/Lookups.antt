-- Steps that are found in a table.
use Rattle.std.proofs.Common.{◌≡◌, ℕ, Bool, cond, nat_eq, List, [], ◌∷◌, Some, inl, inr, sym, ap, subst, ◌∙◌}
use Rattle.std.specs.List.{AllByRecursion}
use Rattle.std.specs.Map.{lookup}
use Rattle.std.proofs.lemmas.Bool.{cases_Bool, and_parts, eqb-true}
use Rattle.std.proofs.lemmas.Option.{same_Some, none-some}
use Rattle.told_models.specs.declared.table.Transition.{Transition}
use Rattle.told_models.specs.Table.{is_same_pair}

-- what holds of each step of a list holds of each step that is found in it
pub found_step : (P : ℕ → ℕ → Transition → Type 0) (steps : List ((ℕ × ℕ) × Transition))
    → AllByRecursion (λ e. P e.0.0 e.0.1 e.1) steps → (state op : ℕ) (transition : Transition)
    → lookup (is_same_pair (state, op)) steps ≡ Some transition → P state op transition
found_step P [] all state op transition found = absurd (none-some transition found)
found_step P (e ∷ steps) all state op transition found =
    let later = lookup (is_same_pair (state, op)) steps in
    elim (cases_Bool (is_same_pair (state, op) e.0)) [
      | inl same ↦
          let parts = and_parts (nat_eq state e.0.0) (nat_eq op e.0.1) same in
          let is = same_Some e.1 transition
          (ap (λ (b : Bool). cond b (Some e.1) later) (sym same) ∙ found) in
          subst (λ (t : Transition). P state op t) is
          (subst (λ (i : ℕ). P i op e.1) (sym (eqb-true state e.0.0 parts.0))
          (subst (λ (j : ℕ). P e.0.0 j e.1) (sym (eqb-true op e.0.1 parts.1)) all.0))
      | inr apart ↦ found_step P steps all.1 state op transition
          (ap (λ (b : Bool). cond b (Some e.1) later) (sym apart) ∙ found)
    ]
