-- Behaviours are found by their names.
use Rattle.std.proofs.Common.{rules, ◌≡◌, ◌≢◌, ℕ, List, [], ◌∷◌, bytes_eq, find, Option, Some, None, IfSome, IfNone, inl, inr, refl, sym, ap, subst, ◌∙◌}
use Rattle.std.proofs.lemmas.Bool.{cases_Bool, cond-true, cond-false}
use Rattle.std.proofs.lemmas.Option.{same_Some, none-some}
use Rattle.std.proofs.lemmas.Slice.Eq.{bytes_eq-Decides}
use Rattle.test_objects.specs.declared.behaviour.Behaviour.{Behaviour}
use Rattle.test_objects.specs.declared.behaviour.Behaviour.TheVariants.{Lawful, Tally, Cell, Lossy, Twice, Late, Invent, Split, Onepass}
use Rattle.test_objects.specs.Names.{behaviour_name}

-- All behaviours.
abbrev pub all_behaviours : List Behaviour
all_behaviours = Lawful ∷ Tally ∷ Cell ∷ Lossy ∷ Twice ∷ Late ∷ Invent ∷ Split ∷ Onepass ∷ []

-- the first of these behaviours with a name
abbrev pub first_named : List ℕ → List Behaviour → Option Behaviour
first_named name bs = find (λ b. bytes_eq (behaviour_name b) name) bs

named : (name : List ℕ) (bs : List Behaviour) (b : Behaviour) → first_named name bs ≡ Some b
    → behaviour_name b ≡ name
named name [] b found = absurd (none-some b found)
named name (a ∷ bs) b found = elim (cases_Bool (bytes_eq (behaviour_name a) name)) [
  | inl same ↦
      subst (λ (x : Behaviour). behaviour_name x ≡ name) (same_Some a b (sym
      (cond-true (bytes_eq (behaviour_name a) name) (Some a) (first_named name bs) same) ∙ found))
      ((bytes_eq-Decides (behaviour_name a) name).0 same)
  | inr other ↦ named name bs b (sym
      (cond-false (bytes_eq (behaviour_name a) name) (Some a) (first_named name bs) other) ∙ found)
]

own_name : (b : Behaviour) → first_named (behaviour_name b) all_behaviours ≡ Some b
unfolding behaviour_name
own_name Lawful = refl
own_name Tally = refl
own_name Cell = refl
own_name Lossy = refl
own_name Twice = refl
own_name Late = refl
own_name Invent = refl
own_name Split = refl
own_name Onepass = refl

-- A behaviour that is found by a name has it.
pub behaviour_found : (name : List ℕ) (o : Option Behaviour) → o ≡ first_named name all_behaviours
    → IfSome o (λ b. behaviour_name b ≡ name)
behaviour_found name None found = search rules
behaviour_found name (Some b) found = named name all_behaviours b (sym found)

-- No behaviour has a name by which none is found.
pub no_behaviour_found : (name : List ℕ) (o : Option Behaviour)
    → o ≡ first_named name all_behaviours → IfNone o ((b : Behaviour) → behaviour_name b ≢ name)
no_behaviour_found name None found =
    λ b same. none-some b (found ∙ ap (λ n. first_named n all_behaviours) (sym same) ∙ own_name b)
no_behaviour_found name (Some b) found = search rules
