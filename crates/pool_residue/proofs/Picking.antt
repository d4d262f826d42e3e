-- Held items, of which one is taken.
use Rattle.std.proofs.Common.{◌≡◌, ◌≢◌, ◌⊎◌, ℕ, List, sym, subst, inl, inr}
use Rattle.late_residue.specs.Reached.{Has}
use Rattle.pool_residue.specs.declared.container.Container.{Container}
use Rattle.pool_residue.specs.Items.{Item, AreDistinct}
use Rattle.pool_residue.specs.Description.{Description}
use Rattle.pool_residue.specs.Steps.{IsHeldTaken}
use Rattle.pool_residue.proofs.Distinct.{distinct-new, has-other, has-more}

module _ (container : Container) (one after : Description) (value : ℕ)
    (h : IsHeldTaken container one value after) where
  pub held_or_it : (item : Item) → Has one.held item → (h.item ≡ item) ⊎ Has after.held item
  held_or_it item held = elim (has-other h.picked.before h.picked.after h.item item
      (subst (λ (l : List Item). Has l item) h.picked.whole held)) [
        | inl is ↦ inl is
        | inr other ↦ inr (subst (λ (l : List Item). Has l item) (sym h.picked.others) other)
      ]

  pub was_held : (item : Item) → Has after.held item → Has one.held item
  was_held item held = subst (λ (l : List Item). Has l item) (sym h.picked.whole)
      (has-more h.picked.before h.picked.after h.item item
      (subst (λ (l : List Item). Has l item) h.picked.others held))

  pub held_new : AreDistinct one.held → (item : Item) → Has after.held item
      → item.call ≢ h.item.call
  held_new distinct item held = distinct-new h.picked.before h.picked.after h.item
      (subst AreDistinct h.picked.whole distinct) item
      (subst (λ (l : List Item). Has l item) h.picked.others held)
