-- A step of the table under the rule of its key, and what the caller that makes it then knows of
-- its local.
use Rattle.std.proofs.Common.{◌≡◌, ℕ, ◌<◌, [], Some, refl, sym, ap, ◌∙◌, subst}
use Rattle.atomic_table.specs.Table.{Me, Allows}
use Rattle.world_core.specs.Shape.{Meaning, Shape}
use Rattle.world_core.specs.Local.{Local}
use Rattle.world_core.specs.Event.{Event, local_after}
use Rattle.world_core.specs.Calls.{IsLocalOf}
use Rattle.row_table.specs.declared.plays.Key.{Key}
use Rattle.row_table.specs.declared.rows.Rows.{Rows}
use Rattle.row_table.specs.Shapes.{shape_for}
use Rattle.row_table.specs.Holders.{has, only}
use Rattle.row_table.specs.Seats.{View, the, Ruled, Together, Tells, TellsOfSome, Shows, Makes}
use Rattle.row_table.specs.Callers.{key_of}
use Rattle.row_table.proofs.Holders.{alone_here}
use Rattle.row_table.proofs.Keeping.{does, stores, learns, moved_here}

-- The key that a table has is the key of its rows.
pub key_told : {P : Type 0} (r : Rows P) → r.table.shared.key ≡ key_of r
key_told r = λ i.
    record { program = r.told i; callers = r.sized.2 i; cap = r.sized.3 i; objects = r.sized.4 i }

module _ {P : Type 0} (meaning : P → ℕ → ℕ → Meaning) (k told : Key P) (z : Shape) (same : told ≡ k)
    (shape : z ≡ shape_for meaning k) (slots id : ℕ) (me : Me (Unit {0}) View) where
  module _ (w who : ℕ) (e event : ℕ → Event) (mine : w ≡ who) (deed : e ≡ event) (word : ℕ)
      (l : Local) (here : has me.0 who ≡ Some l) where
    -- The rule of the table allows a change of a word that is an event of a caller, and its seat
    -- then knows the view after this event.
    pub does_as : (f : ℕ → ℕ) → Makes (shape_for meaning k) k.objects who l word f event
        → Allows (Ruled (shape_for meaning told) told.objects) slots id me word f
        (λ found after. Tells z w e me found after)
    does_as f m =
        subst (λ (d : Key P × (Shape × (ℕ × (ℕ → Event)))). Allows (Ruled (shape_for meaning d.0)
        d.0.objects) slots id me word f (λ found after. Tells d.1.0 d.1.1.0 d.1.1.1 me found after))
        (λ i. (sym same i, (sym shape i, (sym mine i, sym deed i))))
        (does (shape_for meaning k) k.objects slots id me who word l f event here m)

    -- The rule of the table allows a store that is an event of a caller, and its seat then knows
    -- the view after this event for some word that was found.
    pub stores_as : (new : ℕ) → Makes (shape_for meaning k) k.objects who l word (λ _. new) event
        → Allows (Ruled (shape_for meaning told) told.objects) slots id me word (λ _. new)
        (λ _ after. TellsOfSome z w e me after)
    stores_as new m =
        subst (λ (d : Key P × (Shape × (ℕ × (ℕ → Event)))).
        Allows (Ruled (shape_for meaning d.0) d.0.objects) slots id me word (λ _. new)
        (λ _ after. TellsOfSome d.1.0 d.1.1.0 d.1.1.1 me after))
        (λ i. (sym same i, (sym shape i, (sym mine i, sym deed i))))
        (stores (shape_for meaning k) k.objects slots id me who word new l event here m)

  -- The rule of the table allows a load that is no event, after which the locals of its seat are
  -- known to be those of one reachable world.
  pub learns_as : (word : ℕ) → Allows (Ruled (shape_for meaning told) told.objects) slots id me word
      (λ x. x) (λ _ after. Shows z me after)
  learns_as word =
      subst (λ (d : Key P × Shape). Allows (Ruled (shape_for meaning d.0) d.0.objects) slots id me
      word (λ x. x) (λ _ after. Shows d.1 me after))
      (λ i. (sym same i, sym shape i)) (learns (shape_for meaning k) k.objects slots id me word)

-- Where the locals of a view are those of one reachable world, the local that it has of a caller is
-- that caller's in a reachable world.
pub local_together : (s : Shape) (v : View) (who : ℕ) (l : Local) → Together s v → who < s.callers
    → has v who ≡ Some l → IsLocalOf s who l
local_together s v who l t low here =
    (t.world.locals, (t.world, t.reach, refl), low, t.locals_are who l here)

-- What a caller knows of its local after a step of its own: it is the one after the event, and the
-- one of this caller in a reachable world.
pub record Told (s : Shape) (who : ℕ) (me after : Me (Unit {0}) View) (event : Event) : Type 0 where
  pub local : the (has after.0 who) ≡ local_after s.callers (the (has me.0 who)) event
  pub reached : IsLocalOf s who (the (has after.0 who))

-- A caller whose seat has its local alone knows what `Told` says after a step of its own.
pub told_as : (s z : Shape) (who w : ℕ) (event e : ℕ → Event) (me after : Me (Unit {0}) View)
    (x : ℕ) → z ≡ s → w ≡ who → e ≡ event → me ≡ (only who (the (has me.0 who)), [])
    → who < s.callers → Tells z w e me x after → Told s who me after (event x)
told_as s z who w event e me after x shape mine deed alone low h =
    let t : Tells s who event me x after =
    subst (λ (d : Shape × (ℕ × (ℕ → Event))). Tells d.0 d.1.0 d.1.1 me x after)
    (λ i. (shape i, (mine i, deed i))) h in
    let l : Local = the (has me.0 who) in
    let here : has after.0 who ≡ Some (local_after s.callers l (event x)) =
    ap (λ (m : Me (Unit {0}) View). has m.0 who) t.done
    ∙ moved_here s.callers me.0 who l (event x) (alone_here me who l alone) in
    let is : the (has after.0 who) ≡ local_after s.callers l (event x) = ap the here in
    record {
      local = is;
      reached = subst (λ (m : Local). IsLocalOf s who m) (sym is)
          (local_together s after.0 who (local_after s.callers l (event x)) t.together low here);
    }
