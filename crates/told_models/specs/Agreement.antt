-- Which sequential objects agree with a table of what was told.
use Rattle.std.specs.Prelude.{◌≡◌, ℕ, List, Some}
use Rattle.book_base.specs.SeqSpec.{SeqSpec}
use Rattle.book_base.specs.Reaching.{Leaves}
use Rattle.told_models.specs.declared.table.Transition.{Transition}
use Rattle.told_models.specs.Table.{Table, told_step, IsPromised}

-- A sequential object agrees with a table, where `list_of` gives the object's list for the number
-- of each state: it begins with the list of the initial state, each told step is one that it makes,
-- and it keeps each promise: the operation changes no list at which it has the reply.
pub record AgreesBy (list_of : ℕ → List ℕ) (table : Table) (spec : SeqSpec) : Type 0 where
  pub init : spec.init ≡ list_of table.init
  pub steps : (state op : ℕ) (transition : Transition) → told_step table state op ≡ Some transition
      → spec.next (list_of state) op ≡ (list_of transition.next, transition.reply)
  pub promises : (op reply : ℕ) → IsPromised table op reply → Leaves spec.next op reply

-- A sequential object agrees with a table where some numbering of its lists makes it agree.
abbrev pub Agrees : Table → SeqSpec → Type 0
Agrees table spec = (list_of : ℕ → List ℕ) × AgreesBy list_of table spec
