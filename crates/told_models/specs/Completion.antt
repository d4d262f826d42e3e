-- The sequential object of a table: what was told, and the reply `BAD` where nothing was told.
use Rattle.std.proofs.Common.{◌≡◌, ℕ, List, [], ◌∷◌, Option, Some, None, true, false, true≢false}
use Rattle.book_base.specs.declared.TheConstants.{BAD}
use Rattle.book_base.specs.SeqSpec.{SeqSpec}
use Rattle.told_models.specs.declared.table.Transition.{Transition}
use Rattle.told_models.specs.Table.{Table, told_step}

-- What an operation does at a list: it makes the transition where there is one, and else doesn't
-- change the list and has the reply `BAD`.
abbrev pub made_or_bad : List ℕ → Option Transition → List ℕ × ℕ
made_or_bad list (Some transition) = (transition.next ∷ [], transition.reply)
made_or_bad list None = (list, BAD)

-- The transition that was told of an operation at a list: a state is a list of one word.
abbrev pub step_at_list : Table → List ℕ → ℕ → Option Transition
step_at_list table [] op = None
step_at_list table (state ∷ []) op = told_step table state op
step_at_list table (state ∷ word ∷ words) op = None

-- The completion of a table is the sequential object that makes the told steps, and at each other
-- list and operation changes nothing and has the reply `BAD`.
abbrev pub completion : Table → SeqSpec
completion table = record {
  init = table.init ∷ [];
  next = λ list op. made_or_bad list (step_at_list table list op);
}

-- No operation word is unknown.
pub completion-knows_all : (table : Table) (list : List ℕ) (op : ℕ) → true ≡ false
    → (completion table).next list op ≡ (list, BAD)
completion-knows_all table list op unknown = absurd (true≢false unknown)
