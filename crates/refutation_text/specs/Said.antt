-- What the lines of a refutation say, apart from how it is stored.
use Rattle.std.specs.Prelude.{ℕ, Bool, true, false, List, map}
use Rattle.book_base.specs.declared.call.Call.{Call}
use Rattle.refutations.specs.declared.entry.Entry.{Entry}
use Rattle.pair_refutations.specs.declared.entry.PairEntry.{PairEntry}
use Rattle.level_refutations.specs.Said.{EntrySaid, entries_said}
use Rattle.refutation_text.specs.declared.refutation.Step.{Step}
use Rattle.refutation_text.specs.declared.refutation.Step.TheVariants as steps
use Rattle.refutation_text.specs.declared.refutation.Ending.{Ending}
use Rattle.refutation_text.specs.declared.refutation.Ending.TheVariants as endings

-- What a step says: a count for each of 16 callers; keys, and whether the calls of these keys go,
-- or those of all others; a call that goes; or the calls that stay.
pub data StepSaid : Type 0 where
  At : List ℕ → StepSaid
  Keys : Bool → List ℕ → StepSaid
  Leave : Call → StepSaid
  Keep : List Call → StepSaid

-- What an ending says: that the reply of a call is impossible; that more takes show a value up to a
-- moment than puts of it begin up to it; that a call finds nothing although puts of some values are
-- left; that the entries of a list, of pairs of calls and a state or of standings, make it closed; or
-- that the entries of a table of levels do.
pub data EndingSaid : Type 0 where
  Impossible : Call → EndingSaid
  Takes : ℕ → ℕ → EndingSaid
  Find : Call → List ℕ → EndingSaid
  Closed : List Entry → EndingSaid
  Pairs : List PairEntry → EndingSaid
  Levels : List EntrySaid → EndingSaid

-- what a line after the title says
pub data LineSaid : Type 0 where
  StepLine : StepSaid → LineSaid
  ImpossibleLine : Call → LineSaid
  TakesLine : ℕ → ℕ → LineSaid
  FindLine : Call → List ℕ → LineSaid
  PlainLine : LineSaid
  PairsLine : LineSaid
  LevelsLine : LineSaid
  ItemLine : Entry → LineSaid
  MoveLine : PairEntry → LineSaid
  TableLine : EntrySaid → LineSaid
  EndLine : LineSaid

-- what a stored step says
abbrev pub step_said : Step → StepSaid
step_said (steps.At counts) = At counts
step_said (steps.Without keys) = Keys true keys.items
step_said (steps.Only keys) = Keys false keys.items
step_said (steps.Leave call) = Leave call
step_said (steps.Keep calls) = Keep calls.items

-- what stored steps say
abbrev pub steps_said : List Step → List StepSaid
steps_said steps = map step_said steps

-- what a stored ending says
abbrev pub ending_said : Ending → EndingSaid
ending_said (endings.Impossible call) = Impossible call
ending_said (endings.CountsTakes value moment) = Takes value moment
ending_said (endings.CountsFind caller number values) =
    Find (record { caller = caller; number = number }) values.items
ending_said (endings.Closed entries) = Closed entries.items
ending_said (endings.Pairs entries) = Pairs entries.items
ending_said (endings.Levels entries) = Levels (entries_said entries.items)
