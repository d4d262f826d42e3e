-- Objects whose calls take effect one at a time, each between its announcement and its return.
use Rattle.std.specs.Prelude.{◌≡◌, ◌≢◌, ℕ, ◌<◌, List, ◌++◌, length, Option, Some, None, slice_get, IsTrue, ◌⊎◌, Contains}
use Rattle.book_base.specs.declared.call.Call.{Call}
use Rattle.book_base.specs.SeqSpec.{SeqSpec}
use Rattle.world_core.specs.Shape.{Shape}
use Rattle.world_core.specs.World.{World, Step, start, after, local_of, is_possible, IsRun, end_of, IsReachable}
use Rattle.world_core.specs.History.{Done, IsLinearization, IsLinearizable, history_of, call_of}
use Rattle.world_laws.specs.Views.{return_of}

-- How an object's effects are read off a world: the list that the sequential object has there, and
-- the reply of each call that has taken effect.
pub record Effects : Type 0 where
  pub list : World → List ℕ
  pub reply : World → Call → Option ℕ

-- No call takes effect between two worlds: the list and the reply of each call are the same in
-- both.
pub record IsQuiet (e : Effects) (w v : World) : Type 0 where
  pub list : e.list v ≡ e.list w
  pub replies : (call : Call) → e.reply v call ≡ e.reply w call

-- A call with this operation has been announced.
pub record IsAnnounced (s : Shape) (w : World) (call : Call) (operation : ℕ) : Type 0 where
  pub caller : call.caller < s.callers
  pub is : slice_get (local_of w call.caller).operations call.number ≡ Some operation

-- One call takes effect between two worlds. It has been announced, it had no reply before, and it
-- has one after; the sequential object's operation on the list gives the next list and this reply;
-- and no other call's reply changes.
pub record TakesEffect (next : List ℕ → ℕ → List ℕ × ℕ) (s : Shape) (e : Effects) (w v : World)
    (d : Done) : Type 0 where
  pub announced : IsAnnounced s v d.call d.operation
  pub before : e.reply w d.call ≡ None
  pub now : e.reply v d.call ≡ Some d.reply
  pub others : (call : Call) → call ≢ d.call → e.reply v call ≡ e.reply w call
  pub list : (next (e.list w) d.operation).0 ≡ e.list v
  pub reply : (next (e.list w) d.operation).1 ≡ d.reply

-- At most one call takes effect between two worlds.
abbrev pub IsQuietOrTakesEffect : (List ℕ → ℕ → List ℕ × ℕ) → Shape → Effects → World
    → World → Type 0
IsQuietOrTakesEffect next s e w v = IsQuiet e w v ⊎ ((d : Done) × TakesEffect next s e w v d)

-- The calls of every run take effect one at a time, on the lists of a sequential object from its
-- first list on; and a call that returns has taken effect before, with the reply that it returns.
pub record HasEffects (spec : SeqSpec) (s : Shape) (e : Effects) : Type 0 where
  -- at the start the sequential object has its first list, and no call has taken effect
  pub first : e.list (start s) ≡ spec.init
  pub none : (call : Call) → e.reply (start s) call ≡ None
  -- at most one call takes effect at each step
  pub step : (w : World) (step : Step) → IsReachable s w → IsTrue (is_possible s w step)
      → IsQuietOrTakesEffect spec.next s e w (after s w step)
  -- a call that returns has taken effect, with the reply that it returns
  pub returns : (w : World) (i x reply : ℕ) → IsReachable s w
      → IsTrue (is_possible s w (return_of i x reply))
      → e.reply w (call_of i (length (local_of w i).replies)) ≡ Some reply

-- At some moment of a run call a has taken effect and call b hasn't.
pub record TakesEffectBefore (s : Shape) (e : Effects) (steps : List Step)
    (a b : Call) : Type 0 where
  pub before : List Step
  pub later : List Step
  pub run : before ++ later ≡ steps
  pub reply : ℕ
  pub first : e.reply (end_of s before) a ≡ Some reply
  pub second : e.reply (end_of s before) b ≡ None

-- An order is that of a run's effects: it has just the calls that have taken effect, each with its
-- reply, and a call that comes before another took effect before it.
pub record IsOrderOfEffects (s : Shape) (e : Effects) (steps : List Step)
    (order : List Done) : Type 0 where
  pub replied : (d : Done) → Contains order d → e.reply (end_of s steps) d.call ≡ Some d.reply
  pub stands : (call : Call) (reply : ℕ) → e.reply (end_of s steps) call ≡ Some reply
      → (operation : ℕ)
      × Contains order (record { call = call; operation = operation; reply = reply })
  pub ordered : (p q : ℕ) (a b : Done) → p < q → slice_get order p ≡ Some a
      → slice_get order q ≡ Some b → TakesEffectBefore s e steps a.call b.call

-- The object history of a run has a linearization in the order of the run's effects.
abbrev pub IsLinearizedByEffects : SeqSpec → Shape → Effects → List Step → Type 0
IsLinearizedByEffects spec s e steps =
    (order : List Done) × IsLinearization spec (history_of s steps) order
    × IsOrderOfEffects s e steps order

-- Where calls take effect one at a time, the object history of each run is linearizable.
abbrev pub EffectsLinearize : Type 0
EffectsLinearize =
    (spec : SeqSpec) (s : Shape) (e : Effects)
    → HasEffects spec s e
    → (steps : List Step) → IsRun s steps → IsLinearizable spec (history_of s steps)

-- Where calls take effect one at a time, the order of effects linearizes the object history of each
-- run.
abbrev pub TheOrderIsOfEffects : Type 0
TheOrderIsOfEffects =
    (spec : SeqSpec) (s : Shape) (e : Effects)
    → HasEffects spec s e
    → (steps : List Step) → IsRun s steps → IsLinearizedByEffects spec s e steps
