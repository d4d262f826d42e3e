-- The rule of the table of shared words, and what a seat learns by a step.
use Rattle.std.specs.Prelude.{◌≡◌, ℕ, ◌<◌, List, length, slice_index, slice_set, All, Some}
use mathlib.Core.List.{IsPrefix}
use Rattle.atomic_table.specs.Table.{State, Me}
use Rattle.row_table.specs.Holders.{has, AreHeld}
use Rattle.shared_words.specs.Deeds.{Deed}
use Rattle.shared_words.specs.Histories.{Access, View, deeds_by, word_at, IsLawfulHistory, IsAfterAccess}

-- Caller `i`, one of n, knows `h`, a prefix of the history that has all deeds of this caller.
pub record Knows (n : ℕ) (history : List Access) (i : ℕ) (h : List Access) : Type 0 where
  pub caller : i < n
  pub prefix : IsPrefix h history
  pub own : deeds_by i history ≡ deeds_by i h

-- There is one lawful history of accesses by the n callers alone. The table has `count` words,
-- those that this history leaves. Of each caller at most one seat knows a history, and that is a
-- prefix of the whole one with all deeds of this caller.
pub record HaveOneHistory (may : ℕ → Deed → Type 0) (n count : ℕ) (words : List ℕ)
    (views : List View) : Type 0 where
  pub history : List Access
  pub long : length words ≡ count
  pub left : (place : ℕ) → place < count → slice_index words place ≡ word_at place history
  pub callers : All (λ a. a.caller < n) history
  pub lawful : IsLawfulHistory may history
  pub hands : AreHeld (Knows n history) views

-- The rule of the table: its words and its views have one history, as `HaveOneHistory` says.
abbrev pub Ruled : (ℕ → Deed → Type 0) → ℕ → ℕ → State (Unit {0}) View → Type 0
Ruled may n count t = HaveOneHistory may n count t.words t.views

-- A step is an access of a caller that is with the seat: the seat learns the history up to this
-- access, which is lawful.
pub record Accesses (may : ℕ → Deed → Type 0) (me after : Me (Unit {0}) View)
    (deed : Deed) : Type 0 where
  pub who : ℕ
  pub before : List Access
  pub next : List Access
  pub here : has me.0 who ≡ Some before
  pub moved : after ≡ (slice_set me.0 who (Some next), me.1)
  pub made : IsAfterAccess who deed before next
  pub lawful : IsLawfulHistory may next
