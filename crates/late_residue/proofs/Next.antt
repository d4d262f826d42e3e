-- The descriptions after a return, from those before it.
use Rattle.std.proofs.Common.{◌≡◌, ◌⊎◌, ℕ, Bool, ◌+◌, ◌<◌, ◌≤◌, List, [], ◌∷◌, ◌++◌, length, Some, slice_get, sym, subst, inl, inr, arith}
use Rattle.std.proofs.lemmas.Option.{slice_get_within}
use Rattle.book_base.specs.SeqSpec.{SeqSpec}
use Rattle.book_base.specs.declared.TheConstants.{MAX_ROOM}
use Rattle.streams.specs.Stream.{StreamEvent, Returned, IsWaiting, IsValidStream}
use Rattle.residue_laws.specs.Residue.{Configuration, IsInResidue}
use Rattle.late_residue.specs.declared.open_call.OpenCall.{OpenCall}
use Rattle.late_residue.specs.declared.reached.Reached.{Reached}
use Rattle.late_residue.specs.Description.{Description}
use Rattle.late_residue.specs.Reached.{Has, description_of, descriptions_of}
use Rattle.late_residue.specs.Known.{MayHaveReply}
use Rattle.late_residue.specs.Meaning.{AreMeant}
use Rattle.late_residue.specs.Placing.{IsTaken, LeadsOn}
use Rattle.late_residue.specs.LateOnes.{AreOpen, AreLate, AreAdded, IsBeyond}
use Rattle.late_residue.proofs.Items.{has-none, map-at}
use Rattle.late_residue.proofs.Meanings.{least, means_least}
use Rattle.late_residue.proofs.Handling.{added_none, added_on, added_given, handled-more, below_next, at_all, all_of_one}
use Rattle.late_residue.proofs.Taking.{late_after}

-- The first of the descriptions before a return are taken, as many as a number says.
pub record AreBegun (spec : SeqSpec) (calls : List OpenCall) (returning : OpenCall) (reply : ℕ)
    (before : List Reached) (ones left : List Description) (k : ℕ) : Type 0 where
  pub added : AreAdded spec calls returning reply (descriptions_of before) [] [] ones left
  pub taken : (j : ℕ) (one : Description) → j < k → slice_get (descriptions_of before) j ≡ Some one
      → IsTaken spec.next returning reply ones left one

module _ (spec : SeqSpec) (calls : List OpenCall) (returning : OpenCall) (reply : ℕ)
    (before : List Reached) where
  pub begun_none : (ones left : List Description) → ones ≡ [] → left ≡ []
      → AreBegun spec calls returning reply before ones left 0
  begun_none ones left none nothing = record {
    added = subst (λ (l : List Description).
        AreAdded spec calls returning reply (descriptions_of before) [] [] l left) (sym none)
        (subst (λ (l : List Description).
        AreAdded spec calls returning reply (descriptions_of before) [] [] [] l) (sym nothing)
        (added_none spec calls returning reply (descriptions_of before) [] []));
    taken = λ j one less. absurd (omega (arith, less));
  }

  pub begun_next : (ones left new after : List Description) (k : ℕ) (r : Reached)
      → AreBegun spec calls returning reply before ones left k → slice_get before k ≡ Some r
      → AreAdded spec calls returning reply (description_of r ∷ []) ones left new after
      → IsTaken spec.next returning reply new after (description_of r)
      → AreBegun spec calls returning reply before new after (k + 1)
  begun_next ones left new after k r begun there added taken = record {
    added = added_on spec calls returning reply (descriptions_of before) [] [] ones left new after
        begun.added
        (added_given spec calls returning reply (description_of r ∷ []) (descriptions_of before)
        ones left new after
        (λ stream are reached given. all_of_one (IsInResidue spec stream) calls (description_of r)
        (given (description_of r) (k, map-at description_of before k r there))) added);
    taken = below_next (λ (d : Description). IsTaken spec.next returning reply new after d)
        (descriptions_of before) k
        (λ j one less is at means. handled-more spec.next returning reply ones left new after
        added.grows added.stays at (begun.taken j one less is at means))
        (at_all (λ (d : Description). IsTaken spec.next returning reply new after d) before k r there
        taken);
  }

  -- all that calls are still placed at is taken
  pub begun_taken : (ones left : List Description) (k : ℕ)
      → AreBegun spec calls returning reply before ones left k → (one : Description)
      → Has ones one → IsTaken spec.next returning reply ones left one
  begun_taken ones left k begun =
      begun.added.taken (λ one has. absurd (has-none one has))

  -- where what is added meets a limit, the residue is beyond it
  pub is_beyond : (ones left new after : List Description) (k limit : ℕ) (stream : List StreamEvent)
      → AreBegun spec calls returning reply before ones left k
      → AreAdded spec calls returning reply [] ones left new after → AreOpen stream calls
      → AreLate spec stream calls (descriptions_of before)
      → (limit < length new) ⊎ ((one : Description) × Has new one × (MAX_ROOM ≤ length one.list))
      → IsBeyond spec stream calls limit
  is_beyond ones left new after k limit stream begun added are late case =
      let first = begun.added.reached stream are late.reached
      (λ one has. absurd (has-none one has)) in
      let reached = added.reached stream are (λ one has. absurd (has-none one has)) first in
      elim case [
        | inl many ↦ inl (new, reached, added.apart (begun.added.apart tt), many)
        | inr (one, has, long) ↦
            let sound = reached one has in inr (
              least one,
              sound.each (least one) (means_least one sound.once),
              λ place among. sound.agree place (inl among),
              long,
            )
      ]

  -- the late residue after the return
  pub late_next : (ones left new after : List Description) (last : List Description) (k : ℕ)
      (stream : List StreamEvent) (process : ℕ) (writes : ℕ → Bool)
      → length (descriptions_of before) ≤ k
      → AreBegun spec calls returning reply before ones left k
      → AreAdded spec calls returning reply [] ones left new after
      → ((one : Description) → Has new one
      → LeadsOn spec.next writes calls returning reply new after (length calls) one)
      → ((at : Configuration) → AreMeant after at → AreMeant last at)
      → ((one : Description) → Has last one → Has after one)
      → AreOpen stream calls → Has calls returning → IsWaiting stream process returning.call
      → MayHaveReply returning reply → IsValidStream (stream ++ Returned process reply ∷ [])
      → AreLate spec stream calls (descriptions_of before)
      → AreLate spec (stream ++ Returned process reply ∷ []) calls last
  late_next ones left new after last k stream process writes whole begun added closed means from are has
      waits may valid late =
      let all = late_after spec stream calls are process returning reply has waits writes may valid
      (descriptions_of before) new after late
      (added_on spec calls returning reply (descriptions_of before) [] [] ones left new after
      begun.added
      (added_given spec calls returning reply [] (descriptions_of before) ones left new after
      (λ s o reached given one none. absurd (has-none one none)) added))
      (λ one (j, is) at meant. handled-more spec.next returning reply ones left new after added.grows
      added.stays at (begun.taken j one (below j one is) is at meant)) closed in
      record {
        reached = λ one is. all.reached one (from one is);
        whole = λ at residue agrees.
            let led = all.whole at residue agrees in (led.0, means led.0 led.1, led.2);
      }
    where
      below : (j : ℕ) (one : Description) → slice_get (descriptions_of before) j ≡ Some one → j < k
      below j one is =
          let within = slice_get_within (descriptions_of before) j one is in
          omega (arith, within, whole)
