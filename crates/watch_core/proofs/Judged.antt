-- What is held after a return, by the configurations of its key's part.
use Rattle.std.proofs.Common.{◌≡◌, ◌∙◌, ℕ, nat_eq, ◌+◌, ◌<◌, ◌^◌, max, true, false, List, [], ◌∷◌, ◌++◌, length, drop, Option, Some, None, is_some, refl, sym, ap, subst, append_assoc}
use Rattle.std.specs.Map.{lookup}
use Rattle.seq_objects.specs.declared.kind.Kind.{Kind}
use Rattle.seq_objects.specs.Objects.{kind_spec}
use Rattle.streams.specs.Stream.{StreamEvent, IsValidStream}
use Rattle.streams.specs.StreamOrder.{HasLegalStreamOrder}
use Rattle.late_residue.specs.LateOnes.{IsBeyond}
use Rattle.watch_core.specs.declared.verdict.Verdict.{Verdict}
use Rattle.watch_core.specs.declared.verdict.Verdict.TheVariants.{Illegal, Unsure}
use Rattle.watch_core.specs.Part.{Parted, IsHeldAt, calls_at, residue_at}
use Rattle.watch_core.specs.Parts.{IsNextOfKey, TakeEvent}
use Rattle.watch_core.specs.Watch.{IsHeld}
use Rattle.watch_core.proofs.Held.{next_near, held_after, some_left, none_left, beyond_at}
use Rattle.watch_core.proofs.Taken.{held_next}

-- where no verdict is there, there is none
pub not_final : (last : Option Verdict) → is_some last ≡ false → last ≡ None
not_final None is = refl
not_final (Some verdict) is = let clash : true ≡ false = is in absurd cc

module _ (kind : Kind) (limit taken seen key : ℕ) (stream later near far : List StreamEvent)
    (event : StreamEvent) (old new : List (ℕ × Parted)) (last : Option Verdict)
    (of_key : IsNextOfKey kind key stream event) (valid : IsValidStream (stream ++ event ∷ []))
    (count : taken ≡ length stream) (split : event ∷ later ≡ near ++ far)
    (reached : seen ≡ length (stream ++ near))
    (held : IsHeld kind limit stream (event ∷ later) near old last) where
  -- a final verdict stays
  pub judged_final : is_some last ≡ true
      → IsHeld kind limit (stream ++ event ∷ []) later (drop 1 near) old last
  judged_final some = held_next kind limit stream (stream ++ event ∷ []) (event ∷ later) later near
      (drop 1 near) old old last (sym (append_assoc stream (event ∷ []) later))
      (λ none all legal.
      let clash : true ≡ false = sym some ∙ ap (λ (o : Option Verdict). is_some o) none in
      absurd cc) held

  module _ (none : is_some last ≡ false) where
    now : IsHeld kind limit stream (event ∷ later) near old None
    now = subst (λ (v : Option Verdict). IsHeld kind limit stream (event ∷ later) near old v)
        (not_final last none) held

    pub judged_beyond : ((events : List StreamEvent)
        → IsHeldAt (kind_spec kind) (lookup (nat_eq key) old) events
        → IsBeyond (kind_spec kind) events (calls_at (lookup (nat_eq key) old)) limit)
        → IsHeld kind limit (stream ++ event ∷ []) later (drop 1 near) new
        (Some (Unsure (taken + 1)))
    judged_beyond beyond = beyond_at kind limit taken key stream later near far event
        (lookup (nat_eq key) old) (now.0 key) now.1 count split beyond

    module _ (short : taken + 1 < 2 ^ 64)
        (takes : TakeEvent (kind_spec kind) key event old new) where
      within : length stream + 1 < 2 ^ 64
      within = subst (λ (n : ℕ). n + 1 < 2 ^ 64) count short

      pub judged_some : (residue_at (lookup (nat_eq key) new) ≡ [] → ⊥)
          → IsHeld kind limit (stream ++ event ∷ []) later (drop 1 near) new None
      judged_some some =
          let next = next_near stream later near far event seen split reached in (
            held_after kind stream near (drop 1 near) event key of_key within valid next.3 old new
                now.0 takes,
            some_left kind stream near (drop 1 near) event key of_key within valid next.3 old new
                now.0 takes some now.1,
          )

      pub judged_none : residue_at (lookup (nat_eq key) new) ≡ [] → (most : ℕ)
          → most ≡ max seen (taken + 1)
          → IsHeld kind limit (stream ++ event ∷ []) later (drop 1 near) new
          (Some (Illegal (taken + 1) most))
      judged_none empty most is =
          let next = next_near stream later near far event seen split reached in
          let joined : (stream ++ event ∷ []) ++ drop 1 near ≡ stream ++ event ∷ drop 1 near =
          append_assoc stream (event ∷ []) (drop 1 near) in (
            stream,
            event,
            drop 1 near,
            next.0,
            ap (λ (l : List StreamEvent). (stream ++ event ∷ []) ++ l) next.1
                ∙ (sym (append_assoc (stream ++ event ∷ []) (drop 1 near) next.0)
                ∙ ap (λ (l : List StreamEvent). l ++ next.0) joined),
            ap (λ (n : ℕ). n + 1) count,
            is ∙ (ap (λ (n : ℕ). max seen (n + 1)) count
                ∙ (next.2 ∙ ap (λ (l : List StreamEvent). length l) joined)),
            now.1,
            λ (legal : HasLegalStreamOrder (kind_spec kind) (stream ++ event ∷ drop 1 near)).
                none_left kind stream near (drop 1 near) event key of_key within valid next.3
                (lookup (nat_eq key) old) (now.0 key) (lookup (nat_eq key) new) takes.own empty
                (subst (λ (s : List StreamEvent). HasLegalStreamOrder (kind_spec kind) s)
                (sym joined) legal),
          )
