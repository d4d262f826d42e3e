-- A log has a place for each call.
use Rattle.std.proofs.Common.{◌≡◌, ◌≢◌, ℕ, zero, suc, ◌+◌, ◌*◌, ◌<◌, ◌⊎◌, refl, sym, ap, ◌∙◌, arith, inl, inr}
use Rattle.std.proofs.lemmas.Bool.{cases_eq}
use Rattle.list_laws.proofs.Pigeonhole.{pigeonhole}
use Rattle.book_base.specs.SeqSpec.{SeqSpec}
use Rattle.world_core.specs.Shape.{Shape}
use Rattle.world_core.specs.World.{World, local_of}
use Rattle.world_objects.proofs.AskedCalls.{reachable_kept, asked}
use Rattle.world_objects.specs.LogWords.{number_of, ticket_of}
use Rattle.world_objects.specs.LogProgram.{log_shape}
use Rattle.world_objects.specs.LogRules.{ticket_at, IsLog, SomePlaceIsFree}
use Rattle.world_objects.proofs.LogSteps.{number_low, unplaced_nowhere, rules_hold}

-- some place below a bound has the word 0, or none has
cases_free : (f : ℕ → ℕ) (m : ℕ) → ((p : ℕ) × (p < m) × (f p ≡ 0)) ⊎ ((p : ℕ) → p < m → f p ≢ 0)
cases_free f zero = inr (λ p low. absurd (omega (arith, low)))
cases_free f (suc m) =
    elim (cases_eq (f m) 0) [
      | inl free ↦ inl (m, omega arith, free)
      | inr filled ↦ elim (cases_free f m) [
        | inl found ↦ inl (found.0, omega (arith, found.1), found.2)
        | inr all ↦ inr (λ p low. elim (cases_eq p m) [
          | inl last ↦ λ free. filled (ap f (sym last) ∙ free)
          | inr before ↦ all p (omega (arith, low, before))
        ])
      ]
    ]

module _ (spec : SeqSpec) (n cap : ℕ) (w : World) (log : IsLog (log_shape spec n cap) w) where
  abbrev s : Shape
  s = log_shape spec n cap

  abbrev total : ℕ
  total = n * cap

  abbrev ticket : ℕ → ℕ
  ticket p = ticket_at s w p

  -- A place of the log stands for the number of the call whose ticket it has, and the place after
  -- the last one stands for the number `own`.
  abbrev StandsFor : ℕ → ℕ → ℕ → Type 0
  StandsFor own p number = ((p < total) × (ticket p ≡ ticket_of number))
      ⊎ ((p ≡ total) × (number ≡ own))

  module _ (own : ℕ) (low : own < total)
      (nowhere : (q : ℕ) → q < total → ticket q ≡ ticket_of own → ⊥) where
    stands : ((p : ℕ) → p < total → ticket p ≢ 0) → (p : ℕ) → p < total + 1 → (number : ℕ)
        × (number < total) × StandsFor own p number
    stands all p p_low =
        elim (cases_eq p total) [
          | inl last ↦ (own, low, inr (last, refl))
          | inr before ↦
              let below : p < total = omega (arith, p_low, before) in
              let t = log.named p below (all p below) in (
                number_of cap t.i t.k,
                number_low spec n cap t.i t.k t.call.caller t.call.few,
                inl (below, t.ticket),
              )
        ]

    apart : ((p : ℕ) → p < total → ticket p ≢ 0) → (p q number : ℕ) → StandsFor own p number
        → StandsFor own q number → p ≡ q
    apart all p q number (inl a) (inl b) = log.once p q a.0 b.0 (all p a.0) (a.1 ∙ sym b.1)
    apart all p q number (inl a) (inr b) = absurd (nowhere p a.0 (a.1 ∙ ap ticket_of b.1))
    apart all p q number (inr a) (inl b) = absurd (nowhere q b.0 (b.1 ∙ ap ticket_of a.1))
    apart all p q number (inr a) (inr b) = a.0 ∙ sym b.0

    free_place : (p : ℕ) × (p < total) × (ticket p ≡ 0)
    free_place =
        elim (cases_free ticket total) [
          | inl found ↦ found
          | inr all ↦ absurd
              (omega (arith, pigeonhole (StandsFor own) (total + 1) total (stands all) (apart all)))
        ]

pub some_place_is_free : SomePlaceIsFree
some_place_is_free spec n cap w i reach low asking none =
    let sh : Shape = log_shape spec n cap in
    let log = rules_hold spec n cap w reach in
    let call = asked sh w i (reachable_kept sh w reach) low asking in
    free_place spec n cap w log (number_of cap i (local_of w i).published)
    (number_low spec n cap i (local_of w i).published low call.few)
    (unplaced_nowhere spec n cap w i (local_of w i).published log call.few none)
