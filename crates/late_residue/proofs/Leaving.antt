-- What a return leaves of descriptions.
use Rattle.std.proofs.Common.{◌≡◌, ◌≢◌, ◌⊎◌, ℕ, ◌∙◌, List, ◌∷◌, refl, sym, ap, subst, inl, inr}
use Rattle.std.proofs.lemmas.Bool.{cases_eq}
use Rattle.book_base.specs.SeqSpec.{SeqSpec}
use Rattle.streams.specs.Stream.{StreamEvent}
use Rattle.streams.specs.StreamOrder.{StreamPlace, IsAmong}
use Rattle.residue_laws.specs.Residue.{Configuration, IsInResidue}
use Rattle.residue_laws.specs.Step.{IsWithout}
use Rattle.residue_laws.proofs.Placing.{among-cons, among-first, among-later}
use Rattle.late_residue.specs.declared.open_call.OpenCall.{OpenCall}
use Rattle.late_residue.specs.Description.{Description}
use Rattle.late_residue.specs.Meaning.{IsPlaceOf, Means}
use Rattle.late_residue.specs.Placing.{AreOf, IsPlacedAt, IsWithoutCall, IsSound, IsLeftBy}
use Rattle.late_residue.proofs.Meanings.{names}

-- The call that returns may be placed with the reply: it is placed with it, or is optional with it
-- and not placed.
abbrev pub MayReturn : OpenCall → ℕ → Description → Type 0
MayReturn returning reply one =
    IsAmong one.placed (record { call = returning.call; reply = reply })
    ⊎ (IsAmong one.optional (record { call = returning.call; reply = reply })
    × (AreOf one.placed returning.call → ⊥))

module _ (returning : OpenCall) (reply : ℕ) (one left : Description)
    (without : IsWithoutCall returning.call one left) where
  abbrev place : StreamPlace
  place = record { call = returning.call; reply = reply }

  -- what is left of a configuration is meant by what is left of its description
  pub left_means : (at after : Configuration) → Means one at → IsWithout returning.call at after
      → Means left after
  left_means at after means (lacks, same) = record {
    list = sym same ∙ (means.list ∙ sym without.list);
    placed = λ p among.
        let is = (without.placed p).0 among in (lacks p).1 (means.placed p is.0, is.1);
    either = λ p among.
        let is = (lacks p).0 among in
        elim (means.either p is.0) [
          | inl placed ↦ inl ((without.placed p).1 (placed, is.1))
          | inr optional ↦ inr ((without.optional p).1 (optional, is.1))
        ];
    once = λ a b first second. means.once a b ((lacks a).0 first).0 ((lacks b).0 second).0;
  }

  -- a configuration at which the call isn't placed is meant by what is left of its description
  pub left_lacking : (at : Configuration) → Means one at → (IsPlacedAt at returning.call → ⊥)
      → Means left at
  left_lacking at means lacks = left_means at at means (
    λ p. (
      λ among. (
        among,
        λ (e : p.call ≡ returning.call). lacks (names at.placed p returning.call e among),
      ),
      λ both. both.0,
    ),
    refl,
  )

  module _ (after : Configuration) (means : Means left after) where
    abbrev with : Configuration
    with = record { placed = place ∷ after.placed; list = after.list }

    old_place : (p : StreamPlace) → IsAmong after.placed p
        → IsPlaceOf one p × (p.call ≢ returning.call)
    old_place p among = elim (means.either p among) [
      | inl placed ↦ let is = (without.placed p).0 placed in (inl is.0, is.1)
      | inr optional ↦ let is = (without.optional p).0 optional in (inr is.0, is.1)
    ]

    with_means : MayReturn returning reply one → ((a b : StreamPlace) → IsAmong one.placed a
        → IsAmong one.placed b → a.call ≡ b.call → a ≡ b) → Means one with
    with_means may once = record {
      list = means.list ∙ without.list;
      placed = λ p among. elim (cases_eq p.call returning.call) [
        | inl same ↦ elim may [
          | inl placed ↦ among-first place after.placed p (sym (once p place among placed same))
          | inr optional ↦ absurd (optional.1 (names one.placed p returning.call same among))
        ]
        | inr apart ↦ among-later place after.placed p
            (means.placed p ((without.placed p).1 (among, apart)))
      ];
      either = λ p among. elim (among-cons place after.placed p among) [
        | inl is ↦ subst (λ (q : StreamPlace). IsPlaceOf one q) is (elim may [
          | inl placed ↦ inl placed
          | inr optional ↦ inr optional.0
        ])
        | inr old ↦ (old_place p old).0
      ];
      once = λ a b first second e. elim (among-cons place after.placed a first) [
        | inl is ↦ elim (among-cons place after.placed b second) [
          | inl also ↦ sym is ∙ also
          | inr old ↦ absurd ((old_place b old).1
              (sym e ∙ sym (ap (λ (p : StreamPlace). p.call) is)))
        ]
        | inr early ↦ elim (among-cons place after.placed b second) [
          | inl also ↦ absurd ((old_place a early).1
              (e ∙ sym (ap (λ (p : StreamPlace). p.call) also)))
          | inr old ↦ means.once a b early old e
        ]
      ];
    }

    with_without : IsWithout returning.call with after
    with_without = (
      λ p. (
        λ among. (among-later place after.placed p among, (old_place p among).1),
        λ (among, apart). elim (among-cons place after.placed p among) [
          | inl is ↦ absurd (apart (sym (ap (λ (q : StreamPlace). q.call) is)))
          | inr old ↦ old
        ],
      ),
      refl,
    )

  -- what is left of a sound description is left by the return
  pub left_sound : (spec : SeqSpec) (stream : List StreamEvent) (calls : List OpenCall)
      → MayReturn returning reply one → IsSound (IsInResidue spec stream) calls one
      → IsSound (IsLeftBy spec stream returning reply) calls left
  left_sound spec stream calls may sound = record {
    each = λ after means. (
      with after means,
      sound.each (with after means) (with_means after means may sound.once),
      (0, refl),
      with_without after means,
    );
    agree = λ p is. elim is [
      | inl placed ↦ sound.agree p (inl ((without.placed p).0 placed).0)
      | inr optional ↦ sound.agree p (inr ((without.optional p).0 optional).0)
    ];
    once = λ a b first second. sound.once a b ((without.placed a).0 first).0
        ((without.placed b).0 second).0;
  }
