-- The late residue of the empty stream.
use Rattle.std.proofs.Common.{[], ◌∷◌, refl, sym, subst, inl, inr}
use Rattle.book_base.specs.SeqSpec.{SeqSpec}
use Rattle.residue_laws.specs.Residue.{IsInResidue}
use Rattle.residue_laws.proofs.Events.{alike_itself}
use Rattle.residue_laws.proofs.Placing.{nothing_among}
use Rattle.residue_laws.proofs.Stepping.{empty_residue}
use Rattle.late_residue.specs.Description.{Description}
use Rattle.late_residue.specs.Placing.{IsSound}
use Rattle.late_residue.specs.LateOnes.{AreLate}
use Rattle.late_residue.proofs.Items.{has-cons, has-none}
use Rattle.late_residue.proofs.Meanings.{means_least, means-alike}

abbrev pub first : SeqSpec → Description
first spec = record { placed = []; optional = []; list = spec.init }

first_sound : (spec : SeqSpec) → IsSound (IsInResidue spec []) [] (first spec)
first_sound spec = record {
  each = λ at means. (empty_residue spec at).1 (
    λ place. (
      λ among. absurd (nothing_among place among),
      λ among. elim (means.either place among) [
        | inl placed ↦ placed
        | inr optional ↦ optional
      ],
    ),
    sym means.list,
  );
  agree = λ place is one has. absurd (has-none one has);
  once = λ a b among. absurd (nothing_among a among);
}

pub late_none : (spec : SeqSpec) → AreLate spec [] [] (first spec ∷ [])
late_none spec = record {
  reached = λ one has. elim (has-cons (first spec) [] one has) [
    | inl is ↦ subst (λ (d : Description). IsSound (IsInResidue spec []) [] d) is (first_sound spec)
    | inr none ↦ absurd (has-none one none)
  ];
  whole = λ at residue agrees. (
    at,
    (
      first spec,
      (0, refl),
      means-alike (first spec) (record { placed = []; list = spec.init }) at
          ((empty_residue spec at).0 residue)
          (means_least (first spec) (λ a b among. absurd (nothing_among a among))),
    ),
    ([], alike_itself at),
  );
}
