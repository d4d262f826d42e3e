use Rattle.std.proofs.Common.{◌∷◌, [], refl, sym, arith, inl, inr}
use Rattle.std.proofs.lemmas.Option.{none-some}
use Rattle.report_examples.specs.Lines.{call}
use Rattle.report_examples.proofs.witnesses.the_earlier_callers_error_is_first.Goals as goal

pub returns-clause-first : goal.returns-clause-first
returns-clause-first c = record {
  error = refl;
  first = λ other before. elim before [
    | inl lower ↦ absurd (omega (arith, lower))
    | inr earlier ↦ absurd (omega (arith, earlier.1))
  ];
}

pub returns-clause-second : goal.returns-clause-second
returns-clause-second c h = none-some (1 ∷ 0 ∷ []) (sym (h.first (call 0 0) (inl (omega arith))))
