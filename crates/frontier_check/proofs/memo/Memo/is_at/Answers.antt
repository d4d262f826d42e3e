use Rattle.std.proofs.Common.{◌<◌, ◌∙◌, length, sym, inl, inr, arith}
use Rattle.std.proofs.lemmas.Bool.Decides.{Decides-eqb}
use Rattle.std.proofs.lemmas.Slice.Eq.{slice_eq-Decides}
use Rattle.std.proofs.lemmas.Option.{slice_get_cases}
use Rattle.frontier_check.proofs.memo.Memo.is_at.Goals as goal

pub returns-then-eq : goal.returns-then-eq
returns-then-eq c = λ yes.
    let inside : c.args.index < length c.args.self.now.entries.items = omega arith in
    elim (slice_get_cases c.args.self.now.entries.items c.args.index).1 [
      | inl here ↦
          let counts = (slice_eq-Decides Decides-eqb _ _ _ c.eq.ensures).0 c.if-eq.true in
          let words = (slice_eq-Decides Decides-eqb _ _ _ c.eq-then-eq.ensures).0 yes in (
            c.args.index,
            here.0,
            here.2,
            sym counts ∙ c.counts_of.ensures,
            sym words ∙ c.words_of.ensures here.0 here.2,
          )
      | inr past ↦ absurd (omega (arith, past.0))
    ]
