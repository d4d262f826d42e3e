use Rattle.std.proofs.Common.{◌≡◌, ◌∙◌, sym, ap, take, length, arith}
use Rattle.std.proofs.lemmas.List.{length-take}
use Rattle.std.proofs.lemmas.Bool.Decides.{Decides-eqb}
use Rattle.std.proofs.lemmas.Slice.Eq.{slice_eq-Decides}
use Rattle.book_base.proofs.CutLemmas.{at_from_counts}
use Rattle.book_base.proofs.cut.Cut.equals.Goals as goal

pub returns : goal.returns
returns c =
    let decided =
    slice_eq-Decides Decides-eqb c.self.inside.at c.other.inside.at c.eq.result c.eq.ensures in
    let mine : length (take c.self.inside.n c.self.inside.at) ≡ c.self.inside.n = omega (
      arith,
      length-take c.self.inside.n c.self.inside.at,
      c.self.invariant.few,
      c.self.invariant.whole,
    ) in
    let theirs : length (take c.other.inside.n c.other.inside.at) ≡ c.other.inside.n = omega (
      arith,
      length-take c.other.inside.n c.other.inside.at,
      c.other.invariant.few,
      c.other.invariant.whole,
    ) in
    let wide : c.self.inside.n ≡ c.other.inside.n = sym mine
    ∙ (ap length c.self.view_is ∙ (c.requires ∙ (sym (ap length c.other.view_is) ∙ theirs))) in (
      λ yes. sym c.self.view_is ∙ (ap (λ n. take n c.self.inside.at) wide
          ∙ (ap (take c.other.inside.n) (decided.0 yes) ∙ c.other.view_is)),
      λ same. decided.1 (at_from_counts c.self.inside c.other.inside c.self.invariant
          c.other.invariant (c.self.view_is ∙ (same ∙ sym c.other.view_is))),
    )
