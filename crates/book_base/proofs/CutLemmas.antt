-- Cuts with the same counts lie in the same array.
use Rattle.std.proofs.Common.{◌≡◌, sym, ap, ◌∙◌}
use Rattle.book_base.specs.CutLayout.{counts_of, padded, IsPadded, counts_of-inverse}
use Rattle.book_base.specs.declared.cut.Cut.TheInside.{Inside}

pub at_from_counts : (a b : Inside) → IsPadded a → IsPadded b → counts_of a ≡ counts_of b
    → a.at ≡ b.at
at_from_counts a b h k e =
    ap (λ (c : Inside). c.at) (sym (counts_of-inverse a h) ∙ (ap padded e ∙ counts_of-inverse b k))
