-- How a cut lies in its array: the counts first, and zeros after them.
use Rattle.std.specs.Prelude.{◌≡◌, ℕ, ◌-◌, ◌≤◌, List, ◌++◌, length, take, drop, replicate}
use Rattle.std.proofs.Common.{sym, ap, ◌∙◌, arith}
use Rattle.std.proofs.lemmas.List.{length-take, take-append-drop}
use Rattle.book_base.specs.declared.TheConstants.{MAX_CALLERS}
use Rattle.book_base.specs.declared.cut.Cut.TheInside.{Inside}

-- The counts of a cut, which come first in its array.
abbrev pub counts_of : Inside → List ℕ
counts_of c = take c.n c.at

-- A cut lies in its array of `MAX_CALLERS` numbers with its counts first, at least one, and zeros
-- after them.
pub record IsPadded (c : Inside) : Type 0 where
  pub some : 1 ≤ c.n
  pub few : c.n ≤ MAX_CALLERS
  pub whole : length c.at ≡ MAX_CALLERS
  pub zeros : drop c.n c.at ≡ replicate (MAX_CALLERS - c.n) 0

-- The array of a cut with these counts: the counts first, and zeros after them.
abbrev pub padded : List ℕ → Inside
padded counts =
    record { n = length counts; at = counts ++ replicate (MAX_CALLERS - length counts) 0 }

-- Padding the counts of a cut with zeros gives its array back.
pub counts_of-inverse : (c : Inside) → IsPadded c → padded (counts_of c) ≡ c
counts_of-inverse c h =
    let long : length (take c.n c.at) ≡ c.n = omega (arith, length-take c.n c.at) in
    let tail : replicate (MAX_CALLERS - length (take c.n c.at)) 0 ≡ drop c.n c.at =
    ap (λ (n : ℕ). replicate (MAX_CALLERS - n) 0) long ∙ sym h.zeros in
    let whole : take c.n c.at ++ replicate (MAX_CALLERS - length (take c.n c.at)) 0 ≡ c.at =
    ap (λ (xs : List ℕ). take c.n c.at ++ xs) tail ∙ take-append-drop c.n c.at in
    let made : ℕ → List ℕ → Inside = λ n at. record { n = n; at = at } in
    ap (λ (n : ℕ). made n (take c.n c.at ++ replicate (MAX_CALLERS - length (take c.n c.at)) 0))
    long ∙ ap (made c.n) whole
