-- A vector that has what it had before, and a prefix of a text after it.
use Rattle.std.proofs.Common.{◌≡◌, ℕ, List, ◌++◌, sym, ap, ◌∙◌, append_assoc}
use Rattle.seq_objects.specs.Words.{AppendsPrefix}

-- A prefix of a text that is appended after the whole of another text makes a prefix of both texts
-- together.
pub AppendsPrefix-after : (old mid new before text : List ℕ) → mid ≡ old ++ before
    → AppendsPrefix mid new text → AppendsPrefix old new (before ++ text)
AppendsPrefix-after old mid new before text whole prefix = record {
  prefix = before ++ prefix.prefix;
  rest = prefix.rest;
  split = ap (λ t. before ++ t) prefix.split ∙ sym (append_assoc before prefix.prefix prefix.rest);
  appended = prefix.appended ∙ ap (λ m. m ++ prefix.prefix) whole
      ∙ append_assoc old before prefix.prefix;
}

-- A prefix of a text is a prefix of a longer one.
pub AppendsPrefix-longer : (old new text more : List ℕ) → AppendsPrefix old new text
    → AppendsPrefix old new (text ++ more)
AppendsPrefix-longer old new text more prefix = record {
  prefix = prefix.prefix;
  rest = prefix.rest ++ more;
  split = ap (λ t. t ++ more) prefix.split ∙ append_assoc prefix.prefix prefix.rest more;
  appended = prefix.appended;
}
