use Rattle.std.proofs.Common.{◌≡◌, true, sym, ◌∙◌, refl, inl, inr}
use Rattle.std.proofs.lemmas.Result.{err_from_is_err_and}
use Rattle.book_text.proofs.ending.read_end.Goals as goal

pub returns-in_err-line-clause-refused : goal.returns-in_err-line-clause-refused
returns-in_err-line-clause-refused c =
    let p = err_from_is_err_and c.from_residual.result c.from_residual.ensures.1 in
    rw (p.1, p.2) (inl c.in_err-line.ensures.cut.0)

pub returns-then-not-is_end-clause-refused : goal.returns-then-not-is_end-clause-refused
returns-then-not-is_end-clause-refused c =
    inr (inl (record {
      line = c.in_ok-line.field-0.now;
      left = c.line.new.self;
      next = c.in_ok-line.ensures.line;
      words = λ e. let is : c.is_end.result ≡ true = c.is_end.ensures.1 (c.new-words.ensures ∙ e) in
          absurd (cc (is, c.if-not-is_end.true));
      fault_is = rw c.number-line.ensures refl;
    }))

pub returns-then-at_end-clause-found : goal.returns-then-at_end-clause-found
returns-then-at_end-clause-found c = record {
  line = c.in_ok-line.field-0.now;
  next = c.in_ok-line.ensures.line;
  words = sym c.new-words.ensures ∙ c.is_end.ensures.0 c.if-not-is_end.false;
  whole = c.at_end.ensures.0 c.if-at_end.true;
}

pub returns-else-at_end-clause-refused : goal.returns-else-at_end-clause-refused
returns-else-at_end-clause-refused c =
    inr (inr (record {
      line = c.in_ok-line.field-0.now;
      left = c.line.new.self;
      next = c.in_ok-line.ensures.line;
      words = sym c.new-words.ensures ∙ c.is_end.ensures.0 c.if-not-is_end.false;
      more = λ e. let is : c.at_end.result ≡ true = c.at_end.ensures.1 e in
          absurd (cc (is, c.if-at_end.false));
      fault_is = rw c.number.ensures refl;
    }))
