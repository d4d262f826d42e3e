use Rattle.std.proofs.Common.{◌<◌, ◌^◌, ◌∙◌, sym, ap, ◌∷◌, List, ℕ, arith}
use Rattle.book_text.proofs.entry.read_answer.Goals as goal

pub returns-then-gap-clause-refused : goal.returns-then-gap-clause-refused
returns-then-gap-clause-refused c = (λ none. absurd (cc (c.in-Some.ensures, none)), c.if-gap.true)

pub returns-in_default-reply_from_word-clause-refused :
    goal.returns-in_default-reply_from_word-clause-refused
returns-in_default-reply_from_word-clause-refused c = (
  c.in-Some.word.now,
  c.next.new.self,
  c.if-gap.false,
  c.in-Some.ensures,
  c.in_default-reply_from_word.ensures.none,
)

pub returns-in-None-clause-refused : goal.returns-in-None-clause-refused
returns-in-None-clause-refused c =
    let small : c.in-Some-reply_from_word.reply < 2 ^ 64 = omega arith in (
      c.in-Some-reply_from_word.reply,
      c.next.new.self,
      c.if-gap.false,
      small,
      c.in-Some.ensures ∙ ap (λ (w : List ℕ). w ∷ c.next.new.self)
          (sym c.in-Some-reply_from_word.ensures.found),
      c.in-None.ensures.none,
    )
