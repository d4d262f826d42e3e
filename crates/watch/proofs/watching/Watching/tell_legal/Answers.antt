use Rattle.std.proofs.Common.{◌≡◌, ◌∙◌, ◌<◌, ◌≤◌, ◌≢◌, ◌++◌, ◌∷◌, ℕ, List, length, [], true, false, refl, sym, ap, subst, arith}
use Rattle.std.specs.Prelude.{codes}
use Rattle.watch.specs.Output.{OutputLine, Legal, text_of, output_text, output_line}
use Rattle.watch.specs.Account.{Has}
use Rattle.watch.proofs.Outputs.{tells_none, has_new, text_one}
use Rattle.watch.proofs.Changing.{holds_legal, some_lines}
use Rattle.watch.proofs.watching.Watching.tell_legal.Goals as goal

pub returns-then-self : goal.returns-then-self
returns-then-self c = record {
  told = λ asked lines due said output h says settled.
      tells_none asked c.args.self.now lines due said output
      (λ after. c.args.self.now.is_unsure ≡ false → Has after (Legal (length lines))) h
      (λ e. absurd (let t = sym c.if-self.true ∙ e in cc));
}

pub returns-then-self-2 : goal.returns-then-self-2
returns-then-self-2 c = record {
  told = λ asked lines due said output h says settled.
      let n = c.if-self-2.true in
      tells_none asked c.args.self.now lines due said output
      (λ after. c.args.self.now.is_unsure ≡ false → Has after (Legal (length lines))) h
      (λ e. subst (λ (k : ℕ). Has output (Legal k)) (n ∙ h.number)
      (h.last (omega (arith, n, h.number, some_lines due said (length lines) says h.even))));
}

pub returns : goal.returns
returns c = record {
  told = λ asked lines due said output h says settled.
      let a = c.args.self.now in
      let one : OutputLine = Legal a.number in (
        one ∷ [],
        c.in_ok-put_line.ensures ∙ ap (λ (l : List ℕ). a.out.items ++ l) (sym (text_one one)),
        holds_legal asked a _ lines due said output
            (record { settings = refl; reader = refl; objects = refl; number = refl }) refl refl
            refl c.if-self.false (omega (arith, c.if-self-2.false, h.so_far)) says settled h,
        λ e. subst (λ (k : ℕ). Has (output ++ one ∷ []) (Legal k)) h.number (has_new output one),
      );
}
