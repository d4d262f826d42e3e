use Rattle.std.proofs.Common.{◌≡◌, ◌∙◌, ◌-◌, ◌++◌, ◌∷◌, Bool, ℕ, List, length, sym, ap, subst, arith, append-nil, length-append}
use Rattle.std.proofs.KnownBytes.{Consumes-trans}
use Rattle.std.proofs.lemmas.Result.{err_from_is_err_and}
use Rattle.stream_text.specs.declared.TheConstants.{LINE_LIMIT}
use Rattle.stream_text.specs.Source.{Held, IsPartOf, IsNextOf}
use Rattle.stream_text.proofs.Parts.{read_more, part_goes, feedless_both}
use Rattle.stream_text.proofs.line_source.LineSource.next.Goals as goal

pub returns-then-not-branch-clause-next : goal.returns-then-not-branch-clause-next
returns-then-not-branch-clause-next g c =
    let inv = c.loop-self.invariant in
    let more = c.in_ok-refill.ensures.given in
    let none = c.in_ok-refill.ensures.end c.if-not-branch.true in
    let whole = read_more _ inv.given.0 c.loop-self.self.line c.loop-self.self.bytes more.0
    c.refill.new.self.bytes
    (ap (λ (l : List ℕ). l ++ inv.given.0) (sym (ap Held.bytes c.self.view_is)) ∙ inv.given.2)
    more.2 in (
      inv.given.0 ++ more.0,
      Consumes-trans _ _ _ _ _ inv.given.1 more.1,
      subst (λ (l : List ℕ). IsNextOf l c.at_end.result c.refill.new.self)
          (sym (whole ∙ ap (λ (l : List ℕ). c.loop-self.self.line ++ l) none.0
          ∙ append-nil c.loop-self.self.line ∙ sym c.refill.ensures.line)) c.at_end.ensures.next,
    )

pub returns-in_err-take_part-clause-err : goal.returns-in_err-take_part-clause-err
returns-in_err-take_part-clause-err g c =
    let inv = c.loop-self.invariant in
    let more = c.in_ok-refill.ensures.given in
    let p = err_from_is_err_and c.from_residual-in_err-take_part.result
    c.from_residual-in_err-take_part.ensures.1 in
    rw p.1 (inv.given.0 ++ more.0, Consumes-trans _ _ _ _ _ inv.given.1 more.1)

pub returns-then-branch-clause-next : goal.returns-then-branch-clause-next
returns-then-branch-clause-next g c =
    let inv = c.loop-self.invariant in
    let more = c.in_ok-refill.ensures.given in
    let part = c.in_ok-take_part.ensures.part in
    let is = subst (λ (b : Bool). IsPartOf c.refill.new.self.bytes
    (LINE_LIMIT - length c.refill.new.self.line) b part.0 c.take_part.new.self.bytes)
    c.if-branch.true part.1 in
    let line = c.refill.ensures.line in
    let grown : c.take_part.new.self.line ≡ c.loop-self.self.line ++ part.0 =
    part.2 ∙ ap (λ (l : List ℕ). l ++ part.0) line in
    let whole = read_more _ inv.given.0 c.loop-self.self.line c.loop-self.self.bytes more.0
    c.refill.new.self.bytes
    (ap (λ (l : List ℕ). l ++ inv.given.0) (sym (ap Held.bytes c.self.view_is)) ∙ inv.given.2)
    more.2 in (
      inv.given.0 ++ more.0,
      Consumes-trans _ _ _ _ _ inv.given.1 more.1,
      (
        record {
          feedless = feedless_both c.loop-self.self.line part.0 c.take_part.new.self.line grown
              inv.feedless is.0;
          short = omega (
            arith,
            is.1,
            ap length grown,
            ap length line,
            length-append c.loop-self.self.line part.0,
            c.loop-self-test.true,
            c.len.ensures,
            ap length (ap Held.line c.self-in-loop-self.view_is),
          );
        },
        whole ∙ part_goes c.loop-self.self.line part.0 c.take_part.new.self.line
            c.refill.new.self.bytes (10 ∷ c.take_part.new.self.bytes) grown is.2,
      ),
    )

pub loop-self-preserved : goal.loop-self-preserved
loop-self-preserved g c =
    let inv = c.loop-self.invariant in
    let more = c.in_ok-refill.ensures.given in
    let part = c.in_ok-take_part.ensures.part in
    let is = subst (λ (b : Bool). IsPartOf c.refill.new.self.bytes
    (LINE_LIMIT - length c.refill.new.self.line) b part.0 c.take_part.new.self.bytes)
    c.if-branch.false part.1 in
    let grown : c.take_part.new.self.line ≡ c.loop-self.self.line ++ part.0 =
    part.2 ∙ ap (λ (l : List ℕ). l ++ part.0) c.refill.ensures.line in
    let whole = read_more _ inv.given.0 c.loop-self.self.line c.loop-self.self.bytes more.0
    c.refill.new.self.bytes inv.given.2 more.2 in
    record {
      given = (
        inv.given.0 ++ more.0,
        Consumes-trans _ _ _ _ _ inv.given.1 more.1,
        whole ∙ part_goes c.loop-self.self.line part.0 c.take_part.new.self.line
            c.refill.new.self.bytes c.take_part.new.self.bytes grown is.4,
      );
      feedless = feedless_both c.loop-self.self.line part.0 c.take_part.new.self.line grown
          inv.feedless is.0;
      calm = c.in_ok-refill.ensures.calm ∙ inv.calm;
    }
