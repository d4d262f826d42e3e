use Rattle.std.proofs.Common.{◌≡◌, ◌∙◌, ◌+◌, length, take, min, sym, arith}
use Rattle.std.proofs.lemmas.List.{length-take, take-append-drop, drop_all}
use Rattle.stream_text.proofs.Parts.{before_feed, feed_is, feed_none, feed_joins, some_length}
use Rattle.stream_text.proofs.line_source.part_of.Goals as goal

pub returns-then-end-most-clause-ended : goal.returns-then-end-most-clause-ended
returns-then-end-most-clause-ended c _ =
    let bytes = c.args.left.now in
    let e = sym c.feed_at.ensures ∙ c.in-Some.is in
    let is = feed_is bytes c.in-Some.end e in (
      is.0,
      (
        before_feed bytes c.in-Some.end (omega (arith, is.1)),
        omega (arith, length-take c.in-Some.end bytes, c.if-end-most.true),
        feed_joins bytes c.in-Some.end e,
      ),
    )

pub returns-else-end-most-clause-more : goal.returns-else-end-most-clause-more
returns-else-end-most-clause-more c _ =
    let bytes = c.args.left.now in
    let n = c.args.most + 1 in
    let is = feed_is bytes c.in-Some.end (sym c.feed_at.ensures ∙ c.in-Some.is) in
    let long : length (take n bytes) ≡ n =
    omega (arith, length-take n bytes, c.if-end-most.false, is.0, is.1) in (
      before_feed bytes n (omega (arith, is.1, c.if-end-most.false)),
      omega (arith, long),
      omega (arith, long),
      λ few. absurd (omega (arith, long, few)),
      sym (take-append-drop n bytes),
    )

pub returns-in-None-clause-more : goal.returns-in-None-clause-more
returns-in-None-clause-more c _ =
    let bytes = c.args.left.now in
    let n = c.min.result in
    let none = feed_none bytes (sym c.feed_at.ensures ∙ c.in-None.is) in
    let is : n ≡ min (length bytes) (c.args.most + 1) = c.min.ensures in
    let long = length-take n bytes in (
      before_feed bytes n (omega (arith, none, is)),
      omega (arith, long, is, some_length bytes c.requires.some),
      omega (arith, long, is),
      λ few. drop_all n bytes (omega (arith, long, is, few)),
      sym (take-append-drop n bytes),
    )
