use Rattle.std.proofs.Common.{◌≡◌, ap, Vec, Global, false, List, ℕ, ◌∙◌, ne_eqb, arith, rules, tests}
use Rattle.std.specs.Borrow.{Bor}
use Rattle.history_text.proofs.CellSteps.{at_quote, at_comma, at_byte, in_quotes, no_comma}
use Rattle.history_text.proofs.cell.cells.Goals as goal
use Rattle.history_text.proofs.cell.cells.Goals.{then-byte-eq34, else-byte-eq34+then-byte-eq44+then-not-quoted+in_ok-push, else-byte-eq34+else-byte-eq44, else-byte-eq44-via-then-byte-eq44+else-not-quoted, else-byte-eq44-via-else-byte-eq44}

pub loop-at-preserved : goal.loop-at-preserved
loop-at-preserved c =
    let items = λ (v : Vec (Bor (List ℕ)) Global). v.items in
    let known = c.loop-at.invariant in
    elim c.if-byte-eq34.branch [
      | then-byte-eq34 w ↦ record {
        begun = omega arith;
        cells = at_quote c.args.line.now c.loop-at.quoted c.if-byte-eq34.quoted c.loop-at.start
            c.if-byte-eq34.start c.loop-at.at c.loop-at.found.items c.if-byte-eq34.found.items _
            known.begun c.loop-at-test.true w.if-byte-eq34.true w.quoted-is w.start-is
            (ap items w.found-is) known.cells;
      }
      | else-byte-eq34+then-byte-eq44+then-not-quoted+in_ok-push w ↦
          (let plain : c.loop-at.quoted ≡ false = search (rules, tests) in
          record {
            begun = omega arith;
            cells = at_comma c.args.line.now c.loop-at.quoted c.if-byte-eq34.quoted c.loop-at.start
                c.if-byte-eq34.start c.loop-at.at c.loop-at.found.items c.if-byte-eq34.found.items
                w.trimmed.result _ known.begun c.loop-at-test.true w.if-byte-eq44.true plain
                w.quoted-is w.start-is (ap items w.found-is ∙ w.in_ok-push.ensures.items)
                w.trimmed.ensures known.cells;
          })
      | else-byte-eq34+else-byte-eq44 w ↦ record {
        begun = omega arith;
        cells = at_byte c.args.line.now c.loop-at.quoted c.if-byte-eq34.quoted c.loop-at.start
            c.if-byte-eq34.start c.loop-at.at c.loop-at.found.items c.if-byte-eq34.found.items _
            known.begun c.loop-at-test.true w.if-byte-eq34.false
            (elim w.else-byte-eq44.branch [
              | else-byte-eq44-via-then-byte-eq44+else-not-quoted u ↦
                  in_quotes _ c.loop-at.quoted (search (rules, tests))
              | else-byte-eq44-via-else-byte-eq44 u ↦
                  no_comma _ c.loop-at.quoted (ne_eqb _ 44 u.if-byte-eq44.false)
            ])
            w.quoted-is w.start-is (ap items w.found-is) known.cells;
      }
    ]
