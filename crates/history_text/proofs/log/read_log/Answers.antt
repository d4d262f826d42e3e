use Rattle.std.proofs.Common.{◌∙◌, ◌+◌, List, [], ◌∷◌, ◌++◌, Ok, ap, sym, subst, append_assoc}
use Rattle.std.specs.Borrow.{Bor}
use Rattle.std.proofs.Common.{ℕ}
use Rattle.history_text.specs.declared.entry.LinedEntry.{LinedEntry}
use Rattle.history_text.specs.Lines.{Line, lines_from, lines_of}
use Rattle.history_text.specs.Log.{HasHeader, AreRead, SaysBySelf}
use Rattle.history_text.specs.Log.AreRead.{none, more}
use Rattle.history_text.proofs.Stepping.{texts}
use Rattle.history_text.proofs.log.read_log.Goals as goal

pub loop-line-init : goal.loop-line-init
loop-line-init c =
    let P : List Line → Type 0 = λ lines. HasHeader c.args.format lines
    (texts c.in_ok-names.names.items)
    (lines_from (c.header.new.lines.number + 1) [] c.header.new.lines.rest.now) in
    record {
      fits = c.in_ok-names.ensures.fits;
      last = c.new-read.ensures.last;
      read = (
        [],
        subst P c.new-lines.ensures.lines c.in_ok-names.ensures.names,
        rw c.new-read.ensures.none none,
      );
    }

pub loop-line-preserved : goal.loop-line-preserved
loop-line-preserved c =
    let names = texts c.in_ok-names.names.items in
    let known = c.loop-line.invariant.read in
    let step = c.in_ok-read.ensures.read in
    let line : Line = record { number = c.in-Some.line; bytes = c.in-Some.text.now } in
    let rest = lines_from (c.next.new.self.number + 1) [] c.next.new.self.rest.now in
    let H : List Line → Type 0 = λ rows. HasHeader c.args.format (lines_of c.args.bytes.now) names
    rows in
    let S : List (Bor (List ℕ)) → Type 0 = λ words.
    SaysBySelf c.args.format c.args.layout.now (texts words) line (Ok step.0) in
    let R : List LinedEntry → Type 0 = λ entries.
    AreRead c.args.format c.args.layout.now c.args.clock names (known.0 ++ line ∷ []) entries in
    record {
      fits = c.in-Some.ensures.fits;
      last = c.in_ok-read.ensures.last;
      read = (
        known.0 ++ line ∷ [],
        subst H (ap (λ (lines : List Line). known.0 ++ lines) c.in-Some.ensures.line
            ∙ sym (append_assoc known.0 (line ∷ []) rest)) known.1,
        subst R (sym step.1) (more known.0 c.loop-line.read.entries.items line step.0 known.2
            (subst S c.deref.ensures.value step.2) step.3),
      );
    }
