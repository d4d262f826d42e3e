-- Clients that are released, and those whose unjudged call was judged once more.
use Rattle.std.proofs.Common.{◌≡◌, ◌∙◌, refl, sym, subst, ap, ℕ, ◌+◌, ◌*◌, ◌<◌, ◌≤◌, true, List, Some, length, slice_index, arith}
use Rattle.std.specs.Prelude.{Option}
use Rattle.std.proofs.lemmas.Bool.{false≢true}
use Rattle.book_base.specs.SeqSpec.{SeqSpec}
use Rattle.world_core.specs.Shape.{Meaning}
use Rattle.report_lines.specs.declared.line.Line.{Line}
use Rattle.report_lines.specs.Allotments.{operations_at}
use Rattle.row_table.specs.declared.rows.Rows.{Rows}
use Rattle.client_calls.specs.declared.stand.CallerState.{CallerState}
use Rattle.client_calls.specs.declared.stand.CallerState.TheVariants.{Idle, Announced, Answered, Viewed, Published, Halted, Unjudged}
use Rattle.client_calls.specs.declared.client.Client.{Client}
use Rattle.client_calls.specs.Asking.{Fits, PassCount, FitsCaller}
use Rattle.client_calls.specs.Stands.{caller_at, phases_at}
use Rattle.client_calls.specs.Course.{HasCome, Counts}
use Rattle.client_calls.specs.Clients.{Spent, HasSpent, Releases, Says, IsAtWork}
use Rattle.client_calls.specs.Finishing.{is_unjudged}
use Rattle.client_calls.specs.Keeping.{KeepsStanding, IsSameSheet}
use Rattle.run_report.specs.Starts.{RunCourse}
use Rattle.run_report.specs.Places.{AreInOrder}
use Rattle.run_report.specs.Returns.{IsSpent, KeepsNothing}
use Rattle.run_report.proofs.Returns.{spent_client}
use Rattle.run_report.specs.declared.worker.Worker.{Worker}

-- the phases of a caller whose last call is unjudged, and that it has spent an allotment
pub unjudged_phases : {P : Type 0} (lines : ℕ) (s : CallerState P) → is_unjudged s ≡ true
    → phases_at lines s ≡ 5 * lines + 5
unjudged_phases lines (Idle c) is = absurd (false≢true is)
unjudged_phases lines (Announced a) is = absurd (false≢true is)
unjudged_phases lines (Answered a) is = absurd (false≢true is)
unjudged_phases lines (Viewed v) is = absurd (false≢true is)
unjudged_phases lines (Published p) is = absurd (false≢true is)
unjudged_phases lines (Halted c) is = absurd (false≢true is)
unjudged_phases lines (Unjudged u) is = refl

pub unjudged_spent : {P : Type 0} (allotment lines : ℕ) (s : CallerState P) → is_unjudged s ≡ true
    → Spent allotment lines s → 5 * lines + 5 ≤ allotment
unjudged_spent allotment lines (Idle c) is h = absurd (false≢true is)
unjudged_spent allotment lines (Announced a) is h = absurd (false≢true is)
unjudged_spent allotment lines (Answered a) is h = absurd (false≢true is)
unjudged_spent allotment lines (Viewed v) is h = absurd (false≢true is)
unjudged_spent allotment lines (Published p) is h = absurd (false≢true is)
unjudged_spent allotment lines (Halted c) is h = absurd (false≢true is)
unjudged_spent allotment lines (Unjudged u) is h = h

-- Each worker before this place of the list keeps no book and no order.
abbrev pub AreFreeBelow : {P T E : Type 0} → ℕ → List (Worker P T E) → Type 0
AreFreeBelow place ws = AreInOrder (λ j w. j < place → KeepsNothing w) ws

module _ {P T E : Type 0} (meaning : P → ℕ → ℕ → Meaning) (r : Rows P) (says : Says)
    (object : E → SeqSpec) (fits : Fits T) (count : T → Option PassCount) where
  -- a client that was released is at work as before
  pub released_work : (c d : Client P T E) → Releases c d
      → IsAtWork meaning r says object fits count c → IsAtWork meaning r says object fits count d
  released_work c d rel work = record {
    course =
        subst (λ (e : E). HasCome meaning r (says (object e)) d.sheet.who d.sheet.operations.now
        d.stand d.sheet.lines.items) (sym rel.ending)
        (subst (λ (i : ℕ). HasCome meaning r (says (object c.sheet.ending)) i
        d.sheet.operations.now d.stand d.sheet.lines.items) (sym rel.who)
        (subst (λ (ops : List ℕ). HasCome meaning r (says (object c.sheet.ending)) c.sheet.who ops
        d.stand d.sheet.lines.items) (sym rel.operations)
        (subst (λ (s : CallerState P). HasCome meaning r (says (object c.sheet.ending)) c.sheet.who
        c.sheet.operations.now s d.sheet.lines.items) (sym rel.stand)
        (subst (λ (own : List Line). HasCome meaning r (says (object c.sheet.ending)) c.sheet.who
        c.sheet.operations.now c.stand own) (sym rel.lines) work.course))));
    pass = record {
      fits_caller = subst (λ (s : CallerState P). FitsCaller fits d.pass (caller_at s))
          (sym rel.stand) (subst (λ (p : T). FitsCaller fits p (caller_at c.stand)) (sym rel.pass)
          work.pass.fits_caller);
      counts =
          subst (λ (p : T). Counts (count p) d.sheet.operations.now d.stand d.sheet.lines.items)
          (sym rel.pass)
          (subst (λ (ops : List ℕ). Counts (count c.pass) ops d.stand d.sheet.lines.items)
          (sym rel.operations)
          (subst (λ (s : CallerState P). Counts (count c.pass) c.sheet.operations.now s
          d.sheet.lines.items) (sym rel.stand)
          (subst (λ (own : List Line). Counts (count c.pass) c.sheet.operations.now c.stand own)
          (sym rel.lines) work.pass.counts)));
    };
    has_capacity = record {
      rows = omega
          (arith, ap (λ (ops : List ℕ). length ops) rel.operations, work.has_capacity.rows);
      lines = omega (
        arith,
        ap (λ (ops : List ℕ). length ops) rel.operations,
        rel.capacity,
        work.has_capacity.lines,
      );
    };
    stands = subst (λ o. KeepsStanding (object d.sheet.ending) (record d.sheet { standing = o }))
        (sym rel.no_order) tt;
  }

  -- a worker whose client was released has spent its allotment as before
  pub released_spent : (course : RunCourse) (i : ℕ) (w v : Worker P T E) (c d : Client P T E)
      → w.client ≡ Some c → v.client ≡ Some d → Releases c d
      → IsSpent meaning r says object fits count course i w
      → IsSpent meaning r says object fits count course i v
  released_spent course i w v c d was is rel h =
      let before = spent_client meaning r says object fits count course i w c h was in
      let spent : HasSpent (slice_index course.allotments c.sheet.who) c = before.1 in
      record {
        client = d;
        here = is;
        of = record {
          work = released_work c d rel before.0.work;
          who = rel.who ∙ before.2;
          operations = rel.operations ∙ before.0.operations
              ∙ ap (λ (k : ℕ). operations_at course.operations k) before.2;
          judges = ap object rel.ending ∙ before.0.judges;
        };
        spent = subst (λ (k : ℕ). HasSpent (slice_index course.allotments k) d) before.2
            (subst (λ (own : List Line). Spent (slice_index course.allotments c.sheet.who)
            (length own) d.stand) (sym rel.lines)
            (subst (λ (s : CallerState P). Spent (slice_index course.allotments c.sheet.who)
            (length c.sheet.lines.items) s) (sym rel.stand) spent));
      }

  -- a worker whose client worked further has spent its allotment, where this client has spent it
  pub settled_spent : (course : RunCourse) (i : ℕ) (w v : Worker P T E) (c d : Client P T E)
      → w.client ≡ Some c → v.client ≡ Some d → IsAtWork meaning r says object fits count d
      → IsSameSheet object c.sheet d.sheet
      → HasSpent (slice_index course.allotments c.sheet.who) d
      → IsSpent meaning r says object fits count course i w
      → IsSpent meaning r says object fits count course i v
  settled_spent course i w v c d was is work same spent h =
      let before = spent_client meaning r says object fits count course i w c h was in
      record {
        client = d;
        here = is;
        of = record {
          work = work;
          who = same.who ∙ before.2;
          operations = same.operations ∙ before.0.operations
              ∙ ap (λ (k : ℕ). operations_at course.operations k) before.2;
          judges = same.judges ∙ before.0.judges;
        };
        spent = subst (λ (k : ℕ). HasSpent (slice_index course.allotments k) d) before.2 spent;
      }
