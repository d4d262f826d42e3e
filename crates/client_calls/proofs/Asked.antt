-- What holds of a call that its caller leaves under way.
use Rattle.std.proofs.Common.{◌≡◌, subst, ℕ, List, length, arith}
use Rattle.std.specs.Prelude.{IsTrue}
use Rattle.book_base.specs.declared.call.Record.{Record}
use Rattle.world_core.specs.Shape.{Meaning}
use Rattle.world_core.specs.Local.{Local}
use Rattle.report_lines.specs.declared.line.LineEnd.{LineEnd}
use Rattle.report_lines.specs.declared.line.Line.{Line}
use Rattle.row_table.specs.declared.caller.Caller.{Caller}
use Rattle.row_table.specs.declared.rows.Rows.{Rows}
use Rattle.row_table.specs.Callers.{shape_of, who_of, local_with, IsCallerOf, MayGet}
use Rattle.drv_wrapper.specs.States.{caller_answered, reply_answered}
use Rattle.client_calls.specs.declared.stand.CallerState.{CallerState}
use Rattle.client_calls.specs.declared.stand.CallerState.TheVariants.{Idle, Announced, Answered, Viewed, Published, Halted, Unjudged}
use Rattle.client_calls.specs.Stands.{local_at_stand, phases_at}
use Rattle.client_calls.specs.Course.{HasCome}
use Rattle.client_calls.specs.Finishing.{KeepsAsked}

-- a reply that a caller's program allows, the program of its rows allows too
allowed_by_rows : {P : Type 0} (meaning : P → ℕ → ℕ → Meaning) (r : Rows P) (c : Caller P)
    (who reply : ℕ) → IsCallerOf meaning r c → who_of c ≡ who
    → MayGet meaning c reply
    → IsTrue ((shape_of meaning r).program.may_reply who (local_with c) reply)
allowed_by_rows {P} meaning r c who reply h number may =
    subst (λ (i : ℕ). IsTrue ((meaning r.program r.callers r.cap).may_reply i (local_with c) reply))
    number
    (subst (λ (n : ℕ).
    IsTrue ((meaning r.program r.callers n).may_reply (who_of c) (local_with c) reply)) h.cap
    (subst (λ (n : ℕ).
    IsTrue ((meaning r.program n c.cap).may_reply (who_of c) (local_with c) reply)) h.callers
    (subst
    (λ (p : P). IsTrue ((meaning p c.callers c.cap).may_reply (who_of c) (local_with c) reply))
    h.program may)))

-- in whatever state its caller is, a call under way has made no object step before it is asked, and
-- has a reply that the program allows it once it is answered
pub keeps_asked : {P : Type 0} (meaning : P → ℕ → ℕ → Meaning) (r : Rows P)
    (says : ℕ → Local → Record → List ℕ → LineEnd → Type 0) (who : ℕ) (operations : List ℕ)
    (s : CallerState P) (own : List Line)
    → HasCome meaning r says who operations s own
    → KeepsAsked (shape_of meaning r).program who (phases_at (length own) s) (local_at_stand s)
keeps_asked meaning r says who operations (Idle c) own h =
    record { unasked = λ e. absurd (omega (arith, e)); asked = λ e. absurd (omega (arith, e)) }
keeps_asked meaning r says who operations (Announced a) own h =
    record { unasked = λ e. h.may.1; asked = λ e. absurd (omega (arith, e)) }
keeps_asked meaning r says who operations (Answered a) own h =
    record {
      unasked = λ e. absurd (omega (arith, e));
      asked = λ e. (
        reply_answered a,
        allowed_by_rows meaning r (caller_answered a) who
            (reply_answered a) h.caller h.number h.may.1,
      );
    }
keeps_asked meaning r says who operations (Viewed v) own h =
    record { unasked = λ e. absurd (omega (arith, e)); asked = λ e. absurd (omega (arith, e)) }
keeps_asked meaning r says who operations (Published p) own h =
    record { unasked = λ e. absurd (omega (arith, e)); asked = λ e. absurd (omega (arith, e)) }
keeps_asked meaning r says who operations (Halted c) own h =
    record { unasked = λ e. absurd (omega (arith, e)); asked = λ e. absurd (omega (arith, e)) }
keeps_asked meaning r says who operations (Unjudged u) own h =
    record { unasked = λ e. absurd (omega (arith, e)); asked = λ e. absurd (omega (arith, e)) }
