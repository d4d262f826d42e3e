-- How a caller is when its client leaves it.
use Rattle.std.proofs.Common.{◌≡◌, ◌∙◌, refl, sym, subst, ℕ, ◌%◌, false, true, List, length, Some, arith}
use Rattle.std.proofs.lemmas.Bool.{false≢true}
use Rattle.std.proofs.lemmas.Option.{none-some}
use Rattle.list_laws.proofs.Places.{slice_get-push_last}
use Rattle.std.specs.Prelude.{slice_get}
use Rattle.book_base.specs.declared.call.Record.{Record}
use Rattle.world_core.specs.Shape.{Meaning}
use Rattle.world_core.specs.Local.{Local}
use Rattle.report_lines.specs.declared.line.LineEnd.{LineEnd}
use Rattle.report_lines.specs.declared.line.Line.{Line}
use Rattle.report_lines.specs.Lines.{any_error}
use Rattle.row_table.specs.declared.rows.Rows.{Rows}
use Rattle.row_table.specs.Benches.{fresh_stance}
use Rattle.client_calls.specs.declared.stand.CallerState.{CallerState}
use Rattle.client_calls.specs.declared.stand.CallerState.TheVariants.{Idle, Announced, Answered, Viewed, Published, Halted, Unjudged}
use Rattle.client_calls.specs.Stands.{local_at_stand, phases_at}
use Rattle.client_calls.specs.Course.{EndsInError, HasCome}
use Rattle.client_calls.specs.Finishing.{end_at, is_unjudged, IsLeftStanding, stance_left}
use Rattle.client_calls.proofs.LinesLeft.{error_among}

-- lines that end in an error have one
ends_with_error : (own : List Line) → EndsInError own → any_error own ≡ true
ends_with_error own ends =
    error_among own (length ends.before) ends.line
    (subst (λ (o : List Line). slice_get o (length ends.before) ≡ Some ends.line) (sym ends.is)
    (slice_get-push_last ends.before ends.line)) ends.error

-- a call that leaves a line is under way
pub line_within : {P : Type 0} (s : CallerState P) (end : LineEnd) (lines : ℕ) → end_at s ≡ Some end
    → phases_at lines s % 5 ≡ 0 → ⊥
line_within (Idle c) end lines is through = none-some end is
line_within (Announced a) end lines is through = omega (arith, through)
line_within (Answered a) end lines is through = omega (arith, through)
line_within (Viewed v) end lines is through = omega (arith, through)
line_within (Published p) end lines is through = omega (arith, through)
line_within (Halted c) end lines is through = none-some end is
line_within (Unjudged u) end lines is through = none-some end is

module _ {P : Type 0} (meaning : P → ℕ → ℕ → Meaning) (r : Rows P)
    (says : ℕ → Local → Record → List ℕ → LineEnd → Type 0) (who : ℕ) (operations : List ℕ)
    (own : List Line) where
  pub left_standing : (s : CallerState P) → HasCome meaning r says who operations s own
      → IsLeftStanding (phases_at (length own) s) (local_at_stand s) (stance_left s)
  left_standing (Idle c) h = record {
    within = λ other. absurd (other (omega arith));
    between = λ live. (h.may.idle, h.may.stance);
  }
  left_standing (Announced a) h =
      record { within = λ other. refl; between = λ live. absurd (false≢true live) }
  left_standing (Answered a) h =
      record { within = λ other. refl; between = λ live. absurd (false≢true live) }
  left_standing (Viewed v) h =
      record { within = λ other. refl; between = λ live. absurd (false≢true live) }
  left_standing (Published p) h =
      record { within = λ other. refl; between = λ live. absurd (false≢true live) }
  left_standing (Halted c) h =
      record { within = λ other. h.may; between = λ live. absurd (false≢true (sym h.may ∙ live)) }
  left_standing (Unjudged u) h =
      record { within = λ other. refl; between = λ live. absurd (false≢true live) }

  -- where no memory was wanted, no line is an error and no call is under way, the caller is free
  pub left_free : (s : CallerState P) → HasCome meaning r says who operations s own
      → is_unjudged s ≡ false → any_error own ≡ false → phases_at (length own) s % 5 ≡ 0
      → stance_left s ≡ fresh_stance
  left_free (Idle c) h judged none through = h.may.stance
  left_free (Announced a) h judged none through = absurd (omega (arith, through))
  left_free (Answered a) h judged none through = absurd (omega (arith, through))
  left_free (Viewed v) h judged none through = absurd (omega (arith, through))
  left_free (Published p) h judged none through = absurd (omega (arith, through))
  left_free (Halted c) h judged none through =
      absurd (false≢true (sym none ∙ ends_with_error own h.errors))
  left_free (Unjudged u) h judged none through = absurd (false≢true (sym judged))
