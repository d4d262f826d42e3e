-- The lines that a client leaves, whatever state its caller is in.
use Rattle.std.proofs.Common.{◌≡◌, ◌∙◌, sym, subst, ap, refl, inl, inr, ℕ, zero, suc, ◌+◌, ◌*◌, ◌<◌, ◌≤◌, Bool, true, false, cond, ◌||◌, List, [], ◌∷◌, ◌++◌, Some, None, length, slice_get, slice_index, arith}
use Rattle.std.proofs.lemmas.Bool.{false≢true}
use Rattle.std.proofs.lemmas.List.{append-nil, length-take, length_push}
use Rattle.std.proofs.lemmas.Option.{none-some, same_Some}
use Rattle.list_laws.proofs.Places.{slice_get-push_last, slice_get-push_cases}
use Rattle.book_base.specs.declared.call.Record.{Record}
use Rattle.world_core.specs.Shape.{Meaning}
use Rattle.world_core.specs.Local.{Local}
use Rattle.world_core.specs.Calls.{Made, calls_in}
use Rattle.report_lines.specs.declared.line.LineEnd.{LineEnd}
use Rattle.report_lines.specs.declared.line.LineEnd.TheVariants.{Pending, Unchecked}
use Rattle.report_lines.specs.declared.line.Line.{Line}
use Rattle.report_lines.specs.Lines.{is_error, any_error}
use Rattle.report_lines.specs.Phases.{Progress, IsProgressAfter, HasMade, begun, progress_of}
use Rattle.report_lines.specs.Allotments.{phases_of, KeepsTo}
use Rattle.report_lines.proofs.Telling.{as_many_calls}
use Rattle.row_table.specs.declared.rows.Rows.{Rows}
use Rattle.drv_wrapper.specs.States.{record_viewed}
use Rattle.enforcer.specs.States.{record_published}
use Rattle.client_calls.specs.declared.stand.CallerState.{CallerState}
use Rattle.client_calls.specs.declared.stand.CallerState.TheVariants.{Idle, Announced, Answered, Viewed, Published, Halted, Unjudged}
use Rattle.client_calls.specs.Ends.{IsLineOf, AreLinesOfCalls, HasLeftAt}
use Rattle.client_calls.specs.Stands.{local_at_stand, phases_at}
use Rattle.client_calls.specs.Course.{EndsInError, HasCome}
use Rattle.client_calls.specs.Clients.{Spent}
use Rattle.client_calls.specs.Finishing.{end_at, is_unjudged}
use Rattle.client_calls.proofs.Lines.{one_more_line, no_more_errors}

-- lines of which one is an error have an error
pub error_among : (own : List Line) (k : ℕ) (line : Line) → slice_get own k ≡ Some line
    → is_error line ≡ true → any_error own ≡ true
error_among [] k line there error = absurd (none-some line there)
error_among (first ∷ own) zero line there error =
    ap (λ (b : Bool). b || any_error own) (ap is_error (same_Some first line there) ∙ error)
error_among (first ∷ own) (suc k) line there error =
    suffix (is_error first) (any_error own) (error_among own k line there error)
  where
    suffix : (a b : Bool) → b ≡ true → (a || b) ≡ true
    suffix true b e = refl
    suffix false b e = e

-- no more calls have begun than there are operations
begun_few : (operations : List ℕ) (p : ℕ) (progress : Progress)
    → IsProgressAfter operations p progress → begun p ≤ length operations
begun_few operations p progress h =
    omega (
      arith,
      as_many_calls operations p progress h,
      ap (λ (ops : List ℕ). length ops) h.in_order,
      length-take (begun p) operations,
    )

-- a caller whose lines have no error, and that has made the phases of its allotment, has made those
-- that its lines show, and keeps to its allotment
left_without_error : (operations : List ℕ) (allotment p : ℕ) (l : Local) (own : List Line)
    → any_error own ≡ false → p ≡ allotment → HasMade operations p l
    → HasMade operations (phases_of allotment own) l × KeepsTo allotment own
    × (p ≡ phases_of allotment own)
left_without_error operations allotment p l own none is made =
    let phases : phases_of allotment own ≡ allotment =
    ap (λ (b : Bool). cond b (5 * length own) allotment) none in (
      subst (λ (q : ℕ). HasMade operations q l) (is ∙ sym phases) made,
      record {
        within = omega (arith, phases);
        last = λ k line there error.
            absurd (false≢true (sym none ∙ error_among own k line there error));
      },
      is ∙ sym phases,
    )

-- a caller whose last line alone is an error, and that has made all phases of its lines within its
-- allotment, has made those that its lines show, and keeps to its allotment
left_with_error : (operations : List ℕ) (allotment p : ℕ) (l : Local) (own : List Line)
    → EndsInError own → p ≡ 5 * length own → p ≤ allotment → HasMade operations p l
    → HasMade operations (phases_of allotment own) l × KeepsTo allotment own
    × (p ≡ phases_of allotment own)
left_with_error operations allotment p l own ends is few made =
    let there : slice_get own (length ends.before) ≡ Some ends.line =
    subst (λ (o : List Line). slice_get o (length ends.before) ≡ Some ends.line) (sym ends.is)
    (slice_get-push_last ends.before ends.line) in
    let some : any_error own ≡ true =
    error_among own (length ends.before) ends.line there ends.error in
    let long : length own ≡ length ends.before + 1 =
    ap (λ (o : List Line). length o) ends.is ∙ length_push ends.before ends.line in
    let phases : phases_of allotment own ≡ 5 * length own =
    ap (λ (b : Bool). cond b (5 * length own) allotment) some in (
      subst (λ (q : ℕ). HasMade operations q l) (is ∙ sym phases) made,
      record {
        within = omega (arith, phases, is, few);
        last = λ k line at error. elim (slice_get-push_cases ends.before ends.line k line
            (subst (λ (o : List Line). slice_get o k ≡ Some line) ends.is at)) [
              | inl before ↦
                  absurd (false≢true (sym ends.none ∙ error_among ends.before k line before error))
              | inr last ↦ omega (arith, last.0, long)
            ];
      },
      is ∙ sym phases,
    )

module _ {P : Type 0} (meaning : P → ℕ → ℕ → Meaning) (r : Rows P)
    (says : ℕ → Local → Record → List ℕ → LineEnd → Type 0) (who : ℕ) (operations : List ℕ)
    (own : List Line) where
  abbrev op : ℕ
  op = slice_index operations (length own)

  abbrev Come : CallerState P → Type 0
  Come s = HasCome meaning r says who operations s own

  -- where a client's caller is within a call, its lines are fewer than its operations
  pub operation_left : (s : CallerState P) (end : LineEnd) → Come s → end_at s ≡ Some end
      → length own < length operations
  operation_left (Idle c) end h is = absurd (none-some end is)
  operation_left (Announced a) end h is = omega (
    arith,
    begun_few operations (5 * length own + 1) (progress_of (local_at_stand (Announced a))) h.made,
  )
  operation_left (Answered a) end h is = omega (
    arith,
    begun_few operations (5 * length own + 2) (progress_of (local_at_stand (Answered a))) h.made,
  )
  operation_left (Viewed v) end h is = omega (
    arith,
    begun_few operations (5 * length own + 3) (progress_of (local_at_stand (Viewed v))) h.made,
  )
  operation_left (Published p) end h is = omega (
    arith,
    begun_few operations (5 * length own + 4) (progress_of (local_at_stand (Published p))) h.made,
  )
  operation_left (Halted c) end h is = absurd (none-some end is)
  operation_left (Unjudged u) end h is = absurd (none-some end is)

  -- a client that is left within a call leaves the lines of the ended calls and that of this one
  pending_left : (l : Local) (allotment p : ℕ) (ended : List Made) (call : Made) (end : LineEnd)
      → calls_in l ≡ ended ++ call ∷ [] → AreLinesOfCalls (says r.callers l) ended own
      → IsLineOf (says r.callers l) call (record { op = op; end = end }) → any_error own ≡ false
      → is_error (record { op = op; end = end }) ≡ false
      → p ≡ allotment → HasMade operations p l → HasLeftAt says r.callers operations allotment p l
      (own ++ record { op = op; end = end } ∷ [])
  pending_left l allotment p ended call end calls lines line none one is made =
      let all : List Line = own ++ record { op = op; end = end } ∷ [] in
      let left = left_without_error operations allotment p l all
      (no_more_errors own (record { op = op; end = end }) none one) is made in
      record {
        left = record {
          lines = subst (λ (cs : List Made). AreLinesOfCalls (says r.callers l) cs all) (sym calls)
              (one_more_line (says r.callers l) ended own call
              (record { op = op; end = end }) lines line);
          made = left.0;
          keeps = left.1;
        };
        is = left.2;
      }

  pub noted_left : (s : CallerState P) (end : LineEnd) (allotment : ℕ) → Come s
      → end_at s ≡ Some end
      → Spent allotment (length own) s
      → HasLeftAt says r.callers operations allotment (phases_at (length own) s) (local_at_stand s)
      (own ++ record { op = op; end = end } ∷ [])
  noted_left (Idle c) end allotment h is spent = absurd (none-some end is)
  noted_left (Announced a) end allotment h is spent =
      subst (λ (e : LineEnd). HasLeftAt says r.callers operations allotment (phases_at (length own)
      (Announced a)) (local_at_stand (Announced a)) (own ++ record { op = op; end = e } ∷ []))
      (same_Some Pending end is)
      (pending_left (local_at_stand (Announced a)) allotment
      (phases_at (length own) (Announced a)) h.ended _ Pending h.calls h.lines
      (record { operation = refl; end = refl }) h.errors refl spent h.made)
  noted_left (Answered a) end allotment h is spent =
      subst (λ (e : LineEnd). HasLeftAt says r.callers operations allotment (phases_at (length own)
      (Answered a)) (local_at_stand (Answered a)) (own ++ record { op = op; end = e } ∷ []))
      (same_Some Pending end is)
      (pending_left (local_at_stand (Answered a)) allotment
      (phases_at (length own) (Answered a)) h.ended _ Pending h.calls h.lines
      (record { operation = refl; end = refl }) h.errors refl spent h.made)
  noted_left (Viewed v) end allotment h is spent =
      let mine : LineEnd = Unchecked (record_viewed v) in
      subst (λ (e : LineEnd). HasLeftAt says r.callers operations allotment (phases_at (length own)
      (Viewed v)) (local_at_stand (Viewed v)) (own ++ record { op = op; end = e } ∷ []))
      (same_Some mine end is)
      (pending_left (local_at_stand (Viewed v)) allotment
      (phases_at (length own) (Viewed v)) h.ended _ mine h.calls h.lines
      (record { operation = refl; end = refl }) h.errors refl spent h.made)
  noted_left (Published p) end allotment h is spent =
      let mine : LineEnd = Unchecked (record_published p) in
      subst (λ (e : LineEnd). HasLeftAt says r.callers operations allotment (phases_at (length own)
      (Published p)) (local_at_stand (Published p)) (own ++ record { op = op; end = e } ∷ []))
      (same_Some mine end is)
      (pending_left (local_at_stand (Published p)) allotment
      (phases_at (length own) (Published p)) h.ended _ mine h.calls h.lines
      (record { operation = refl; end = refl }) h.errors refl spent h.made)
  noted_left (Halted c) end allotment h is spent = absurd (none-some end is)
  noted_left (Unjudged u) end allotment h is spent = absurd (none-some end is)

  -- where no call is under way, the lines are those of all calls of the caller
  all_left : (l : Local) (ended : List Made)
      → calls_in l ≡ ended ++ [] → AreLinesOfCalls (says r.callers l) ended own
      → AreLinesOfCalls (says r.callers l) (calls_in l) own
  all_left l ended calls lines =
      subst (λ (cs : List Made). AreLinesOfCalls (says r.callers l) cs own)
      (sym (calls ∙ append-nil ended)) lines

  pub unnoted_left : (s : CallerState P) (allotment : ℕ) → Come s → end_at s ≡ None
      → is_unjudged s ≡ false → Spent allotment (length own) s
      → HasLeftAt says r.callers operations allotment (phases_at (length own) s)
      (local_at_stand s) own
  unnoted_left (Idle c) allotment h is judged spent =
      let left = left_without_error operations allotment (phases_at (length own) (Idle c))
      (local_at_stand (Idle c)) own h.errors spent h.made in
      record {
        left = record {
          lines = all_left (local_at_stand (Idle c)) h.ended h.calls h.lines;
          made = left.0;
          keeps = left.1;
        };
        is = left.2;
      }
  unnoted_left (Announced a) allotment h is judged spent = absurd (none-some _ (sym is))
  unnoted_left (Answered a) allotment h is judged spent = absurd (none-some _ (sym is))
  unnoted_left (Viewed v) allotment h is judged spent = absurd (none-some _ (sym is))
  unnoted_left (Published p) allotment h is judged spent = absurd (none-some _ (sym is))
  unnoted_left (Halted c) allotment h is judged spent =
      let left = left_with_error operations allotment (phases_at (length own) (Halted c))
      (local_at_stand (Halted c)) own h.errors (omega arith) (omega (arith, spent)) h.made in
      record {
        left = record {
          lines = all_left (local_at_stand (Halted c)) h.ended h.calls h.lines;
          made = left.0;
          keeps = left.1;
        };
        is = left.2;
      }
  unnoted_left (Unjudged u) allotment h is judged spent = absurd (false≢true (sym judged))
