-- A client after the end of a call; and an idle caller, which has a row left.
use Rattle.std.proofs.Common.{◌≡◌, ◌∙◌, sym, subst, ap, refl, ℕ, ◌+◌, ◌*◌, List, [], ◌∷◌, ◌++◌, length, slice_index, arith}
use Rattle.std.proofs.lemmas.List.{append-nil, length-map, length_push}
use Rattle.std.proofs.lemmas.List.FromFn.{length-map-range_with_len}
use Rattle.book_base.specs.declared.call.Record.{Record}
use Rattle.world_core.specs.Shape.{Meaning}
use Rattle.world_core.specs.Local.{Local}
use Rattle.world_core.specs.Calls.{Has_seen, Made, call_in, calls_in}
use Rattle.report_lines.specs.declared.line.LineEnd.{LineEnd}
use Rattle.report_lines.specs.declared.line.Line.{Line}
use Rattle.report_lines.specs.Phases.{Progress, progress_of}
use Rattle.report_lines.proofs.Stepping.{seeing_is_a_phase}
use Rattle.report_lines.proofs.Telling.{as_many_calls}
use Rattle.row_table.specs.declared.caller.Caller.{Caller}
use Rattle.row_table.specs.declared.rows.Rows.{Rows}
use Rattle.row_table.specs.Callers.{shape_of, who_of, local_with}
use Rattle.drv_wrapper.proofs.Locals.{local_has_phase}
use Rattle.enforcer.specs.declared.published_call.Published.{Published}
use Rattle.enforcer.specs.declared.seen_call.Seen.{Seen}
use Rattle.enforcer.specs.States.{caller_published, caller_seen, cut_seen, record_published, record_seen}
use Rattle.client_calls.specs.declared.stand.CallerState.{CallerState}
use Rattle.client_calls.specs.declared.stand.CallerState.TheVariants as at
use Rattle.client_calls.specs.declared.ended.Ended.{Ended}
use Rattle.client_calls.specs.declared.ended.Ended.TheVariants.{GoesOn, Halts, WantsMemory}
use Rattle.client_calls.specs.Endings.{local_ended, HasEnded, HasEndedSeen, IsNoted}
use Rattle.client_calls.specs.Stands.{phases_at}
use Rattle.client_calls.specs.Course.{HasCome}
use Rattle.client_calls.proofs.Phases.{progress_along}
use Rattle.client_calls.proofs.Lines.{lines_stay, one_more_line, no_more_errors}
use Rattle.client_calls.proofs.Coming.{Stays, seen_calls}

module _ {P : Type 0} (meaning : P → ℕ → ℕ → Meaning) (r : Rows P)
    (says : ℕ → Local → Record → List ℕ → LineEnd → Type 0) (stays : Stays says) (who : ℕ)
    (operations : List ℕ) (own : List Line) where
  abbrev Come : CallerState P → List Line → Type 0
  Come s own' = HasCome meaning r says who operations s own'

  abbrev op : ℕ
  op = slice_index operations (length own)

  -- an idle caller has announced as many calls as it has lines
  pub idle_announced : (c : Caller P) → Come (at.Idle c) own → (local_with c).announced ≡ length own
  idle_announced c h =
      let phase =
      local_has_phase (shape_of meaning r) (who_of c) (local_with c) h.caller.seat.local in
      let begun =
      as_many_calls operations (5 * length own + 0) (progress_of (local_with c)) h.made in
      omega (
        arith,
        begun,
        phase.operations,
        length-map (calls_in (local_with c)) (λ (m : Made). m.operation),
        length-map-range_with_len (λ k. call_in (local_with c) k) 0
            (length (local_with c).operations),
      )

  -- after a call has ended, in whatever way, the caller's calls are those that had ended before and
  -- this one, with its seen cut
  ended_calls : (p : Published P) (e : Ended P) (h : Come (at.Published p) own)
      (end : HasEnded meaning r says p e)
      → calls_in (local_ended e)
      ≡ h.ended ++ record { operation = op; reached = Has_seen (record_published p) end.cut } ∷ []
  ended_calls p e h end = seen_calls (progress_of (local_with (caller_published p)))
      (progress_of (local_ended e)) end.cut (record_published p) op h.ended end.progress h.calls

  -- the client has come to the state after a call that has ended
  pub ended_come : (p : Published P) (e : Ended P) (s : CallerState P) (own' : List Line)
      → Come (at.Published p) own → HasEnded meaning r says p e → IsNoted op own e own' s
      → Come s own'
  ended_come p (GoesOn c end) s own' h e noted =
      let line : Line = record { op = op; end = end } in
      let all : List Line = own ++ line ∷ [] in
      let calls = ended_calls p (GoesOn c end) h e in
      let come : Come (at.Idle c) all = record {
        caller = e.still.0;
        number = e.still.1 ∙ h.number;
        made = progress_along operations (5 * (length own + 1)) (5 * length all + 0) _ _
            (omega (arith, length_push own line)) (sym e.progress)
            (seeing_is_a_phase operations (length own)
            (progress_of (local_with (caller_published p))) e.cut h.made);
        ended = h.ended
            ++ record { operation = op; reached = Has_seen (record_published p) e.cut } ∷ [];
        calls = calls ∙ sym (append-nil (h.ended
            ++ record { operation = op; reached = Has_seen (record_published p) e.cut } ∷ []));
        lines = one_more_line _ h.ended own _ line
            (lines_stay _ _ (λ r' cut end'. stays r.callers (local_with (caller_published p))
            (local_with c) r' cut end' e.grows) h.ended own h.lines)
            (record { operation = refl; end = e.says_of });
        errors = no_more_errors own line h.errors (e.error op);
        may = e.stands;
      } in
      subst (λ (t : CallerState P). Come t own') (sym noted.0)
      (subst (λ (o : List Line). Come (at.Idle c) o) (sym noted.1) come)
  ended_come p (Halts c end) s own' h e noted =
      let line : Line = record { op = op; end = end } in
      let all : List Line = own ++ line ∷ [] in
      let calls = ended_calls p (Halts c end) h e in
      let come : Come (at.Halted c) all = record {
        caller = e.still.0;
        number = e.still.1 ∙ h.number;
        made = progress_along operations (5 * (length own + 1)) (5 * length all + 0) _ _
            (omega (arith, length_push own line)) (sym e.progress)
            (seeing_is_a_phase operations (length own)
            (progress_of (local_with (caller_published p))) e.cut h.made);
        ended = h.ended
            ++ record { operation = op; reached = Has_seen (record_published p) e.cut } ∷ [];
        calls = calls ∙ sym (append-nil (h.ended
            ++ record { operation = op; reached = Has_seen (record_published p) e.cut } ∷ []));
        lines = one_more_line _ h.ended own _ line
            (lines_stay _ _ (λ r' cut end'. stays r.callers (local_with (caller_published p))
            (local_with c) r' cut end' e.grows) h.ended own h.lines)
            (record { operation = refl; end = e.says_of });
        errors =
            record { before = own; line = line; is = refl; none = h.errors; error = e.error op };
        may = e.stands;
      } in
      subst (λ (t : CallerState P). Come t own') (sym noted.0)
      (subst (λ (o : List Line). Come (at.Halted c) o) (sym noted.1) come)
  ended_come p (WantsMemory u) s own' h e noted =
      let calls = ended_calls p (WantsMemory u) h e in
      let with : Record → List ℕ → List Made =
      λ x y. record { operation = op; reached = Has_seen x y } ∷ [] in
      let is : with (record_published p) e.cut ≡ with (record_seen u) (cut_seen u) =
      ap (λ (x : Record). with x e.cut) (sym e.says_of.0)
      ∙ ap (with (record_seen u)) (sym e.says_of.1) in
      let come : Come (at.Unjudged u) own = record {
        caller = e.still.0;
        number = e.still.1 ∙ h.number;
        made = progress_along operations (5 * (length own + 1)) (5 * length own + 5) _ _
            (omega arith) (sym e.progress)
            (seeing_is_a_phase operations (length own)
            (progress_of (local_with (caller_published p))) e.cut h.made);
        ended = h.ended;
        calls = calls ∙ ap (λ (rest : List Made). h.ended ++ rest) is;
        lines = lines_stay _ _ (λ r' cut end'. stays r.callers (local_with (caller_published p))
            (local_with (caller_seen u)) r' cut end' e.grows) h.ended own h.lines;
        errors = h.errors;
        may = tt;
      } in
      subst (λ (t : CallerState P). Come t own') (sym noted.0)
      (subst (λ (o : List Line). Come (at.Unjudged u) o) (sym noted.1) come)

  -- the client has come to the state after its unjudged call was judged once more, or was left
  -- unjudged once more
  pub again_come : (t : Seen P) (e : Ended P) (s : CallerState P) (own' : List Line)
      → Come (at.Unjudged t) own → HasEndedSeen meaning r says t e → IsNoted op own e own' s
      → Come s own'
  again_come t (GoesOn c end) s own' h e noted =
      let line : Line = record { op = op; end = end } in
      let all : List Line = own ++ line ∷ [] in
      let last : Made =
      record { operation = op; reached = Has_seen (record_seen t) (cut_seen t) } in
      let come : Come (at.Idle c) all = record {
        caller = e.still.0;
        number = e.still.1 ∙ h.number;
        made = progress_along operations (5 * length own + 5) (5 * length all + 0) _ _
            (omega (arith, length_push own line)) (sym e.progress) h.made;
        ended = h.ended ++ last ∷ [];
        calls = ap (λ (x : Progress). x.calls) e.progress ∙ h.calls
            ∙ sym (append-nil (h.ended ++ last ∷ []));
        lines = one_more_line _ h.ended own last line
            (lines_stay _ _ (λ r' cut end'. stays r.callers (local_with (caller_seen t))
            (local_with c) r' cut end' e.grows) h.ended own h.lines)
            (record { operation = refl; end = e.says_of });
        errors = no_more_errors own line h.errors (e.error op);
        may = e.stands;
      } in
      subst (λ (z : CallerState P). Come z own') (sym noted.0)
      (subst (λ (o : List Line). Come (at.Idle c) o) (sym noted.1) come)
  again_come t (Halts c end) s own' h e noted =
      let line : Line = record { op = op; end = end } in
      let all : List Line = own ++ line ∷ [] in
      let last : Made =
      record { operation = op; reached = Has_seen (record_seen t) (cut_seen t) } in
      let come : Come (at.Halted c) all = record {
        caller = e.still.0;
        number = e.still.1 ∙ h.number;
        made = progress_along operations (5 * length own + 5) (5 * length all + 0) _ _
            (omega (arith, length_push own line)) (sym e.progress) h.made;
        ended = h.ended ++ last ∷ [];
        calls = ap (λ (x : Progress). x.calls) e.progress ∙ h.calls
            ∙ sym (append-nil (h.ended ++ last ∷ []));
        lines = one_more_line _ h.ended own last line
            (lines_stay _ _ (λ r' cut end'. stays r.callers (local_with (caller_seen t))
            (local_with c) r' cut end' e.grows) h.ended own h.lines)
            (record { operation = refl; end = e.says_of });
        errors = record { before = own; line = line; is = refl; none = h.errors; error = e.error op };
        may = e.stands;
      } in
      subst (λ (z : CallerState P). Come z own') (sym noted.0)
      (subst (λ (o : List Line). Come (at.Halted c) o) (sym noted.1) come)
  again_come t (WantsMemory u) s own' h e noted =
      let with : Record → List ℕ → List Made =
      λ x y. record { operation = op; reached = Has_seen x y } ∷ [] in
      let is : with (record_seen t) (cut_seen t) ≡ with (record_seen u) (cut_seen u) =
      ap (λ (x : Record). with x (cut_seen t)) (sym e.says_of.0)
      ∙ ap (with (record_seen u)) (sym e.says_of.1) in
      let come : Come (at.Unjudged u) own = record {
        caller = e.still.0;
        number = e.still.1 ∙ h.number;
        made = progress_along operations (5 * length own + 5) (5 * length own + 5) _ _ refl
            (sym e.progress) h.made;
        ended = h.ended;
        calls = ap (λ (x : Progress). x.calls) e.progress ∙ h.calls
            ∙ ap (λ (rest : List Made). h.ended ++ rest) is;
        lines = lines_stay _ _ (λ r' cut end'. stays r.callers (local_with (caller_seen t))
            (local_with (caller_seen u)) r' cut end' e.grows) h.ended own h.lines;
        errors = h.errors;
        may = tt;
      } in
      subst (λ (z : CallerState P). Come z own') (sym noted.0)
      (subst (λ (o : List Line). Come (at.Unjudged u) o) (sym noted.1) come)

-- all five phases are made, however the call has ended
pub phases_noted : {P : Type 0} (op : ℕ) (own : List Line) (e : Ended P) (s : CallerState P)
    (own' : List Line) → IsNoted op own e own' s → phases_at (length own') s ≡ 5 * length own + 5
phases_noted {P} op own (GoesOn c end) s own' noted =
    let long : length own' ≡ length own + 1 =
    ap (λ (o : List Line). length o) noted.1 ∙ length_push own (record { op = op; end = end }) in
    ap (λ (t : CallerState P). phases_at (length own') t) noted.0 ∙ omega (arith, long)
phases_noted {P} op own (Halts c end) s own' noted =
    let long : length own' ≡ length own + 1 =
    ap (λ (o : List Line). length o) noted.1 ∙ length_push own (record { op = op; end = end }) in
    ap (λ (t : CallerState P). phases_at (length own') t) noted.0 ∙ omega (arith, long)
phases_noted {P} op own (WantsMemory u) s own' noted =
    ap (λ (t : CallerState P). phases_at (length own') t) noted.0
    ∙ ap (λ (o : List Line). 5 * length o + 5) noted.1
