-- What is told of a client's calls, phase by phase.
use Rattle.std.proofs.Common.{◌≡◌, ◌∙◌, sym, subst, ap, refl, ℕ, ◌+◌, ◌*◌, ◌<◌, List, [], ◌∷◌, ◌++◌, length, slice_index, arith}
use Rattle.std.specs.Prelude.{Option, Some, None, IfSome}
use Rattle.book_base.specs.declared.call.Record.{Record}
use Rattle.world_core.specs.Shape.{Meaning}
use Rattle.world_core.specs.Local.{Local}
use Rattle.world_core.specs.CallSteps.{all_steps_of}
use Rattle.world_core.specs.Calls.{calls_in}
use Rattle.report_lines.specs.declared.line.LineEnd.{LineEnd}
use Rattle.report_lines.specs.declared.line.Line.{Line}
use Rattle.report_lines.specs.Phases.{Progress, IsTold, progress_of, asked}
use Rattle.report_lines.specs.Progress.{after_announcing, after_viewing, after_publishing, after_seeing}
use Rattle.report_lines.proofs.Telling.{told_as_announced, told_as_asked, told_as_viewed, told_as_published, told_as_seen}
use Rattle.row_table.specs.declared.caller.Caller.{Caller}
use Rattle.row_table.specs.declared.rows.Rows.{Rows}
use Rattle.row_table.specs.Callers.{local_with}
use Rattle.drv_wrapper.specs.declared.announced.Announced.{Announced}
use Rattle.drv_wrapper.specs.declared.answered.Answered.{Answered}
use Rattle.drv_wrapper.specs.declared.viewed.Viewed.{Viewed}
use Rattle.drv_wrapper.specs.States.{op_announced, announced_local, op_answered, reply_answered, answered_local, viewed_local, record_viewed}
use Rattle.drv_wrapper.specs.Telling.{told_after}
use Rattle.enforcer.specs.declared.published_call.Published.{Published}
use Rattle.enforcer.specs.declared.seen_call.Seen.{Seen}
use Rattle.enforcer.specs.States.{caller_published, caller_seen}
use Rattle.client_calls.specs.declared.stand.CallerState.{CallerState}
use Rattle.client_calls.specs.declared.stand.CallerState.TheVariants as at
use Rattle.client_calls.specs.declared.ended.Ended.{Ended}
use Rattle.client_calls.specs.declared.ended.Ended.TheVariants.{GoesOn, Halts, WantsMemory}
use Rattle.client_calls.specs.Endings.{local_ended, HasEnded, HasEndedSeen, IsNoted}
use Rattle.client_calls.specs.Stands.{phases_at}
use Rattle.client_calls.specs.Asking.{PassCount, HasCallLeft, count_after, ComesNoFurther}
use Rattle.client_calls.specs.Course.{HasCome, HasTold, HasAskedFor, Counts}
use Rattle.client_calls.proofs.Phases.{progress_along}

pub if_some_as : {X : Type 0} (told : Option X) (A B : X → Type 0) → ((x : X) → A x → B x)
    → IfSome told A → IfSome told B
if_some_as None A B turns h = h
if_some_as (Some x) A B turns h = turns x h

if_some_after : (told told' : Option (List (ℕ × ℕ))) (op reply : ℕ) (A B : List (ℕ × ℕ) → Type 0)
    → ((pairs : List (ℕ × ℕ)) → A pairs → B (pairs ++ (op, reply) ∷ []))
    → told' ≡ told_after op reply told → IfSome told A → IfSome told' B
if_some_after None told' op reply A B turns is h =
    subst (λ (o : Option (List (ℕ × ℕ))). IfSome o B) (sym is) h
if_some_after (Some pairs) told' op reply A B turns is h =
    subst (λ (o : Option (List (ℕ × ℕ))). IfSome o B) (sym is) (turns pairs h)

told_along : (p q : ℕ) (x y : Progress) (pairs : List (ℕ × ℕ)) → p ≡ q → x ≡ y
    → IsTold p x.calls pairs → IsTold q y.calls pairs
told_along p q x y pairs same is h =
    subst (λ (k : ℕ). IsTold k y.calls pairs) same
    (subst (λ (z : Progress). IsTold p z.calls pairs) is h)

module _ {P : Type 0} (meaning : P → ℕ → ℕ → Meaning) (r : Rows P)
    (says : ℕ → Local → Record → List ℕ → LineEnd → Type 0) (who : ℕ) (operations : List ℕ)
    (own : List Line) (made : ℕ) (told : Option (List (ℕ × ℕ))) where
  abbrev Come : CallerState P → Type 0
  Come s = HasCome meaning r says who operations s own

  abbrev op : ℕ
  op = slice_index operations (length own)

  abbrev Asked : CallerState P → Type 0
  Asked s = HasAskedFor made told s own

  pub announced_asked : (c : Caller P) (a : Announced P) (next : ℕ) → Come (at.Idle c)
      → progress_of (announced_local a) ≡ after_announcing next (progress_of (local_with c))
      → Asked (at.Idle c) → Asked (at.Announced a)
  announced_asked c a next h progress asked =
      record {
        made_is = omega (arith, asked.made_is);
        told_is = if_some_as told _ _
            (λ (pairs : List (ℕ × ℕ)) (t : HasTold (at.Idle c) own pairs). record {
              told = told_along (5 * length own + 1) (5 * length own + 1)
                  (after_announcing next (progress_of (local_with c)))
                  (progress_of (announced_local a)) pairs refl (sym progress)
                  (told_as_announced operations (length own) (progress_of (local_with c)) next pairs
                  (progress_along operations (5 * length own + 0) (5 * length own) _ _
                  (omega arith) refl h.made)
                  (told_along (5 * length own + 0) (5 * length own) (progress_of (local_with c))
                  (progress_of (local_with c)) pairs (omega arith) refl t.told));
              last = tt;
            })
            asked.told_is;
      }

  pub answered_asked : (a : Announced P) (b : Answered P) (made' : ℕ)
      (told' : Option (List (ℕ × ℕ))) → Come (at.Announced a)
      → ComesNoFurther (announced_local a) (answered_local b) → op_answered b ≡ op_announced a
      → made' ≡ made + 1 → told' ≡ told_after (op_announced a) (reply_answered b) told
      → Asked (at.Announced a) → HasAskedFor made' told' (at.Answered b) own
  answered_asked a b made' told' h progress is one more asked =
      record {
        made_is = omega (arith, asked.made_is, one);
        told_is = if_some_after told told' (op_announced a) (reply_answered b) _ _
            (λ (pairs : List (ℕ × ℕ)) (t : HasTold (at.Announced a) own pairs). record {
              told = told_along (5 * length own + 2) (5 * length own + 2)
                  (record (progress_of (announced_local a))
                  { steps = all_steps_of (answered_local b) }) (progress_of (answered_local b))
                  (pairs ++ (op_announced a, reply_answered b) ∷ []) refl (sym progress)
                  (subst (λ (o : ℕ). IsTold (5 * length own + 2)
                  (progress_of (announced_local a)).calls (pairs ++ (o, reply_answered b) ∷ []))
                  (sym h.may.0)
                  (told_as_asked operations (length own) (progress_of (announced_local a))
                  (reply_answered b) pairs h.made t.told));
              last = (pairs, ap (λ (o : ℕ). pairs ++ (o, reply_answered b) ∷ []) (sym is));
            })
            more asked.told_is;
      }

  pub viewed_asked : (a : Answered P) (v : Viewed P) → Come (at.Answered a)
      → (record_viewed v).reply ≡ reply_answered a
      → progress_of (viewed_local v)
      ≡ after_viewing (record_viewed v) (progress_of (answered_local a))
      → Asked (at.Answered a) → Asked (at.Viewed v)
  viewed_asked a v h same progress asked =
      let rec : Record = record_viewed v in
      record {
        made_is = omega (arith, asked.made_is);
        told_is = if_some_as told _ _
            (λ (pairs : List (ℕ × ℕ)) (t : HasTold (at.Answered a) own pairs).
            let is : pairs ≡ t.last.0 ++ (op_answered a, rec.reply) ∷ [] =
            t.last.1 ∙ ap (λ (x : ℕ). t.last.0 ++ (op_answered a, x) ∷ []) (sym same) in
            record {
              told = told_along (5 * length own + 3) (5 * length own + 3)
                  (after_viewing rec (progress_of (answered_local a)))
                  (progress_of (viewed_local v)) pairs refl (sym progress)
                  (subst (λ (ps : List (ℕ × ℕ)). IsTold (5 * length own + 3)
                  (after_viewing rec (progress_of (answered_local a))).calls ps) (sym is)
                  (told_as_viewed operations (length own) (progress_of (answered_local a))
                  (op_answered a) rec t.last.0 h.made
                  (subst (λ (ps : List (ℕ × ℕ)). IsTold (5 * length own + 2)
                  (progress_of (answered_local a)).calls ps) is t.told)));
              last = tt;
            })
            asked.told_is;
      }

  pub published_asked : (v : Viewed P) (p : Published P)
      → progress_of (local_with (caller_published p))
      ≡ after_publishing (progress_of (viewed_local v))
      → Asked (at.Viewed v) → Asked (at.Published p)
  published_asked v p progress asked =
      record {
        made_is = omega (arith, asked.made_is);
        told_is = if_some_as told _ _
            (λ (pairs : List (ℕ × ℕ)) (t : HasTold (at.Viewed v) own pairs). record {
              told = told_along (5 * length own + 4) (5 * length own + 4)
                  (after_publishing (progress_of (viewed_local v)))
                  (progress_of (local_with (caller_published p))) pairs refl (sym progress)
                  (told_as_published (length own) (progress_of (viewed_local v)) pairs t.told);
              last = tt;
            })
            asked.told_is;
      }

  -- what was told before the last phase is told after it, whatever state the caller is then in
  seen_told : (p : Published P) (e : Ended P) (end : HasEnded meaning r says p e)
      (pairs : List (ℕ × ℕ)) → HasTold (at.Published p) own pairs
      → IsTold (5 * (length own + 1)) (progress_of (local_ended e)).calls pairs
  seen_told p e end pairs t =
      told_along (5 * (length own + 1)) (5 * (length own + 1))
      (after_seeing end.cut (progress_of (local_with (caller_published p))))
      (progress_of (local_ended e)) pairs refl (sym end.progress)
      (told_as_seen (length own)
      (progress_of (local_with (caller_published p))) end.cut pairs t.told)

  -- what is told of the calls of an ended call's caller is told in the state that its note says
  noted_told : (e : Ended P) (s : CallerState P) (own' : List Line) → IsNoted op own e own' s
      → (pairs : List (ℕ × ℕ))
      → IsTold (phases_at (length own') s) (calls_in (local_ended e)) pairs
      → HasTold s own' pairs
  noted_told (GoesOn c x) s own' noted pairs told' =
      let all : HasTold (at.Idle c) own' pairs = record {
        told = subst (λ (z : CallerState P). IsTold (phases_at (length own') z)
            (calls_in (local_with c)) pairs) noted.0 told';
        last = tt;
      } in
      subst (λ (z : CallerState P). HasTold z own' pairs) (sym noted.0) all
  noted_told (Halts c x) s own' noted pairs told' =
      let all : HasTold (at.Halted c) own' pairs = record {
        told = subst (λ (z : CallerState P). IsTold (phases_at (length own') z)
            (calls_in (local_with c)) pairs) noted.0 told';
        last = tt;
      } in
      subst (λ (z : CallerState P). HasTold z own' pairs) (sym noted.0) all
  noted_told (WantsMemory u) s own' noted pairs told' =
      let all : HasTold (at.Unjudged u) own' pairs = record {
        told = subst (λ (z : CallerState P). IsTold (phases_at (length own') z)
            (calls_in (local_with (caller_seen u))) pairs) noted.0 told';
        last = tt;
      } in
      subst (λ (z : CallerState P). HasTold z own' pairs) (sym noted.0) all

  ended_told : (p : Published P) (e : Ended P) (s : CallerState P) (own' : List Line)
      (end : HasEnded meaning r says p e) → IsNoted op own e own' s
      → phases_at (length own') s ≡ 5 * length own + 5 → (pairs : List (ℕ × ℕ))
      → HasTold (at.Published p) own pairs → HasTold s own' pairs
  ended_told p e s own' end noted phases pairs t =
      noted_told e s own' noted pairs
      (subst (λ (k : ℕ). IsTold k (calls_in (local_ended e)) pairs) (sym (phases ∙ omega arith))
      (seen_told p e end pairs t))

  again_told : (t : Seen P) (e : Ended P) (s : CallerState P) (own' : List Line)
      → HasEndedSeen meaning r says t e → IsNoted op own e own' s
      → phases_at (length own') s ≡ 5 * length own + 5 → (pairs : List (ℕ × ℕ))
      → HasTold (at.Unjudged t) own pairs → HasTold s own' pairs
  again_told t e s own' end noted phases pairs h =
      noted_told e s own' noted pairs
      (told_along (5 * length own + 5) (phases_at (length own') s)
      (progress_of (local_with (caller_seen t))) (progress_of (local_ended e)) pairs (sym phases)
      (sym end.progress) h.told)

  pub again_asked : (t : Seen P) (e : Ended P) (s : CallerState P) (own' : List Line)
      → HasEndedSeen meaning r says t e → IsNoted op own e own' s
      → phases_at (length own') s ≡ 5 * length own + 5 → Asked (at.Unjudged t)
      → HasAskedFor made told s own'
  again_asked t e s own' end noted phases asked = record {
    made_is = omega (arith, asked.made_is, phases);
    told_is = if_some_as told _ _ (again_told t e s own' end noted phases) asked.told_is;
  }

  pub ended_asked : (p : Published P) (e : Ended P) (s : CallerState P) (own' : List Line)
      → HasEnded meaning r says p e → IsNoted op own e own' s
      → phases_at (length own') s ≡ 5 * length own + 5 → Asked (at.Published p)
      → HasAskedFor made told s own'
  ended_asked p e s own' end noted phases asked =
      record {
        made_is = omega (arith, asked.made_is, phases);
        told_is = if_some_as told _ _ (ended_told p e s own' end noted phases) asked.told_is;
      }

-- what a pass counts, where it counts, as the client makes a phase without asking, and with asking
module _ {P : Type 0} (operations : List ℕ) where
  pub counted_as : (count : Option PassCount) (s t : CallerState P) (own own' : List Line)
      → ((made : ℕ) (told : Option (List (ℕ × ℕ))) → HasAskedFor made told s own
      → HasAskedFor made told t own') → Counts count operations s own
      → Counts count operations t own'
  counted_as None s t own own' turns h = h
  counted_as (Some c) s t own own' turns h =
      record { asked = turns c.made c.told h.asked; has_capacity = h.has_capacity }

  counted_one_more : (count : Option PassCount) (op reply : ℕ) (s t : CallerState P)
      (own : List Line)
      → ((made : ℕ) (told : Option (List (ℕ × ℕ))) → HasAskedFor made told s own
      → HasAskedFor (made + 1) (told_after op reply told) t own)
      → Counts count operations s own → Counts (count_after op reply count) operations t own
  counted_one_more None op' reply s t own turns h = h
  counted_one_more (Some c) op' reply s t own turns h =
      record { asked = turns c.made c.told h.asked; has_capacity = h.has_capacity }

  pub counted_after : (count count' : Option PassCount) (op reply : ℕ) (s t : CallerState P)
      (own : List Line)
      → ((made : ℕ) (told : Option (List (ℕ × ℕ))) → HasAskedFor made told s own
      → HasAskedFor (made + 1) (told_after op reply told) t own)
      → count' ≡ count_after op reply count → Counts count operations s own
      → Counts count' operations t own
  counted_after count count' op reply s t own turns is h =
      subst (λ (x : Option PassCount). Counts x operations t own) (sym is)
      (counted_one_more count op reply s t own turns h)

  -- a call that is announced may be asked
  pub call_left : (count : Option PassCount) (a : Announced P) (own : List Line)
      → phases_at (length own) (at.Announced a) < 5 * length operations
      → Counts count operations (at.Announced a) own → HasCallLeft count
  call_left None a own low h = h
  call_left (Some c) a own low h = omega (arith, h.asked.made_is, h.has_capacity, low)
