-- What a call's caller has published, by the steps of the call after its reply is handed in, one
-- after the other.
use Rattle.std.proofs.Common.{◌≡◌, ◌∙◌, ℕ, false, List, Option, None, Some, length, slice_index, refl, sym, ap, subst}
use Rattle.book_base.specs.declared.call.Record.{Record}
use Rattle.book_base.specs.SeqSpec.{SeqSpec}
use Rattle.world_core.specs.Shape.{Meaning}
use Rattle.world_core.specs.Local.{Local}
use Rattle.row_table.specs.declared.caller.Caller.{Caller}
use Rattle.row_table.specs.declared.rows.Rows.{Rows}
use Rattle.row_table.specs.Callers.{local_with, stance_of, IsStill}
use Rattle.row_gather.specs.Peeks.{HasOnlyPeeked}
use Rattle.report_lines.specs.Phases.{progress_of}
use Rattle.report_lines.specs.Progress.{after_viewing, after_publishing, after_seeing}
use Rattle.drv_wrapper.specs.declared.announced.Announced.{Announced}
use Rattle.drv_wrapper.specs.declared.answered.Answered.{Answered}
use Rattle.drv_wrapper.specs.declared.viewed.Viewed.{Viewed}
use Rattle.drv_wrapper.specs.Growth.{Grows}
use Rattle.drv_wrapper.specs.Stands.{IsSame}
use Rattle.drv_wrapper.specs.States.{caller_announced, announced_local, caller_answered, answered_local, reply_answered, caller_viewed, viewed_local, record_viewed}
use Rattle.drv_wrapper.proofs.Growing.{grows_on}
use Rattle.frontier_check.specs.declared.kept_order.KeptOrder.{KeptOrder}
use Rattle.enforcer.specs.declared.call_verdict.CallVerdict.{CallVerdict}
use Rattle.enforcer.specs.declared.call_verdict.CallVerdict.TheVariants.{Delivered, Illegal}
use Rattle.enforcer.specs.declared.outcome.Outcome.{Outcome}
use Rattle.enforcer.specs.declared.outcome.Outcome.TheVariants as outcome
use Rattle.enforcer.specs.declared.published_call.Published.{Published}
use Rattle.enforcer.specs.declared.seen_call.Seen.{Seen}
use Rattle.enforcer.specs.Judged.{is_illegal, IsRightByPeeks, IsRightOf}
use Rattle.enforcer.specs.Recorded.{HoldsOwn}
use Rattle.enforcer.specs.Verdicts.{stance_judged, IsOutcome}
use Rattle.enforcer.specs.States.{caller_published, record_published, caller_seen, cut_seen, record_seen}
use Rattle.enforcer.proofs.WholeCalls.{peeks_grow}
use Rattle.announced_calls.specs.Ends.{IsPublishedBy, IsJudgedAs}

module _ {P : Type 0} (meaning : P → ℕ → ℕ → Meaning) (r : Rows P) (call : Announced P) (reply : ℕ)
    (a : Answered P) (v : Viewed P) (p : Published P) (s : Seen P) where
  -- The steps of a call before its judgement, and how each begins where the one before ended.
  pub record Course : Type 0 where
    pub same : IsSame (caller_announced call) (caller_answered a)
    pub handed : reply_answered a ≡ reply
    pub viewed : IsStill meaning r (caller_answered a) (caller_viewed v)
    pub view_reply : (record_viewed v).reply ≡ reply_answered a
    pub view_wide : length (record_viewed v).view ≡ r.callers
    pub view_progress : progress_of (viewed_local v)
        ≡ after_viewing (record_viewed v) (progress_of (answered_local a))
    pub view_grows : Grows (answered_local a) (viewed_local v)
    pub published : IsStill meaning r (caller_viewed v) (caller_published p)
    pub publish_record : record_published p ≡ record_viewed v
    pub publish_progress : progress_of (local_with (caller_published p))
        ≡ after_publishing (progress_of (viewed_local v))
    pub publish_grows : Grows (viewed_local v) (local_with (caller_published p))
    pub seen : IsStill meaning r (caller_published p) (caller_seen s)
    pub seen_record : record_seen s ≡ record_published p
    pub seen_wide : length (cut_seen s) ≡ r.callers
    pub seen_own : HoldsOwn (cut_seen s) (caller_seen s)
    pub seen_progress : progress_of (local_with (caller_seen s))
        ≡ after_seeing (cut_seen s) (progress_of (local_with (caller_published p)))
    pub seen_grows : Grows (local_with (caller_published p)) (local_with (caller_seen s))

  module _ (h : Course) where
    -- the record that was viewed is the one that was seen to be published
    same_record : record_seen s ≡ record_viewed v
    same_record = h.seen_record ∙ h.publish_record

    all_grows : Grows (announced_local call) (local_with (caller_seen s))
    all_grows =
        subst (λ (l : Local). Grows l (local_with (caller_seen s))) h.same.local
        (grows_on (answered_local a) (viewed_local v) (local_with (caller_seen s)) h.view_grows
        (grows_on (viewed_local v) (local_with (caller_published p))
        (local_with (caller_seen s)) h.publish_grows h.seen_grows))

    pub is_published : IsPublishedBy meaning r call reply (caller_seen s) (record_seen s)
        (cut_seen s)
    is_published =
        record {
          still = (h.seen.0, h.seen.1 ∙ h.published.1 ∙ h.viewed.1 ∙ h.same.who);
          replied = ap (λ (x : Record). x.reply) same_record ∙ h.view_reply ∙ h.handed;
          wide = (ap (λ (x : Record). length x.view) same_record ∙ h.view_wide, h.seen_wide);
          own = h.seen_own;
          progress =
              h.seen_progress
              ∙ ap (after_seeing (cut_seen s))
              (h.publish_progress ∙ ap after_publishing (h.view_progress
              ∙ ap (λ (l : Local). after_viewing (record_viewed v) (progress_of l)) h.same.local
              ∙ ap
              (λ (x : Record). after_viewing x (progress_of (announced_local call)))
              (sym same_record)));
          grows = all_grows;
        }

module _ {P : Type 0} (meaning : P → ℕ → ℕ → Meaning) (r : Rows P) (call : Announced P) (reply : ℕ)
  where
    -- What is published stays so for a caller that is the same but for its stance.
    pub same_stays : (c d : Caller P) (told : Record) (cut : List ℕ) → IsSame c d
        → IsPublishedBy meaning r call reply c told cut
        → IsPublishedBy meaning r call reply d told cut
    same_stays c d told cut same h =
        record {
          still = (same.rows meaning r h.still.0, same.who ∙ h.still.1);
          replied = h.replied;
          wide = h.wide;
          own = ap (λ (i : ℕ). slice_index cut i) same.who ∙ h.own
              ∙ ap (λ (l : Local). l.published) (sym same.local);
          progress = ap progress_of same.local ∙ h.progress;
          grows = subst (λ (l : Local). Grows (announced_local call) l) (sym same.local) h.grows;
        }

    -- What is published stays so where the caller peeks.
    pub peeks_stay : (c d : Caller P) (told : Record) (cut : List ℕ) (before after : ℕ)
        → IsStill meaning r c d → HasOnlyPeeked (local_with c) (local_with d) before after
        → IsPublishedBy meaning r call reply c told cut
        → IsPublishedBy meaning r call reply d told cut
    peeks_stay c d told cut before after still peeks h =
        record {
          still = (still.0, still.1 ∙ h.still.1);
          replied = h.replied;
          wide = h.wide;
          own = ap (λ (i : ℕ). slice_index cut i) still.1 ∙ h.own
              ∙ ap (λ (l : Local). l.published) (sym peeks.local);
          progress = ap progress_of peeks.local ∙ h.progress;
          grows = grows_on (announced_local call) (local_with c) (local_with d) h.grows
              (peeks_grow (local_with c) (local_with d) before after peeks);
        }

    -- An outcome that is right, and right by its caller's peeks, is as `IsJudgedAs` says.
    pub judged_as : (spec : SeqSpec) (c : Caller P) (told : Record) (cut : List ℕ) (v : CallVerdict)
        (standing : Option KeptOrder) → IsPublishedBy meaning r call reply c told cut
        → stance_of c ≡ stance_judged v
        → IsOutcome told cut v standing (IsRightByPeeks spec r.callers (local_with c))
        → IsOutcome told cut v standing (IsRightOf spec meaning r c)
        → IsOutcome told cut v standing (IsJudgedAs meaning r spec call reply c)
    judged_as spec c told cut Delivered None published stance by_peeks verdict = absurd by_peeks
    judged_as spec c told cut Delivered (Some s) published stance by_peeks verdict =
        record {
          published = published;
          stance = stance;
          by_peeks = by_peeks;
          verdict = verdict;
        }
    judged_as spec c told cut (Illegal book) standing published stance by_peeks verdict =
        record {
          published = published;
          stance = stance;
          by_peeks = by_peeks;
          verdict = verdict;
        }

-- A delivered reply has an outcome, which is no error.
pub delivered_with : (holds : Outcome → Type 0) (told : Record) (cut : List ℕ)
    (standing : Option KeptOrder) → IsOutcome told cut Delivered standing holds
    → (found : Outcome) × (is_illegal found ≡ false) × holds found
delivered_with holds told cut None is = absurd is
delivered_with holds told cut (Some s) is =
    (outcome.Delivered told.reply told.view cut s.order, refl, is)
