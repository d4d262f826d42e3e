use Rattle.std.proofs.Common.{◌≡◌, ℕ, zero, suc, List, [], ◌∷◌, Some, slice_get, refl, ap, subst, arith}
use Rattle.std.proofs.lemmas.Option.{none-some, same_Some}
use Rattle.book_base.specs.declared.call.Record.{Record}
use Rattle.book_base.specs.declared.call.Place.{Place}
use Rattle.world_examples.specs.Schedules.{pair}
use Rattle.report_lines.specs.declared.line.Line.{Line}
use Rattle.report_lines.specs.declared.line.LineEnd.TheVariants.{Delivered}
use Rattle.report_lines.specs.Lines.{lines_at}
use Rattle.report_examples.specs.Lines.{call}
use Rattle.report_examples.specs.ReportedRuns.{fifty, sixty, both_delivered, both_failed}
use Rattle.reports.specs.Orders.{StandsWith, delivered_book}
use Rattle.report_examples.specs.RefusedReports.{first_place}
use Rattle.report_examples.proofs.refused_reports.delivered_lines_stand_in_an_order.Goals as goal

-- what holds of the two calls holds of each call that has a line
each_call : (P : ℕ → ℕ → Line → Type 0) (a b : Line) → P 0 0 a → P 1 0 b → (i k : ℕ) (line : Line)
    → slice_get (lines_at ((a ∷ []) ∷ (b ∷ []) ∷ []) i) k ≡ Some line → P i k line
each_call P a b h g zero zero line e = subst (P 0 0) (same_Some a line e) h
each_call P a b h g zero (suc k) line e = absurd (none-some line e)
each_call P a b h g (suc zero) zero line e = subst (P 1 0) (same_Some b line e) g
each_call P a b h g (suc zero) (suc k) line e = absurd (none-some line e)
each_call P a b h g (suc (suc i)) k line e = absurd (none-some line e)

-- the call has a place in the order, where its line is delivered
abbrev DeliveredHasPlace : List (List Line) → List Place → ℕ → ℕ → Line → Type 0
DeliveredHasPlace lines order i k line =
    (r : Record) (cut : List ℕ) → line.end ≡ Delivered r cut
    → StandsWith (delivered_book pair lines) order (call i k) line.op r.reply

no_place : (k : ℕ) → slice_get (first_place 0 50 ∷ []) k ≡ Some (first_place 1 60) → ⊥
no_place zero e =
    let who : 0 ≡ 1 =
    ap (λ (p : Place). p.caller) (same_Some (first_place 0 50) (first_place 1 60) e) in
    absurd (omega (arith, who))
no_place (suc k) e = absurd (none-some (first_place 1 60) e)

no_such_place : (k : ℕ)
    → slice_get (first_place 0 50 ∷ first_place 1 61 ∷ []) k ≡ Some (first_place 1 60) → ⊥
no_such_place zero e =
    let who : 0 ≡ 1 =
    ap (λ (p : Place). p.caller) (same_Some (first_place 0 50) (first_place 1 60) e) in
    absurd (omega (arith, who))
no_such_place (suc zero) e =
    let reply : 61 ≡ 60 =
    ap (λ (p : Place). p.reply) (same_Some (first_place 1 61) (first_place 1 60) e) in
    absurd (omega (arith, reply))
no_such_place (suc (suc k)) e = absurd (none-some (first_place 1 60) e)

pub returns-clause-both : goal.returns-clause-both
returns-clause-both c at line r cut there end =
    each_call (DeliveredHasPlace both_delivered (first_place 0 50 ∷ first_place 1 60 ∷ [])) _ _
    (λ r cut e. let same : fifty ≡ r = cc in
    subst (λ (r : Record). StandsWith (delivered_book pair both_delivered)
    (first_place 0 50 ∷ first_place 1 60 ∷ []) (call 0 0) 5 r.reply) same (0, refl, refl))
    (λ r cut e. let same : sixty ≡ r = cc in
    subst (λ (r : Record). StandsWith (delivered_book pair both_delivered)
    (first_place 0 50 ∷ first_place 1 60 ∷ []) (call 1 0) 6 r.reply) same (1, refl, refl))
    at.caller at.number line there r cut end

pub returns-clause-none : goal.returns-clause-none
returns-clause-none c at line r cut there end =
    each_call (DeliveredHasPlace both_failed []) _ _ (λ r cut e. absurd cc)
    (λ r cut e. absurd cc) at.caller at.number line there r cut end

pub returns-clause-one_left_out : goal.returns-clause-one_left_out
returns-clause-one_left_out c h = let place = h (call 1 0) _ sixty (1 ∷ 1 ∷ []) refl refl in
    no_place place.0 place.1

pub returns-clause-another_reply : goal.returns-clause-another_reply
returns-clause-another_reply c h = let place = h (call 1 0) _ sixty (1 ∷ 1 ∷ []) refl refl in
    no_such_place place.0 place.1
