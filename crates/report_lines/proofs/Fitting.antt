-- Lines fit a report: their seen cuts are in their book, and each but the last of a caller is
-- delivered.
use Rattle.std.proofs.Common.{◌≡◌, ℕ, ◌+◌, ◌/◌, ◌%◌, ◌<◌, List, length, map, replicate, Option, Some, slice_get, sym, ap, ◌∙◌, subst, arith, refl}
use Rattle.std.specs.Option.{option_map}
use Rattle.std.proofs.lemmas.List.{length-map, length-replicate, get_or-replicate}
use Rattle.std.proofs.lemmas.Option.{same_Some, slice_get-map, slice_get-get_or}
use Rattle.list_laws.proofs.Prefixes.{slice_get-append_within}
use Rattle.book_base.specs.declared.call.Record.{Record}
use Rattle.book_base.specs.Cut.{IsWithin}
use Rattle.book_base.specs.Book.{answered}
use Rattle.world_core.specs.Calls.{Made}
use Rattle.world_laws.proofs.Validity.{published_cuts_are_within}
use Rattle.world_laws.proofs.Judging.{seen_cuts_fit}
use Rattle.report_lines.specs.declared.line.LineEnd.{LineEnd}
use Rattle.report_lines.specs.declared.line.LineEnd.TheVariants.{Pending, Unchecked, Delivered, Error}
use Rattle.report_lines.specs.declared.line.Line.{Line}
use Rattle.report_lines.specs.Lines.{reached_of, made_of, is_error}
use Rattle.report_lines.specs.Phases.{CallMark, Seen, mark_of, mark_under_way, marks_after, marks_of}
use Rattle.report_lines.specs.Allotments.{phases_of}
use Rattle.report_lines.specs.Reporting.{SeenCutsAreInTheBook, LinesBeforeTheLastAreDelivered}
use Rattle.report_lines.proofs.Stepping.{length-marks_after}
use Rattle.report_lines.proofs.Worlds.{sees, same_book}

pub seen_cuts_are_in_the_book : SeenCutsAreInTheBook
seen_cuts_are_in_the_book spec s locals lines call cut t are e =
    let published =
    (seen_cuts_fit s locals t).published call cut (sees spec locals lines are call cut e) in
    subst (λ book. IsWithin cut (answered book)) (sym (same_book spec locals lines are))
    (published_cuts_are_within s locals cut t published)

-- an end whose call has a seen cut is delivered, where it is no error
delivered_end : (end : LineEnd) → mark_of (reached_of end) ≡ Seen
    → ((r : Record) (cut : List ℕ) → end ≡ Error r cut → ⊥)
    → (r : Record) × (cut : List ℕ) × (end ≡ Delivered r cut)
delivered_end Pending e none = absurd cc
delivered_end (Unchecked r) e none = absurd cc
delivered_end (Delivered r cut) e none = (r, cut, refl)
delivered_end (Error r cut) e none = absurd (none r cut refl)

pub lines_before_the_last_are_delivered : LinesBeforeTheLastAreDelivered
lines_before_the_last_are_delivered operations allotment own k line h there low =
    let p : ℕ = phases_of allotment own in
    let q : ℕ = p / 5 in
    let mark : Made → CallMark = λ c. mark_of c.reached in
    let long : length own ≡ length (marks_after p) =
    omega (
      arith,
      ap (λ (ms : List CallMark). length ms) h.marks,
      length-map (map made_of own) mark,
      length-map own made_of,
    ) in
    let below : k < q = omega (arith, low, long, length-marks_after p) in
    let is : slice_get (marks_of (map made_of own)) k ≡ Some (mark_of (reached_of line.end)) =
    slice_get-map mark (map made_of own) k
    ∙ ap (λ (o : Option Made). option_map mark o)
    (slice_get-map made_of own k ∙ ap (λ (o : Option Line). option_map made_of o) there) in
    let should : slice_get (marks_after p) k ≡ Some Seen =
    slice_get-append_within (replicate q Seen) (mark_under_way (p % 5)) k
    (omega (arith, below, length-replicate q Seen))
    ∙ slice_get-get_or (replicate q Seen) k Seen (omega (arith, below, length-replicate q Seen))
    ∙ ap (λ (m : CallMark). Some m) (get_or-replicate q k Seen Seen below) in
    let seen : mark_of (reached_of line.end) ≡ Seen =
    same_Some (mark_of (reached_of line.end)) Seen
    (sym is ∙ ap (λ (ms : List CallMark). slice_get ms k) h.marks ∙ should) in
    delivered_end line.end seen (λ r cut e.
    let last : k + 1 ≡ length own = h.keeps.last k line there
    (ap (λ (end : LineEnd). is_error (record { op = line.op; end = end })) e) in
    omega (arith, last, low))
