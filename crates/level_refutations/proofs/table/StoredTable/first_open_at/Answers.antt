use Rattle.std.proofs.Common.{◌≡◌, ℕ, ◌∙◌, List, length, take, true≢false, refl, sym, ap, subst, inl, inr, arith}
use Rattle.std.proofs.lemmas.Bool.{cases_lt}
use Rattle.book_base.specs.Next.{next_call, HoldsAnswered, MayComeNext}
use Rattle.book_base.specs.Pruning.{IsLeast}
use Rattle.level_refutations.specs.Closed.{LeadsInside, table_of}
use Rattle.level_refutations.proofs.Opening.{leads-never, closed_at, not_whole, cut_of_node, inside_as, of_callers}
use Rattle.level_refutations.proofs.table.StoredTable.first_open_at.Goals.{else-has-via-then-has+else-not-call_leads, else-has-via-else-has}
use Rattle.level_refutations.proofs.table.StoredTable.first_open_at.Goals as goal

pub slice_bounds-counts-end : goal.slice_bounds-counts-end
slice_bounds-counts-end c =
    let of = cut_of_node c.args.book.now c.args.entries.now c.args.self.now c.args.node
    c.index.result.now _ c.requires.stored c.requires.cut c.index.ensures in
    (of_callers (length c.args.book.now) c.callers-callers.result c.index.result.now
    c.callers-callers.ensures.count of.wide).0

pub slice_bounds-least_open-end : goal.slice_bounds-least_open-end
slice_bounds-least_open-end c =
    let of = cut_of_node c.args.book.now c.args.entries.now c.args.self.now c.args.node
    c.index.result.now _ c.requires.stored c.requires.cut c.index.ensures in
    (of_callers (length c.args.book.now) c.callers-callers.result c.index.result.now
    c.callers-callers.ensures.count of.wide).2

pub least_open-requires : goal.least_open-requires
least_open-requires c =
    let of = cut_of_node c.args.book.now c.args.entries.now c.args.self.now c.args.node
    c.index.result.now _ c.requires.stored c.requires.cut c.index.ensures in
    (of_callers (length c.args.book.now) c.callers-callers.result c.index.result.now
    c.callers-callers.ensures.count of.wide).1

pub slice_bounds-counts-end-2 : goal.slice_bounds-counts-end-2
slice_bounds-counts-end-2 c =
    let of = cut_of_node c.args.book.now c.args.entries.now c.args.self.now c.args.node
    c.index.result.now _ c.requires.stored c.requires.cut c.index.ensures in
    (of_callers (length c.args.book.now) c.callers-callers.result c.index.result.now
    c.callers-callers.ensures.count of.wide).0

pub slice_bounds-next_callers-end : goal.slice_bounds-next_callers-end
slice_bounds-next_callers-end c =
    let of = cut_of_node c.args.book.now c.args.entries.now c.args.self.now c.args.node
    c.index.result.now _ c.requires.stored c.requires.cut c.index.ensures in
    (of_callers (length c.args.book.now) c.callers-callers.result c.index.result.now
    c.callers-callers.ensures.count of.wide).2

pub next_callers-marks-requires-clause-wide : goal.next_callers-marks-requires-clause-wide
next_callers-marks-requires-clause-wide c =
    let of = cut_of_node c.args.book.now c.args.entries.now c.args.self.now c.args.node
    c.index.result.now _ c.requires.stored c.requires.cut c.index.ensures in
    (of_callers (length c.args.book.now) c.callers-callers.result c.index.result.now
    c.callers-callers.ensures.count of.wide).1

pub returns-in_default-clause-fault : goal.returns-in_default-clause-fault
returns-in_default-clause-fault c =
    let book = c.args.book.now in
    let of = cut_of_node book c.args.entries.now c.args.self.now c.args.node c.index.result.now _
    c.requires.stored c.requires.cut c.index.ensures in (
      refl,
      (
        of.cut,
        of.at,
        subst (HoldsAnswered book)
            (ap (λ (n : ℕ). take n c.index.result.now) c.callers-callers.ensures.count ∙ of.taken)
            c.in_default.ensures.none,
      ),
    )

pub call_leads-requires-clause-wide : goal.call_leads-requires-clause-wide
call_leads-requires-clause-wide c =
    let of = cut_of_node c.args.book.now c.args.entries.now c.args.self.now c.args.node
    c.index.result.now _ c.requires.stored c.requires.cut c.index.ensures in
    of.wide

pub call_leads-requires-clause-may : goal.call_leads-requires-clause-may
call_leads-requires-clause-may c =
    subst (λ (n : ℕ). MayComeNext c.args.book.now (take n c.index.result.now)
    (next_call (take n c.index.result.now) c.loop-caller.caller)) c.callers-callers.ensures.count
    ((c.next_callers-marks.ensures c.loop-caller.caller).0 (c.has.ensures.0 c.if-has.true))

pub returns-then-not-call_leads-clause-fault : goal.returns-then-not-call_leads-clause-fault
returns-then-not-call_leads-clause-fault c =
    let book = c.args.book.now in
    let entries = c.args.entries.now in
    let counts : List ℕ = c.index.result.now in
    let of = cut_of_node book entries c.args.self.now c.args.node counts _ c.requires.stored
    c.requires.cut c.index.ensures in
    let least : IsLeast book of.cut (length book) c.in-Some.first =
    subst (λ (l : List ℕ). IsLeast book l (length book) c.in-Some.first)
    (ap (λ (n : ℕ). take n counts) c.callers-callers.ensures.count ∙ of.taken)
    c.in-Some.ensures.least in (
      refl,
      record {
        unfinished = not_whole book (table_of book entries) c.args.node of.cut c.in-Some.first
            of.at least;
        out = λ leads. true≢false (sym (c.call_leads.ensures.1
            ((inside_as book entries c.args.node counts c.loop-caller.caller of).1 leads))
            ∙ c.if-not-call_leads.true);
        before = c.loop-caller.invariant;
      },
    )

pub loop-caller-preserved : goal.loop-caller-preserved
loop-caller-preserved c i less =
    let book = c.args.book.now in
    let entries = c.args.entries.now in
    let counts : List ℕ = c.index.result.now in
    let caller : ℕ = c.loop-caller.caller in
    let of = cut_of_node book entries c.args.self.now c.args.node counts _ c.requires.stored
    c.requires.cut c.index.ensures in
    let taken : take c.callers-callers.result counts ≡ of.cut =
    ap (λ (n : ℕ). take n counts) c.callers-callers.ensures.count ∙ of.taken in
    elim (cases_lt i caller) [
      | inl before ↦ c.loop-caller.invariant i before
      | inr not_before ↦
          let here : LeadsInside book (table_of book entries) c.args.node caller =
          elim c.else-has.branch [
            | else-has-via-then-has+else-not-call_leads w ↦
                (inside_as book entries c.args.node counts caller of).0
                (w.call_leads.ensures.0 w.if-not-call_leads.false)
            | else-has-via-else-has w ↦ leads-never book (table_of book entries) c.args.node
                of.cut caller of.at (λ may. true≢false (sym (c.has.ensures.1
                ((c.next_callers-marks.ensures caller).1
                (subst (λ (l : List ℕ). MayComeNext book l (next_call l caller)) (sym taken) may)))
                ∙ w.if-has.false))
          ] in
          let same : caller ≡ i = omega (arith, less, not_before) in
          subst (LeadsInside book (table_of book entries) c.args.node) same here
    ]

pub returns-clause-closed : goal.returns-clause-closed
returns-clause-closed c =
    let book = c.args.book.now in
    let entries = c.args.entries.now in
    let counts : List ℕ = c.index.result.now in
    let of = cut_of_node book entries c.args.self.now c.args.node counts _ c.requires.stored
    c.requires.cut c.index.ensures in
    let least : IsLeast book of.cut (length book) c.in-Some.first =
    subst (λ (l : List ℕ). IsLeast book l (length book) c.in-Some.first)
    (ap (λ (n : ℕ). take n counts) c.callers-callers.ensures.count ∙ of.taken)
    c.in-Some.ensures.least in
    closed_at book (table_of book entries) c.args.node (not_whole book (table_of book entries)
    c.args.node of.cut c.in-Some.first of.at least) (λ i less. c.loop-caller.invariant i
    (omega (arith, less, c.loop-caller-test.false, c.callers-caller-end.ensures.count)))
