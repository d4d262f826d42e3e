use Rattle.std.proofs.Common.{◌≡◌, ℕ, ◌+◌, ◌∙◌, List, [], ◌∷◌, length, get_or, take, Some, sym, ap, subst, inl, inr, slice_get, arith}
use Rattle.std.proofs.lemmas.Bool.{cases_lt}
use Rattle.std.proofs.lemmas.List.{take_all}
use Rattle.std.proofs.lemmas.List.Sums.{fold_more}
use Rattle.std.proofs.lemmas.Option.{same_Some, slice_get-get_or}
use Rattle.refutations.specs.declared.entry.Entry.{Entry}
use Rattle.refutations.specs.declared.fault.ClosedFault.TheVariants.{Unlisted}
use Rattle.refutations.specs.Closed.{Item, IsOneItem, first_item, IsClosedAt, with_entry, items_of, IsMade}
use Rattle.refutations.specs.Fault.{IsFirstFault}
use Rattle.refutations.specs.Stored.{AreListed, IsFirstOpen}
use Rattle.refutations.proofs.Faults.{closed_lists_fail_no_test}
use Rattle.refutations.proofs.Judging.{MakeItems, first_unlisted, first_open, makes_closed, IfOk-OnOk, IfOk-IfErr, IfOk-IsOk, no_entry}
use Rattle.refutations.proofs.closed.check_closed.Goals as goal

pub loop-k-init : goal.loop-k-init
loop-k-init g c =
    let spec = g.S.SeqObject.spec c.args.object.now in
    let book = c.args.book.now in
    record {
      fit = c.in_ok-push.ensures.fit spec book c.start.new.state.room
          (c.new-items.ensures.fit spec book c.start.new.state.room) c.in_ok-start.ensures.fits;
      listed = subst (λ (it : Item). AreListed c.push.new.self (it ∷ [])) c.in_ok-start.ensures.item
          (c.in_ok-push.ensures.listed [] c.new-items.ensures.listed);
      made = λ j entry less at. absurd (omega (arith, less));
    }

pub returns-then-not-branch-clause-accepted : goal.returns-then-not-branch-clause-accepted
returns-then-not-branch-clause-accepted g c closed =
    let spec = g.S.SeqObject.spec c.args.object.now in
    let book = c.args.book.now in
    let entries = c.args.entries.now in
    let k : ℕ = c.loop-k.k in
    let first : IsFirstFault spec book entries (Unlisted (k + 1)) =
    first_unlisted spec book entries k (get_or entries k no_entry) c.loop-k.invariant.made
    (slice_get-get_or entries k no_entry c.loop-k-test.true)
    (c.in_ok-add.ensures.unlisted c.if-not-branch.true (items_of spec book (take k entries))
    c.loop-k.invariant.listed) in
    absurd (closed_lists_fail_no_test spec book entries closed (Unlisted (k + 1)) first.fails)

pub returns-then-not-branch-clause-fault : goal.returns-then-not-branch-clause-fault
returns-then-not-branch-clause-fault g c =
    let spec = g.S.SeqObject.spec c.args.object.now in
    let book = c.args.book.now in
    let entries = c.args.entries.now in
    let k : ℕ = c.loop-k.k in
    first_unlisted spec book entries k (get_or entries k no_entry) c.loop-k.invariant.made
    (slice_get-get_or entries k no_entry c.loop-k-test.true)
    (c.in_ok-add.ensures.unlisted c.if-not-branch.true (items_of spec book (take k entries))
    c.loop-k.invariant.listed)

pub loop-k-preserved : goal.loop-k-preserved
loop-k-preserved g c =
    let spec = g.S.SeqObject.spec c.args.object.now in
    let book = c.args.book.now in
    let entries = c.args.entries.now in
    let k : ℕ = c.loop-k.k in
    let here : Entry = get_or entries k no_entry in
    let at : slice_get entries k ≡ Some here =
    slice_get-get_or entries k no_entry c.loop-k-test.true in
    let made = c.in_ok-add.ensures.made c.if-not-branch.false
    (items_of spec book (take k entries)) c.loop-k.invariant.listed in
    record {
      fit = c.in_ok-add.ensures.fit;
      listed = subst (λ (l : List Item). AreListed c.add.new.items l)
          (sym (fold_more (with_entry spec book) (first_item spec book ∷ []) entries k no_entry
          c.loop-k-test.true)) made.1;
      made = λ j entry less there. elim (cases_lt j k) [
        | inl below ↦ c.loop-k.invariant.made j entry below there
        | inr not_below ↦
            let same : j ≡ k = omega (arith, less, not_below) in
            let one : entry ≡ here =
            same_Some entry here (sym there ∙ (ap (slice_get entries) same ∙ at)) in
            subst (λ (n : ℕ). IsMade book (items_of spec book (take n entries)) entry) (sym same)
            (subst (λ (e : Entry). IsMade book (items_of spec book (take k entries)) e) (sym one)
            made.0)
      ];
    }

pub returns-clause-closed : goal.returns-clause-closed
returns-clause-closed g c =
    let spec = g.S.SeqObject.spec c.args.object.now in
    let book = c.args.book.now in
    let entries = c.args.entries.now in
    let all : take c.loop-k.k entries ≡ entries =
    take_all c.loop-k.k entries c.loop-k-test.false in
    let listed : AreListed c.loop-k.items (items_of spec book entries) =
    subst (λ (l : List Entry). AreListed c.loop-k.items (items_of spec book l)) all
    c.loop-k.invariant.listed in
    let made : MakeItems spec book entries (length entries) =
    λ j entry less at. c.loop-k.invariant.made j entry (omega (arith, less, c.loop-k-test.false))
    at in
    IfOk-OnOk {P = (list : List Item) → AreListed c.loop-k.items list → (item : Item)
    → IsOneItem list item → IsClosedAt spec book list item} c.first_open.result
    c.first_open.ensures.closed (λ closed. makes_closed spec book entries made
    (closed (items_of spec book entries) listed))

pub returns-clause-accepted : goal.returns-clause-accepted
returns-clause-accepted g c closed =
    let spec = g.S.SeqObject.spec c.args.object.now in
    let book = c.args.book.now in
    let entries = c.args.entries.now in
    let all : take c.loop-k.k entries ≡ entries =
    take_all c.loop-k.k entries c.loop-k-test.false in
    let listed : AreListed c.loop-k.items (items_of spec book entries) =
    subst (λ (l : List Entry). AreListed c.loop-k.items (items_of spec book l)) all
    c.loop-k.invariant.listed in
    let made : MakeItems spec book entries (length entries) =
    λ j entry less at. c.loop-k.invariant.made j entry (omega (arith, less, c.loop-k-test.false))
    at in
    IfOk-IsOk {P = λ fault. (list : List Item) → AreListed c.loop-k.items list
    → IsFirstOpen spec book list fault} c.first_open.result c.first_open.ensures.fault
    (λ fault at. closed_lists_fail_no_test spec book entries closed fault
    (first_open spec book entries fault made
    (at (items_of spec book entries) listed)).fails)

pub returns-clause-fault : goal.returns-clause-fault
returns-clause-fault g c =
    let spec = g.S.SeqObject.spec c.args.object.now in
    let book = c.args.book.now in
    let entries = c.args.entries.now in
    let all : take c.loop-k.k entries ≡ entries =
    take_all c.loop-k.k entries c.loop-k-test.false in
    let listed : AreListed c.loop-k.items (items_of spec book entries) =
    subst (λ (l : List Entry). AreListed c.loop-k.items (items_of spec book l)) all
    c.loop-k.invariant.listed in
    let made : MakeItems spec book entries (length entries) =
    λ j entry less at. c.loop-k.invariant.made j entry (omega (arith, less, c.loop-k-test.false))
    at in
    IfOk-IfErr {P = λ fault. (list : List Item) → AreListed c.loop-k.items list
    → IsFirstOpen spec book list fault} c.first_open.result c.first_open.ensures.fault
    (λ fault at. first_open spec book entries fault made
    (at (items_of spec book entries) listed))
