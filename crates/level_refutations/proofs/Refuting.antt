-- No places continue an order from a node of a closed table, so the book has no legal order.
use Rattle.std.proofs.Common.{◌≡◌, ℕ, suc, ◌∙◌, List, [], ◌∷◌, ◌++◌, length, fold, take, get_or, Option, Some, None, unwrap_or, refl, sym, ap, subst, slice_get, arith}
use Rattle.std.proofs.lemmas.List.{length-replicate}
use Rattle.std.proofs.lemmas.Option.{same_Some, slice_get-get_or}
use Rattle.list_laws.proofs.Places.{slice_get-push_old, get_or-replicate_default}
use Rattle.book_base.specs.declared.call.Call.{Call}
use Rattle.book_base.specs.declared.call.Place.{Place}
use Rattle.book_base.specs.declared.call.Record.{Record}
use Rattle.book_base.specs.Book.{Page, operation_of, record_of, page_of}
use Rattle.book_base.specs.Order.{call_at}
use Rattle.book_base.specs.Next.{raised, next_call, list_after, Continues, MayComeNext, MayStandNext}
use Rattle.legal_orders.proofs.LegalOrder.{same_call, continues_from_legal_order}
use Rattle.seq_objects.specs.declared.kind.Kind.TheVariants as kinds
use Rattle.seq_objects.specs.declared.stack.StackOperation.{StackOperation}
use Rattle.seq_objects.specs.declared.stack.StackOperation.TheVariants.{Push, Pop}
use Rattle.seq_objects.specs.Items.{last_taken}
use Rattle.seq_objects.specs.Replies.{reply_value}
use Rattle.seq_objects.specs.StackSteps.{stack_operation, stack_after}
use Rattle.seq_objects.specs.Objects.{kind_next, kind_spec}
use Rattle.level_refutations.specs.declared.entry.LevelEntry.{LevelEntry}
use Rattle.level_refutations.specs.declared.entry.LevelEntry.TheVariants as entry
use Rattle.level_refutations.specs.declared.node.Node.{Node}
use Rattle.level_refutations.specs.Closed.{IsOneOf, Level, bottom, no_calls, Table, IsNode, PopLeads, OperationLeads, MayHaveReply, with_level, levels_of, table_of, IsClosedAt}
use Rattle.level_refutations.specs.Laws.{ClosedTablesHaveNoOrder}

-- the list that has these items, given from the last one to the first
abbrev upright : List ℕ → List ℕ
upright [] = []
upright (v ∷ below) = upright below ++ v ∷ []

-- A list, given from its last item to its first, is one of those of a level: it is empty and the
-- level has no item on top; or both have the same item on top, and the rest is one of the lists of
-- a level that may lie below.
abbrev IsOn : List Level → List ℕ → ℕ → Type 0
IsOn levels [] l = (level : Level) × (slice_get levels l ≡ Some level) × (level.top ≡ None)
IsOn levels (v ∷ tops) l = (level : Level) × (slice_get levels l ≡ Some level)
    × (level.top ≡ Some v)
    × ((p : ℕ) × IsOneOf level.below p × IsOn levels tops p)

last_taken-end : (list : List ℕ) (x : ℕ) → last_taken (list ++ x ∷ []) ≡ (list, reply_value x)
last_taken-end [] x = refl
last_taken-end (y ∷ ys) x =
    let whole = taken_end (y ∷ ys) x in
    ap (λ (n : ℕ). (take n (y ∷ ys ++ x ∷ []), reply_value (get_or (y ∷ ys ++ x ∷ []) n 0)))
    {x = length (ys ++ x ∷ [])} {y = length (y ∷ ys)} (pushed_long ys x)
    ∙ (ap (λ (l : List ℕ). (l, reply_value (get_or (y ∷ ys ++ x ∷ []) (length (y ∷ ys)) 0)))
    whole.0 ∙ ap (λ (v : ℕ). (y ∷ ys, reply_value v)) whole.1)
  where
    pushed_long : (list : List ℕ) (x : ℕ) → length (list ++ x ∷ []) ≡ suc (length list)
    pushed_long [] x = refl
    pushed_long (y ∷ ys) x = ap suc (pushed_long ys x)

    taken_end : (list : List ℕ) (x : ℕ) → (take (length list) (list ++ x ∷ []) ≡ list)
        × (get_or (list ++ x ∷ []) (length list) 0 ≡ x)
    taken_end [] x = (refl, refl)
    taken_end (y ∷ ys) x =
        let rest = taken_end ys x in (ap (λ (l : List ℕ). y ∷ l) rest.0, rest.1)

-- A list of the object is one of a level that is a node with a cut.
record IsLed (table : Table) (cut list : List ℕ) : Type 0 where
  tops : List ℕ
  level : ℕ
  on : IsOn table.levels tops level
  node : IsNode table level cut
  is : list ≡ upright tops

-- An operation that leads to nodes alone, and whose reply is as said, makes of a list of its level
-- a list of a level that is a node.
led : (table : Table) (tops : List ℕ) (l : ℕ) (level : Level)
    → slice_get table.levels l ≡ Some level → IsOn table.levels tops l
    → (operation : Option StackOperation) (replies : ℕ → Type 0) (after : List ℕ)
    → OperationLeads table l level operation replies after
    → replies (stack_after (upright tops) operation).1
    → IsLed table after (stack_after (upright tops) operation).0
led table tops l level at on (Some (Push v)) replies after leads says =
    let led = leads says in record {
      tops = v ∷ tops;
      level = led.0;
      on = (led.1.0, led.1.1, led.1.2, (l, led.1.3, on));
      node = led.2;
      is = refl;
    }
led table [] l level at on (Some Pop) replies after leads says =
    let same : on.0 ≡ level = same_Some on.0 level (sym on.1 ∙ at) in
    let top : level.top ≡ None = sym (ap (λ (x : Level). x.top) same) ∙ on.2 in
    record {
      tops = [];
      level = l;
      on = on;
      node = subst (λ (o : Option ℕ). PopLeads table l o level.below replies after) top leads says;
      is = refl;
    }
led table (v ∷ tops) l level at on (Some Pop) replies after leads says =
    let same : on.0 ≡ level = same_Some on.0 level (sym on.1 ∙ at) in
    let top : level.top ≡ Some v = sym (ap (λ (x : Level). x.top) same) ∙ on.2 in
    let taken = last_taken-end (upright tops) v in
    let to = subst (λ (o : Option ℕ). PopLeads table l o level.below replies after) top leads
    (subst replies (ap (λ (p : List ℕ × ℕ). p.1) taken) says) in
    record {
      tops = tops;
      level = on.3.0;
      on = on.3.2;
      node = to on.3.0 (subst (λ (x : Level). IsOneOf x.below on.3.0) same on.3.1);
      is = ap (λ (p : List ℕ × ℕ). p.0) taken;
    }
led table tops l level at on None replies after leads says =
    record { tops = tops; level = l; on = on; node = leads says; is = refl }

-- a list of a level is one of a level that the table has
level_of_list : (levels : List Level) (tops : List ℕ) (l : ℕ) → IsOn levels tops l
    → (level : Level) × (slice_get levels l ≡ Some level)
level_of_list levels [] l on = (on.0, on.1)
level_of_list levels (v ∷ tops) l on = (on.0, on.1)

module _ (book : List Page) (table : Table)
    (closed : (k : ℕ) (node : Node) → slice_get table.nodes k ≡ Some node
    → IsClosedAt book table node) where
  -- a place that may come next leads to a node
  one_place : (cut tops : List ℕ) (l : ℕ) (place : Place) → IsOn table.levels tops l
      → IsNode table l cut → MayStandNext book (kind_next kinds.Stack) cut (upright tops) place
      → IsLed table (raised cut place.caller)
      (list_after book (kind_next kinds.Stack) (upright tops) place)
  unfolding kind_next
  one_place cut tops l place on node stands =
      let call : Call = next_call cut place.caller in
      let same : call_at place ≡ call =
      same_call (call_at place) call refl stands.may_come.next in
      let operations : List ℕ = (page_of book place.caller).operations in
      let op : ℕ = get_or operations place.number 0 in
      let known : operation_of book (call_at place) ≡ Some op =
      slice_get-get_or operations place.number 0 stands.may_come.is_call in
      let level = level_of_list table.levels tops l on in
      let leads = (closed node.0 (record { level = l; cut = node.1 }) node.2).leads place.caller
      level.0 cut level.1 node.3 (subst (MayComeNext book cut) same stands.may_come) op
      (sym (ap (operation_of book) same) ∙ known) in
      let applied : unwrap_or (operation_of book (call_at place)) 0 ≡ op =
      ap (λ (o : Option ℕ). unwrap_or o 0) known in
      let replied : (stack_after (upright tops) (stack_operation op)).1 ≡ place.reply =
      ap (λ (w : ℕ). (stack_after (upright tops) (stack_operation w)).1) (sym applied)
      ∙ stands.reply in
      let says : MayHaveReply book cut place.caller
      (stack_after (upright tops) (stack_operation op)).1 =
      λ (r : Record) (at : record_of book call ≡ Some r).
      stands.recorded r (ap (record_of book) same ∙ at) ∙ sym replied in
      subst (λ (w : ℕ). IsLed table (raised cut place.caller)
      (stack_after (upright tops) (stack_operation w)).0) (sym applied)
      (led table tops l level.0 level.1 on (stack_operation op) (MayHaveReply book cut place.caller)
      (raised cut place.caller) leads says)

  -- No places continue an order from a node and a list of its level.
  none_continue : (rest : List Place) (cut tops : List ℕ) (l : ℕ) → IsOn table.levels tops l
      → IsNode table l cut → Continues book (kind_next kinds.Stack) cut (upright tops) rest → ⊥
  none_continue [] cut tops l on node goes =
      (closed node.0 (record { level = l; cut = node.1 }) node.2).unfinished (cut, node.3, goes)
  none_continue (place ∷ rest) cut tops l on node goes =
      let to = one_place cut tops l place on node goes.0 in
      none_continue rest (raised cut place.caller) to.tops to.level to.on to.node
      (subst (λ (list : List ℕ). Continues book (kind_next kinds.Stack) (raised cut place.caller)
      list rest) to.is goes.1)

-- the first level stays the first one as entries make more
first_level : (more : List LevelEntry) (levels : List Level) (level : Level)
    → slice_get levels 0 ≡ Some level → slice_get (fold with_level levels more) 0 ≡ Some level
first_level [] levels level at = at
first_level (entry.Cut p i ∷ more) levels level at = first_level more levels level at
first_level (entry.Level v below ∷ more) levels level at =
    first_level more _ level (slice_get-push_old levels _ 0 level at)
first_level (entry.At l cuts ∷ more) levels level at = first_level more levels level at

-- the first level of the levels that entries make is the empty stack's
pub begins_at_bottom : (entries : List LevelEntry) → slice_get (levels_of entries) 0 ≡ Some bottom
begins_at_bottom entries = first_level entries (bottom ∷ []) bottom refl

pub closed_tables_have_no_order : ClosedTablesHaveNoOrder
closed_tables_have_no_order book entries h (order, legal) =
    none_continue book (table_of book entries) h.closed order (no_calls book) [] 0
    (bottom, begins_at_bottom entries, refl) h.begins
    (continues_from_legal_order book (kind_spec kinds.Stack) (no_calls book) order
    (omega (arith, length-replicate {A = ℕ} (length book) 0))
    (λ (i : ℕ). get_or-replicate_default {X = ℕ} (length book) i 0) legal)
