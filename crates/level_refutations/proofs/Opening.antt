-- Where a stored table says that calls lead, and what its first open node is.
use Rattle.std.proofs.Common.{◌≡◌, ℕ, zero, suc, ◌<◌, ◌≤◌, ◌⊎◌, ◌↔◌, ◌∙◌, List, [], ◌∷◌, length, take, get_or, Option, Some, None, Result, Ok, Err, IfErr, OnOk, IsOk, inl, inr, refl, sym, ap, subst, slice_get, arith}
use Rattle.std.proofs.lemmas.Option.{same_Some, slice_get_within, slice_get-get_or, get_or_from_slice_get}
use Rattle.book_base.specs.declared.call.Record.{Record}
use Rattle.book_base.specs.Book.{Page, record_of, answers_of}
use Rattle.book_base.specs.declared.call.Call.{Call}
use Rattle.book_base.specs.Next.{next_call, HoldsAnswered, MayComeNext}
use Rattle.book_base.specs.Pruning.{IsLeast}
use Rattle.book_base.proofs.PageLemmas.{caller_from_call}
use Rattle.seq_objects.specs.declared.stack.StackOperation.{StackOperation}
use Rattle.seq_objects.specs.declared.stack.StackOperation.TheVariants.{Push, Pop}
use Rattle.level_refutations.specs.declared.entry.LevelEntry.{LevelEntry}
use Rattle.level_refutations.specs.declared.fault.LevelFault.{LevelFault}
use Rattle.level_refutations.specs.declared.fault.LevelFault.TheVariants.{Unlisted, Whole, Leads}
use Rattle.level_refutations.specs.declared.node.Node.{Node}
use Rattle.level_refutations.specs.Closed.{Level, Table, IsNode, AreNodesAt, LiesOn, PopLeads, OperationLeads, CallLeads, IsWhole, LeadsInside, IsClosedAt, AreMade, levels_of, cuts_of, nodes_of, no_calls, table_of}
use Rattle.level_refutations.specs.Fault.{IsFirstFault, IsFirstOut}
use Rattle.level_refutations.specs.declared.table.StoredTable.{StoredTable}
use Rattle.level_refutations.specs.Stored.{wide_of, AreWide, IsStored, IsOpen, Allows}
use Rattle.level_refutations.proofs.Widening.{stored_at, narrow, nodes_as}

-- Where one table says that an operation leads to nodes alone, another one with the same levels
-- does, if it has the same nodes after the call, and no reply more is allowed.
pub leads_as : (t u : Table) (l : ℕ) (level : Level) (operation : Option StackOperation)
    (replies allowed : ℕ → Type 0) (a b : List ℕ) → t.levels ≡ u.levels
    → ((reply : ℕ) → allowed reply → replies reply)
    → ((m : ℕ) → IsNode t m a → IsNode u m b)
    → OperationLeads t l level operation replies a → OperationLeads u l level operation allowed b
leads_as t u l level (Some (Push v)) replies allowed a b same fewer nodes leads =
    λ may. let to = leads (fewer _ may) in
    (to.0, subst (λ (levels : List Level). LiesOn levels to.0 v l) same to.1, nodes to.0 to.2)
leads_as t u l level (Some Pop) replies allowed a b same fewer nodes leads =
    pop_as level.top leads
  where
    pop_as : (top : Option ℕ) → PopLeads t l top level.below replies a
        → PopLeads u l top level.below allowed b
    pop_as None leads = λ may. nodes l (leads (fewer _ may))
    pop_as (Some v) leads = λ may p below. nodes p (leads (fewer _ may) p below)
leads_as t u l level None replies allowed a b same fewer nodes leads =
    λ may. nodes l (leads (fewer _ may))

-- a call that may not come next leads to nodes alone
pub leads-never : (book : List Page) (table : Table) (node : Node) (cut : List ℕ) (i : ℕ)
    → slice_get table.cuts node.cut ≡ Some cut → (MayComeNext book cut (next_call cut i) → ⊥)
    → LeadsInside book table node i
leads-never book table node cut i at never level other there at_other may op known =
    let same : other ≡ cut = same_Some other cut (sym at_other ∙ at) in
    absurd (never (subst (λ (c : List ℕ). MayComeNext book c (next_call c i)) same may))

-- a table is closed at a node from which the calls of all callers of the book lead to nodes
pub closed_at : (book : List Page) (table : Table) (node : Node)
    → (IsWhole book table node → ⊥)
    → ((i : ℕ) → i < length book → LeadsInside book table node i) → IsClosedAt book table node
closed_at book table node unfinished leads = record {
  unfinished = unfinished;
  leads = λ i level cut there at may.
      leads i (caller_from_call book i (get_or cut i 0) may.is_call) level cut there at may;
}

-- A cut outside which some answered call is the least doesn't hold all answered calls.
pub not_whole : (book : List Page) (table : Table) (node : Node) (cut : List ℕ) (first : ℕ)
    → slice_get table.cuts node.cut ≡ Some cut → IsLeast book cut (length book) first
    → IsWhole book table node → ⊥
not_whole book table node cut first at least whole =
    let same : whole.0 ≡ cut = same_Some whole.0 cut (sym whole.1 ∙ at) in
    let holds : HoldsAnswered book cut = subst (HoldsAnswered book) same whole.2 in
    let held : get_or cut first 0 < get_or cut first 0 =
    holds (next_call cut first) least.answered in
    absurd (omega (arith, held))

-- The first node that is open has the first fault, where all entries are made and the first node is
-- there.
pub first_of_open : (book : List Page) (entries : List LevelEntry) (k : ℕ) (node : Node)
    (fault : LevelFault) → AreMade book entries (length entries)
    → IsNode (table_of book entries) 0 (no_calls book)
    → slice_get (nodes_of entries) k ≡ Some node
    → ((j : ℕ) (other : Node) → j < k → slice_get (nodes_of entries) j ≡ Some other
    → IsClosedAt book (table_of book entries) other)
    → IsOpen book entries node fault → IsFirstFault book entries fault
first_of_open book entries k node (Unlisted e) made begins at before opens = absurd opens
first_of_open book entries k node (Whole l c) made begins at before opens = record {
  made = made;
  begins = begins;
  k = k;
  there = at ∙ ap (λ (n : Node). Some n) opens.0;
  before = before;
  here = subst (IsWhole book (table_of book entries)) opens.0 opens.1;
}
first_of_open book entries k node (Leads l c caller) made begins at before opens = record {
  made = made;
  begins = begins;
  k = k;
  there = at ∙ ap (λ (n : Node). Some n) opens.0;
  before = before;
  here = subst (λ (n : Node). IsFirstOut book entries n caller) opens.0 opens.1;
}

-- A node of a stored table is one of the table that the entries make.
pub node_as : (book : List Page) (entries : List LevelEntry) (stored : StoredTable)
    → IsStored book entries stored → (l : ℕ) (cut : List ℕ) → length cut ≡ length book
    → AreNodesAt stored.cuts.items stored.nodes.items l (wide_of cut)
    ↔ IsNode (table_of book entries) l cut
node_as book entries stored is l cut long =
    subst (λ (ns : List Node). AreNodesAt stored.cuts.items ns l (wide_of cut)
    ↔ IsNode (table_of book entries) l cut) (sym is.nodes)
    (nodes_as book stored.cuts.items (cuts_of book entries) is.cuts (nodes_of entries) l cut long)

-- The counts that are stored of a node's cut.
pub record IsCutOf (book : List Page) (entries : List LevelEntry) (node : Node)
    (counts : List ℕ) : Type 0 where
  pub cut : List ℕ
  pub at : slice_get (cuts_of book entries) node.cut ≡ Some cut
  pub taken : take (length book) counts ≡ cut
  pub wide : AreWide (length book) counts

pub cut_of_node : (book : List Page) (entries : List LevelEntry) (stored : StoredTable)
    (node : Node) (counts d : List ℕ) → IsStored book entries stored
    → node.cut < length (cuts_of book entries) → counts ≡ get_or stored.cuts.items node.cut d
    → IsCutOf book entries node counts
cut_of_node book entries stored node counts d is inside read =
    let cuts : List (List ℕ) = cuts_of book entries in
    let cut : List ℕ = get_or cuts node.cut [] in
    let at : slice_get cuts node.cut ≡ Some cut = slice_get-get_or cuts node.cut [] inside in
    let counts_are : counts ≡ wide_of cut = read ∙ get_or_from_slice_get stored.cuts.items node.cut
    (wide_of cut) d (stored_at book stored.cuts.items cuts is.cuts node.cut cut at) in
    let long : length cut ≡ length book = is.cuts.wide node.cut cut at in
    let taken : take (length book) counts ≡ cut =
    ap (take (length book)) counts_are ∙ narrow cut (length book) long in
    record {
      cut = cut;
      at = at;
      taken = taken;
      wide = (ap (λ (l : List ℕ). length l) taken ∙ long, counts_are ∙ ap wide_of (sym taken));
    }

-- Where the next call of a caller leads at a node, by the counts of its cut.
pub inside_as : (book : List Page) (entries : List LevelEntry) (node : Node) (counts : List ℕ)
    (i : ℕ) → IsCutOf book entries node counts
    → ((named : Level) → slice_get (levels_of entries) node.level ≡ Some named
    → CallLeads book (table_of book entries) node.level named (take (length book) counts) i)
    ↔ LeadsInside book (table_of book entries) node i
inside_as book entries node counts i of = (
  λ leads named other there at_other.
      let same : take (length book) counts ≡ other =
      of.taken ∙ same_Some of.cut other (sym of.at ∙ at_other) in
      subst (λ (cut : List ℕ). CallLeads book (table_of book entries) node.level named cut i) same
      (leads named there),
  λ leads named there.
      subst (λ (cut : List ℕ). CallLeads book (table_of book entries) node.level named cut i)
      (sym of.taken) (leads named of.cut there of.at),
)

-- A recorded reply, if there is one, allows what the record does.
pub replies_as : (book : List Page) (call : Call) (reply : Option ℕ)
    → ((r : Record) × (record_of book call ≡ Some r) × (reply ≡ Some r.reply))
    ⊎ ((answers_of book call.caller ≤ call.number) × (reply ≡ None)) → (said : ℕ)
    → Allows reply said ↔ ((r : Record) → record_of book call ≡ Some r → r.reply ≡ said)
replies_as book call reply is said = elim is [
  | inl known ↦ (
    λ allows r at.
        let same : known.0 ≡ r = same_Some known.0 r (sym known.1 ∙ at) in
        ap (λ (x : Record). x.reply) (sym same) ∙ subst (λ (o : Option ℕ). Allows o said) known.2
        allows,
    λ all. subst (λ (o : Option ℕ). Allows o said) (sym known.2) (all known.0 known.1),
  )
  | inr none ↦ (
    λ allows r at. absurd (omega (arith, slice_get_within _ call.number r at, none.0)),
    λ all. subst (λ (o : Option ℕ). Allows o said) (sym none.1) tt,
  )
]

-- what one answer has, another one has that follows from it
pub OnOk-more : {E : Type 0} {P Q : Type 0} (r : Result (Unit {0}) E) → OnOk r P → (P → Q)
    → OnOk r Q
OnOk-more (Ok a) h gives = gives h
OnOk-more (Err e) h gives = tt

pub IfErr-never : {E : Type 0} {P : E → Type 0} (r : Result (Unit {0}) E) → IfErr r P
    → ((e : E) → P e → ⊥) → IsOk r
IfErr-never (Ok a) h never = refl
IfErr-never (Err e) h never = absurd (never e h)

taken_few : (n : ℕ) (xs : List ℕ) → length (take n xs) ≡ n → n ≤ length xs
taken_few zero xs long = omega arith
taken_few (suc n) [] long = absurd (omega (arith, long))
taken_few (suc n) (x ∷ xs) long =
    omega (arith, taken_few n xs (omega (arith, long)))

-- what is so of a cut's counts for as many callers as the book has
pub of_callers : (n callers : ℕ) (counts : List ℕ) → callers ≡ n → AreWide n counts
    → (callers ≤ length counts) × (length (take callers counts) ≡ n)
    × (callers ≡ length (take callers counts))
of_callers n callers counts same wide =
    let long : length (take callers counts) ≡ n =
    ap (λ (k : ℕ). length (take k counts)) same ∙ wide.0 in
    (omega (arith, same, taken_few n counts wide.0), long, same ∙ sym long)
