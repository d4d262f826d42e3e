-- Faults of closed tables: a closed table has none, and entries have one first fault at most.
use Rattle.std.proofs.Common.{◌≡◌, ℕ, ◌∙◌, List, length, sym, ap, subst, inl, inr, slice_get, arith}
use Rattle.std.proofs.lemmas.Bool.{cases_lt}
use Rattle.std.proofs.lemmas.Option.{same_Some, slice_get_within}
use Rattle.book_base.specs.Book.{Page}
use Rattle.level_refutations.specs.declared.entry.LevelEntry.{LevelEntry}
use Rattle.level_refutations.specs.declared.fault.LevelFault.TheVariants.{Unlisted, Whole, Leads}
use Rattle.level_refutations.specs.declared.node.Node.{Node}
use Rattle.level_refutations.specs.Closed.{IsNode, IsWhole, IsClosedAt, AreMade, nodes_of, no_calls, table_of}
use Rattle.level_refutations.specs.Fault.{IsFirstOpen, IsFirstOut, IsFirstFault}
use Rattle.level_refutations.specs.Laws.{ClosedTablesFailNoTest, FirstFaultsAreOne}

pub closed_tables_fail_no_test : ClosedTablesFailNoTest
closed_tables_fail_no_test book entries (Unlisted e) h f = elim f [
  | inl it ↦
      it.lacks (h.made it.k it.unmade (slice_get_within entries it.k it.unmade it.there) it.there)
  | inr it ↦ it.1.lacks h.begins
]
closed_tables_fail_no_test book entries (Whole l c) h f =
    (h.closed f.k (record { level = l; cut = c }) f.there).unfinished f.here
closed_tables_fail_no_test book entries (Leads l c caller) h f =
    f.here.out ((h.closed f.k (record { level = l; cut = c }) f.there).leads caller)

module _ (book : List Page) (entries : List LevelEntry) where
  -- entries that name what is there, and make the first node, have no fault of an entry
  none_unlisted : (e : ℕ) → AreMade book entries (length entries)
      → IsNode (table_of book entries) 0 (no_calls book)
      → IsFirstFault book entries (Unlisted e) → ⊥
  none_unlisted e made begins f = elim f [
    | inl it ↦
        it.lacks (made it.k it.unmade (slice_get_within entries it.k it.unmade it.there) it.there)
    | inr it ↦ it.1.lacks begins
  ]

  one_entry : (e f : ℕ) → IsFirstFault book entries (Unlisted e)
      → IsFirstFault book entries (Unlisted f) → e ≡ f
  one_entry e f g h = elim g [
    | inl a ↦ elim h [
      | inl b ↦ elim (cases_lt a.k b.k) [
        | inl less ↦ absurd (a.lacks (b.before a.k a.unmade less a.there))
        | inr not_less ↦ elim (cases_lt b.k a.k) [
          | inl less ↦ absurd (b.lacks (a.before b.k b.unmade less b.there))
          | inr not_more ↦ omega (arith, a.number, b.number, not_less, not_more)
        ]
      ]
      | inr b ↦ absurd (a.lacks
          (b.1.made a.k a.unmade (slice_get_within entries a.k a.unmade a.there) a.there))
    ]
    | inr a ↦ elim h [
      | inl b ↦ absurd (b.lacks
          (a.1.made b.k b.unmade (slice_get_within entries b.k b.unmade b.there) b.there))
      | inr b ↦ a.0 ∙ sym b.0
    ]
  ]

  -- Of two nodes at which a table isn't closed, each of which is the first one, both are one.
  one_node : (a b : Node) (p q : Type 0) → IsFirstOpen book entries a p
      → IsFirstOpen book entries b q → (p → IsClosedAt book (table_of book entries) a → ⊥)
      → (q → IsClosedAt book (table_of book entries) b → ⊥) → a ≡ b
  one_node a b p q f g not_a not_b = elim (cases_lt f.k g.k) [
    | inl less ↦ absurd (not_a f.here (g.before f.k a less f.there))
    | inr not_less ↦ elim (cases_lt g.k f.k) [
      | inl less ↦ absurd (not_b g.here (f.before g.k b less g.there))
      | inr not_more ↦
          let same : f.k ≡ g.k = omega (arith, not_less, not_more) in
          same_Some a b (sym f.there ∙ (ap (slice_get (nodes_of entries)) same ∙ g.there))
    ]
  ]

  not_whole : (node : Node) → IsWhole book (table_of book entries) node
      → IsClosedAt book (table_of book entries) node → ⊥
  not_whole node whole closed = closed.unfinished whole

  not_out : (node : Node) (caller : ℕ) → IsFirstOut book entries node caller
      → IsClosedAt book (table_of book entries) node → ⊥
  not_out node caller out closed = out.out (closed.leads caller)

  -- two callers who are the first ones that lead out of the table from one node are one
  one_caller : (node : Node) (i j : ℕ) → IsFirstOut book entries node i
      → IsFirstOut book entries node j → i ≡ j
  one_caller node i j f g = elim (cases_lt i j) [
    | inl less ↦ absurd (f.out (g.before i less))
    | inr not_less ↦ elim (cases_lt j i) [
      | inl less ↦ absurd (g.out (f.before j less))
      | inr not_more ↦ omega (arith, not_less, not_more)
    ]
  ]

pub first_faults_are_one : FirstFaultsAreOne
first_faults_are_one book entries (Unlisted e) (Unlisted f) g h =
    ap (λ (n : ℕ). Unlisted n) (one_entry book entries e f g h)
first_faults_are_one book entries (Unlisted e) (Whole l c) g h =
    absurd (none_unlisted book entries e h.made h.begins g)
first_faults_are_one book entries (Unlisted e) (Leads l c i) g h =
    absurd (none_unlisted book entries e h.made h.begins g)
first_faults_are_one book entries (Whole l c) (Unlisted f) g h =
    absurd (none_unlisted book entries f g.made g.begins h)
first_faults_are_one book entries (Leads l c i) (Unlisted f) g h =
    absurd (none_unlisted book entries f g.made g.begins h)
first_faults_are_one book entries (Whole l c) (Whole m d) g h =
    let a : Node = record { level = l; cut = c } in
    let b : Node = record { level = m; cut = d } in
    ap (λ (n : Node). Whole n.level n.cut)
    (one_node book entries a b _ _ g h (not_whole book entries a) (not_whole book entries b))
first_faults_are_one book entries (Whole l c) (Leads m d i) g h =
    let a : Node = record { level = l; cut = c } in
    let b : Node = record { level = m; cut = d } in
    let same : a ≡ b = one_node book entries a b _ _ g h (not_whole book entries a)
    (not_out book entries b i) in
    absurd (h.here.unfinished (subst (IsWhole book (table_of book entries)) same g.here))
first_faults_are_one book entries (Leads l c i) (Whole m d) g h =
    let a : Node = record { level = l; cut = c } in
    let b : Node = record { level = m; cut = d } in
    let same : a ≡ b = one_node book entries a b _ _ g h (not_out book entries a i)
    (not_whole book entries b) in
    absurd (g.here.unfinished (subst (IsWhole book (table_of book entries)) (sym same) h.here))
first_faults_are_one book entries (Leads l c i) (Leads m d j) g h =
    let a : Node = record { level = l; cut = c } in
    let b : Node = record { level = m; cut = d } in
    let same : a ≡ b = one_node book entries a b _ _ g h (not_out book entries a i)
    (not_out book entries b j) in
    let caller : i ≡ j = one_caller book entries a i j g.here
    (subst (λ (n : Node). IsFirstOut book entries n j) (sym same) h.here) in
    ap (λ (n : Node). Leads n.level n.cut i) same ∙ ap (λ (k : ℕ). Leads m d k) caller
