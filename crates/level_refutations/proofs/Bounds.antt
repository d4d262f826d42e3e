-- The nodes that entries list have a level and a cut of the table.
use Rattle.std.proofs.Common.{◌≡◌, ℕ, zero, suc, ◌+◌, ◌<◌, ◌≤◌, ◌⊎◌, ◌∙◌, List, [], ◌∷◌, ◌++◌, length, take, get_or, Some, Vec, Global, inl, inr, refl, sym, ap, subst, slice_get, arith}
use Rattle.std.proofs.lemmas.List.{length_push, take_all}
use Rattle.std.proofs.lemmas.List.Sums.{fold_more}
use Rattle.std.proofs.lemmas.Option.{same_Some, slice_get-get_or}
use Rattle.book_base.specs.Book.{Page}
use Rattle.book_base.specs.Next.{raised}
use Rattle.level_refutations.specs.declared.entry.LevelEntry.{LevelEntry}
use Rattle.level_refutations.specs.declared.entry.LevelEntry.TheVariants as entry
use Rattle.level_refutations.specs.declared.node.Node.{Node}
use Rattle.level_refutations.specs.Closed.{IsOneOf, no_calls, levels_of, with_cut, cuts_of, nodes_at, with_nodes, nodes_of, IsMade, AreMade}
use Rattle.level_refutations.proofs.Sets.{IsIn, none_in}
use Rattle.level_refutations.proofs.Listing.{no_entry}
use Rattle.level_refutations.proofs.Widening.{cuts_more}

-- The nodes of the first k + 1 entries are those of the first k with what entry k leaves.
pub nodes_of_more : (entries : List LevelEntry) (k : ℕ) (made : LevelEntry)
    → slice_get entries k ≡ Some made → k < length entries
    → nodes_of (take (k + 1) entries) ≡ with_nodes (nodes_of (take k entries)) made
nodes_of_more entries k made at less =
    let here : get_or entries k no_entry ≡ made =
    same_Some (get_or entries k no_entry) made
    (sym (slice_get-get_or entries k no_entry less) ∙ at) in
    fold_more with_nodes [] entries k no_entry less
    ∙ ap (with_nodes (nodes_of (take k entries))) here

in_either : (xs ys : List Node) (x : Node) → IsIn (xs ++ ys) x → IsIn xs x ⊎ IsIn ys x
in_either [] ys x one = inr one
in_either (y ∷ xs) ys x (zero, at) = inl (0, at)
in_either (y ∷ xs) ys x (suc k, at) = elim (in_either xs ys x (k, at)) [
  | inl one ↦ inl (suc one.0, one.1)
  | inr one ↦ inr one
]

of_nodes_at : (l : ℕ) (cuts : List ℕ) (node : Node) → IsIn (nodes_at l cuts) node
    → (node.level ≡ l) × IsOneOf cuts node.cut
of_nodes_at l [] node one = absurd (none_in node one)
of_nodes_at l (c ∷ cuts) node (zero, at) =
    let same : record { level = l; cut = c } ≡ node =
    same_Some (record { level = l; cut = c }) node at in (
      sym (ap (λ (n : Node). n.level) same),
      (0, ap (λ (n : Node). Some n.cut) same),
    )
of_nodes_at l (c ∷ cuts) node (suc k, at) =
    let rest = of_nodes_at l cuts node (k, at) in (rest.0, (suc rest.1.0, rest.1.1))

-- a node has a level and a cut of a table with so many
abbrev IsBound : ℕ → ℕ → Node → Type 0
IsBound levels cuts node = (node.level < levels) × (node.cut < cuts)

one_entry : (book : List Page) (levels : ℕ) (cuts : List (List ℕ)) (nodes : List Node)
    (made : LevelEntry) → IsMade book levels cuts made
    → ((node : Node) → IsIn nodes node → IsBound levels (length cuts) node) → (node : Node)
    → IsIn (with_nodes nodes made) node
    → IsBound levels (length (with_cut book cuts made)) node
one_entry book levels cuts nodes (entry.Cut p i) is before node one =
    let bound = before node one in
    (bound.0, omega (arith, bound.1, length_push cuts (raised (get_or cuts p (no_calls book)) i)))
one_entry book levels cuts nodes (entry.Level v below) is before node one = before node one
one_entry book levels cuts nodes (entry.At l numbers) is before node one =
    elim (in_either nodes (nodes_at l numbers.items) node one) [
      | inl old ↦ before node old
      | inr new ↦
          let of = of_nodes_at l numbers.items node new in (
            subst (λ (n : ℕ). n < levels) (sym of.0) is.0,
            is.1 node.cut of.1,
          )
    ]

first_entries : (book : List Page) (entries : List LevelEntry)
    → AreMade book entries (length entries) → (k : ℕ) → k ≤ length entries → (node : Node)
    → IsIn (nodes_of (take k entries)) node
    → IsBound (length (levels_of entries)) (length (cuts_of book (take k entries))) node
first_entries book entries made zero few node one = absurd (none_in node one)
first_entries book entries made (suc k) few node one =
    let less : k < length entries = omega (arith, few) in
    let this : LevelEntry = get_or entries k no_entry in
    let at : slice_get entries k ≡ Some this = slice_get-get_or entries k no_entry less in
    let more : k + 1 ≡ suc k = omega arith in
    let nodes : nodes_of (take (suc k) entries) ≡ with_nodes (nodes_of (take k entries)) this =
    ap (λ (n : ℕ). nodes_of (take n entries)) (sym more) ∙ nodes_of_more entries k this at less in
    let cuts : cuts_of book (take (suc k) entries)
    ≡ with_cut book (cuts_of book (take k entries)) this =
    ap (λ (n : ℕ). cuts_of book (take n entries)) (sym more) ∙ cuts_more book entries k this at less
    in
    subst (λ (c : List (List ℕ)). IsBound (length (levels_of entries)) (length c) node) (sym cuts)
    (one_entry book (length (levels_of entries)) (cuts_of book (take k entries))
    (nodes_of (take k entries)) this (made k this less at)
    (first_entries book entries made k (omega (arith, few))) node
    (subst (λ (ns : List Node). IsIn ns node) nodes one))

pub nodes_are_bound : (book : List Page) (entries : List LevelEntry)
    → AreMade book entries (length entries) → (k : ℕ) (node : Node)
    → slice_get (nodes_of entries) k ≡ Some node
    → (node.level < length (levels_of entries)) × (node.cut < length (cuts_of book entries))
nodes_are_bound book entries made k node at =
    let all : take (length entries) entries ≡ entries =
    take_all (length entries) entries (omega arith) in
    subst (λ (es : List LevelEntry). IsBound (length (levels_of entries))
    (length (cuts_of book es)) node) all
    (first_entries book entries made (length entries) (omega arith) node
    (k, ap (λ (es : List LevelEntry). slice_get (nodes_of es) k) all ∙ at))

-- an entry that lists no nodes leaves the nodes
pub no_nodes : (made : LevelEntry)
    → ((l : ℕ) (cuts : Vec ℕ Global) → made ≡ entry.At l cuts → ⊥) → (nodes : List Node)
    → with_nodes nodes made ≡ nodes
no_nodes (entry.Cut p i) never nodes = refl
no_nodes (entry.Level v below) never nodes = refl
no_nodes (entry.At l cuts) never nodes = absurd (never l cuts refl)
