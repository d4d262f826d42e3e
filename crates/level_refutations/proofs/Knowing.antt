-- The nodes by their counts.
use Rattle.std.proofs.Common.{◌≡◌, ℕ, ◌+◌, ◌<◌, ◌⊎◌, ◌↔◌, ◌&&◌, ◌==◌, ◌∙◌, Bool, true, false, true≢false, List, [], ◌∷◌, ◌++◌, length, take, get_or, Some, inl, inr, refl, sym, ap, subst, slice_get}
use Rattle.std.specs.Str.{bytes_eq}
use Rattle.std.specs.Cmp.Lexicographic.{same_text, other_text}
use Rattle.std.proofs.lemmas.Bool.{cases_Bool, eqb-true, eq-eqb}
use Rattle.std.proofs.lemmas.List.{take_more, map_push}
use Rattle.list_laws.proofs.Places.{slice_get-push_last, slice_get-push_old, slice_get-push_cases}
use Rattle.level_refutations.specs.declared.node.Node.{Node}
use Rattle.level_refutations.specs.declared.node.NodeKey.{NodeKey}
use Rattle.level_refutations.specs.Closed.{AreNodesAt, nodes_at}
use Rattle.level_refutations.specs.Stored.{IsKey, AreKnown}

-- whether two keys are the same
abbrev pub is_same_key : NodeKey → NodeKey → Bool
is_same_key a b = (a.level == b.level) && bytes_eq a.counts b.counts

both : (a b : Bool) → (a && b) ≡ true → (a ≡ true) × (b ≡ true)
both true b h = (refl, h)
both false b h = absurd (true≢false (sym h))

list_same : (xs : List ℕ) → bytes_eq xs xs ≡ true
list_same xs = elim (cases_Bool (bytes_eq xs xs)) [
  | inl equal ↦ equal
  | inr apart ↦ absurd (other_text xs xs (sym apart) refl)
]

pub same_key : (a b : NodeKey) → is_same_key a b ≡ true → a ≡ b
same_key a b h =
    let parts = both (a.level == b.level) (bytes_eq a.counts b.counts) h in
    let made : ℕ → List ℕ → NodeKey = λ l counts. record { level = l; counts = counts } in
    ap (λ (l : ℕ). made l a.counts) (eqb-true a.level b.level parts.0)
    ∙ ap (made b.level) (same_text a.counts b.counts (sym parts.1))

pub key_alike : (a : NodeKey) → is_same_key a a ≡ true
key_alike a = ap (λ (c : Bool). c && bytes_eq a.counts a.counts) (eq-eqb a.level a.level refl)
    ∙ list_same a.counts

-- The nodes of a level with the first k + 1 cuts are those with the first k and one more.
pub nodes_at_more : (l : ℕ) (cuts : List ℕ) (k : ℕ) → k < length cuts
    → nodes_at l (take (k + 1) cuts)
    ≡ nodes_at l (take k cuts) ++ record { level = l; cut = get_or cuts k 0 } ∷ []
nodes_at_more l cuts k less = ap (nodes_at l) (take_more cuts k 0 less)
    ∙ map_push (λ (c : ℕ). record { level = l; cut = c }) (take k cuts) (get_or cuts k 0)

-- What is a node, with one node more.
nodes_push : (cuts : List (List ℕ)) (nodes : List Node) (node : Node) (l : ℕ) (counts : List ℕ)
    → AreNodesAt cuts (nodes ++ node ∷ []) l counts ↔ (AreNodesAt cuts nodes l counts
    ⊎ ((l ≡ node.level) × (slice_get cuts node.cut ≡ Some counts)))
nodes_push cuts nodes node l counts = (
  λ one. elim (slice_get-push_cases nodes node one.0 _ one.2) [
    | inl old ↦ inl (one.0, one.1, old, one.3)
    | inr last ↦ inr (
      ap (λ (n : Node). n.level) last.1,
      ap (slice_get cuts) (sym (ap (λ (n : Node). n.cut) last.1)) ∙ one.3,
    )
  ],
  λ one. elim one [
    | inl old ↦ (old.0, old.1, slice_get-push_old nodes node old.0 _ old.2, old.3)
    | inr new ↦ (
      length nodes,
      node.cut,
      slice_get-push_last nodes node
          ∙ ap (λ (x : ℕ). Some (record { level = x; cut = node.cut })) (sym new.0),
      new.1,
    )
  ],
)

-- Keys that are those of the first k nodes, with that of node k, are those of the first k + 1.
pub known_more : (cuts : List (List ℕ)) (nodes : List Node) (k : ℕ) (d : Node)
    (keys more : List NodeKey) → k < length nodes → AreKnown cuts (take k nodes) keys
    → ((key : NodeKey) → IsKey more key ↔ (IsKey keys key
    ⊎ ((key.level ≡ (get_or nodes k d).level)
    × (slice_get cuts (get_or nodes k d).cut ≡ Some key.counts))))
    → AreKnown cuts (take (k + 1) nodes) more
known_more cuts nodes k d keys more less known is l counts =
    let node : Node = get_or nodes k d in
    let key : NodeKey = record { level = l; counts = counts } in
    subst (λ (ns : List Node). IsKey more key ↔ AreNodesAt cuts ns l counts)
    (sym (take_more nodes k d less)) (
      λ one. elim ((is key).0 one) [
        | inl old ↦
            (nodes_push cuts (take k nodes) node l counts).1 (inl ((known l counts).0 old))
        | inr new ↦ (nodes_push cuts (take k nodes) node l counts).1 (inr new)
      ],
      λ one. elim ((nodes_push cuts (take k nodes) node l counts).0 one) [
        | inl old ↦ (is key).1 (inl ((known l counts).1 old))
        | inr new ↦ (is key).1 (inr new)
      ],
    )

-- No nodes have no keys.
pub none_known : (cuts : List (List ℕ)) (keys : List NodeKey) → keys ≡ []
    → AreKnown cuts [] keys
none_known cuts keys none l counts = (
  λ one. absurd (no_key (record { level = l; counts = counts })
      (subst (λ (ks : List NodeKey). IsKey ks (record { level = l; counts = counts })) none one)),
  λ one. absurd (let at = one.2 in cc),
)
  where
    no_key : (key : NodeKey) → IsKey [] key → ⊥
    no_key key one = absurd cc
