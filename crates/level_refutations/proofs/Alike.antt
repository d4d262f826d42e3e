-- Entries that say the same make the same table, and fail the same first test.
use Rattle.std.proofs.Common.{◌≡◌, ℕ, ◌<◌, List, [], ◌∷◌, ◌++◌, length, fold, take, Option, Some, None, slice_get, option_map, refl, sym, ap, subst, ◌∙◌, inl, inr}
use Rattle.std.proofs.lemmas.List.{take-map, length-map}
use Rattle.std.proofs.lemmas.Option.{slice_get-map, same_Some}
use Rattle.book_base.specs.Book.{Page, IsCall}
use Rattle.book_base.specs.Next.{raised, next_call}
use Rattle.std.specs.Prelude.{slice_index_or}
use Rattle.level_refutations.specs.declared.entry.LevelEntry.{LevelEntry}
use Rattle.level_refutations.specs.declared.entry.LevelEntry.TheVariants as entry
use Rattle.level_refutations.specs.declared.fault.LevelFault.TheVariants.{Unlisted, Whole, Leads}
use Rattle.level_refutations.specs.declared.node.Node.{Node}
use Rattle.level_refutations.specs.Said as said
use Rattle.level_refutations.specs.Said.{EntrySaid, entry_said, entries_said}
use Rattle.level_refutations.specs.Closed.{Level, bottom, no_calls, Table, IsNode, IsWhole, LeadsInside, IsClosedAt, with_level, levels_of, with_cut, cuts_of, with_nodes, nodes_at, nodes_of, table_of, AreBelow, IsMade, AreMade}
use Rattle.level_refutations.specs.Fault.{IsFirstOpen, IsFirstOut}
use Rattle.level_refutations.specs.Laws.{FaultsAreOfWhatIsSaid}

-- ---- one entry

-- the levels that an entry leaves, by what it says
abbrev level_by : List Level → EntrySaid → List Level
level_by levels (said.Cut p i) = levels
level_by levels (said.Level v below) = levels ++ record { top = Some v; below = below } ∷ []
level_by levels (said.At l cuts) = levels

same_level : (levels : List Level) (x : LevelEntry)
    → with_level levels x ≡ level_by levels (entry_said x)
same_level levels (entry.Cut p i) = refl
same_level levels (entry.Level v below) = refl
same_level levels (entry.At l cuts) = refl

-- the cuts that an entry leaves, by what it says
abbrev cut_by : List Page → List (List ℕ) → EntrySaid → List (List ℕ)
cut_by book cuts (said.Cut p i) = cuts ++ raised (slice_index_or cuts p (no_calls book)) i ∷ []
cut_by book cuts (said.Level v below) = cuts
cut_by book cuts (said.At l numbers) = cuts

same_cut : (book : List Page) (cuts : List (List ℕ)) (x : LevelEntry)
    → with_cut book cuts x ≡ cut_by book cuts (entry_said x)
same_cut book cuts (entry.Cut p i) = refl
same_cut book cuts (entry.Level v below) = refl
same_cut book cuts (entry.At l numbers) = refl

-- the nodes that an entry leaves, by what it says
abbrev nodes_by : List Node → EntrySaid → List Node
nodes_by nodes (said.Cut p i) = nodes
nodes_by nodes (said.Level v below) = nodes
nodes_by nodes (said.At l cuts) = nodes ++ nodes_at l cuts

same_nodes : (nodes : List Node) (x : LevelEntry)
    → with_nodes nodes x ≡ nodes_by nodes (entry_said x)
same_nodes nodes (entry.Cut p i) = refl
same_nodes nodes (entry.Level v below) = refl
same_nodes nodes (entry.At l cuts) = refl

-- an entry names what is there, by what it says
abbrev MadeBy : List Page → ℕ → List (List ℕ) → EntrySaid → Type 0
MadeBy book levels cuts (said.Cut p i) = (cut : List ℕ) × (slice_get cuts p ≡ Some cut)
    × IsCall book (next_call cut i)
MadeBy book levels cuts (said.Level v below) = AreBelow below levels
MadeBy book levels cuts (said.At l numbers) = (l < levels) × AreBelow numbers (length cuts)

module _ (book : List Page) (levels : ℕ) (cuts : List (List ℕ)) where
  to_said : (x : LevelEntry) → IsMade book levels cuts x → MadeBy book levels cuts (entry_said x)
  to_said (entry.Cut p i) h = h
  to_said (entry.Level v below) h = h
  to_said (entry.At l numbers) h = h

  from_said : (x : LevelEntry) → MadeBy book levels cuts (entry_said x) → IsMade book levels cuts x
  from_said (entry.Cut p i) h = h
  from_said (entry.Level v below) h = h
  from_said (entry.At l numbers) h = h

  made_alike : (x y : LevelEntry) → entry_said x ≡ entry_said y → IsMade book levels cuts x
      → IsMade book levels cuts y
  made_alike x y same h = from_said y (subst (MadeBy book levels cuts) same (to_said x h))

-- ---- all entries

module _ {S : Type 0} (f : S → LevelEntry → S) (g : S → EntrySaid → S)
    (same : (s : S) (x : LevelEntry) → f s x ≡ g s (entry_said x)) where
  fold_by : (s : S) (xs : List LevelEntry) → fold f s xs ≡ fold g s (entries_said xs)
  fold_by s [] = refl
  fold_by s (x ∷ xs) =
      fold_by (f s x) xs ∙ ap (λ (t : S). fold g t (entries_said xs)) (same s x)

  fold_alike : (s : S) (xs ys : List LevelEntry) → entries_said xs ≡ entries_said ys
      → fold f s xs ≡ fold f s ys
  fold_alike s xs ys e = fold_by s xs ∙ ap (fold g s) e ∙ sym (fold_by s ys)

some_alike : (o : Option LevelEntry) (x : LevelEntry) → option_map entry_said o ≡ Some (entry_said x)
    → (y : LevelEntry) × (o ≡ Some y) × (entry_said x ≡ entry_said y)
some_alike (Some y) x e = (y, refl, sym (same_Some _ _ e))
some_alike None x e = absurd (cc e)

module _ (book : List Page) (a b : List LevelEntry) (same : entries_said a ≡ entries_said b) where
  taken : (k : ℕ) → entries_said (take k a) ≡ entries_said (take k b)
  taken k = sym (take-map entry_said k a) ∙ ap (take k) same ∙ take-map entry_said k b

  long : length a ≡ length b
  long = sym (length-map a entry_said) ∙ ap length same ∙ length-map b entry_said

  there : (k : ℕ) (x : LevelEntry) → slice_get a k ≡ Some x
      → (y : LevelEntry) × (slice_get b k ≡ Some y) × (entry_said x ≡ entry_said y)
  there k x at = some_alike (slice_get b k) x
      (sym (slice_get-map entry_said b k)
      ∙ ap (λ (es : List EntrySaid). slice_get es k) (sym same)
      ∙ slice_get-map entry_said a k ∙ ap (option_map entry_said) at)

  levels : levels_of a ≡ levels_of b
  levels = fold_alike with_level level_by same_level (bottom ∷ []) a b same

  cuts : (k : ℕ) → cuts_of book (take k a) ≡ cuts_of book (take k b)
  cuts k = fold_alike (with_cut book) (cut_by book) (same_cut book) (no_calls book ∷ []) (take k a)
      (take k b) (taken k)

  nodes : nodes_of a ≡ nodes_of b
  nodes = fold_alike with_nodes nodes_by same_nodes [] a b same

  table : table_of book a ≡ table_of book b
  table =
      let made : List Level → List (List ℕ) → List Node → Table =
      λ ls cs ns. record { levels = ls; cuts = cs; nodes = ns } in
      ap (λ (ls : List Level). made ls (cuts_of book a) (nodes_of a)) levels
      ∙ ap (λ (cs : List (List ℕ)). made (levels_of b) cs (nodes_of a))
      (fold_alike (with_cut book) (cut_by book) (same_cut book) (no_calls book ∷ []) a b same)
      ∙ ap (made (levels_of b) (cuts_of book b)) nodes

  -- an entry with a number names what is there in both
  one_made : (j : ℕ) (x y : LevelEntry) → entry_said x ≡ entry_said y
      → IsMade book (length (levels_of a)) (cuts_of book (take j a)) x
      → IsMade book (length (levels_of b)) (cuts_of book (take j b)) y
  one_made j x y e h =
      subst (λ (n : ℕ). IsMade book n (cuts_of book (take j b)) y) (ap length levels)
      (subst (λ (cs : List (List ℕ)). IsMade book (length (levels_of a)) cs y) (cuts j)
      (made_alike book (length (levels_of a)) (cuts_of book (take j a)) x y e h))

module _ (book : List Page) (a b : List LevelEntry) (same : entries_said a ≡ entries_said b) where
  all_made : (k : ℕ) → AreMade book a k → AreMade book b k
  all_made k h j y less at =
      let x = there book b a (sym same) j y at in
      one_made book a b same j x.0 y (sym x.2) (h j x.0 less x.1)

  all_of : AreMade book a (length a) → AreMade book b (length b)
  all_of h = subst (AreMade book b) (long book a b same) (all_made (length a) h)

  closed_alike : (node : Node) → IsClosedAt book (table_of book a) node
      → IsClosedAt book (table_of book b) node
  closed_alike node h = subst (λ (t : Table). IsClosedAt book t node) (table book a b same) h

  open_alike : (node : Node) (A B : Type 0) → (A → B) → IsFirstOpen book a node A
      → IsFirstOpen book b node B
  open_alike node A B to h = record {
    made = all_of h.made;
    begins = subst (λ (t : Table). IsNode t 0 (no_calls book)) (table book a b same) h.begins;
    k = h.k;
    there = ap (λ (ns : List Node). slice_get ns h.k) (sym (nodes book a b same)) ∙ h.there;
    before = λ j other less at. closed_alike other (h.before j other less
        (ap (λ (ns : List Node). slice_get ns j) (nodes book a b same) ∙ at));
    here = to h.here;
  }

  out_alike : (node : Node) (caller : ℕ) → IsFirstOut book a node caller
      → IsFirstOut book b node caller
  out_alike node caller h =
      let one = table book a b same in
      record {
        unfinished = subst (λ (t : Table). IsWhole book t node → ⊥) one h.unfinished;
        out = subst (λ (t : Table). LeadsInside book t node caller → ⊥) one h.out;
        before = λ i less. subst (λ (t : Table). LeadsInside book t node i) one (h.before i less);
      }

-- entries that say the same fail the same first test
pub faults_are_of_what_is_said : FaultsAreOfWhatIsSaid
faults_are_of_what_is_said book a b (Unlisted e) same (inl h) =
    let y = there book a b same h.k h.unmade h.there in
    inl (record {
      k = h.k;
      number = h.number;
      before = all_made book a b same h.k h.before;
      unmade = y.0;
      there = y.1;
      lacks = λ made. h.lacks (one_made book b a (sym same) h.k y.0 h.unmade (sym y.2) made);
    })
faults_are_of_what_is_said book a b (Unlisted e) same (inr h) = inr (
  h.0,
  record {
    made = all_of book a b same h.1.made;
    lacks = subst (λ (t : Table). IsNode t 0 (no_calls book) → ⊥) (table book a b same) h.1.lacks;
  },
)
faults_are_of_what_is_said book a b (Whole l c) same h =
    let node : Node = record { level = l; cut = c } in
    open_alike book a b same node (IsWhole book (table_of book a) node)
    (IsWhole book (table_of book b) node)
    (λ whole. subst (λ (t : Table). IsWhole book t node) (table book a b same) whole) h
faults_are_of_what_is_said book a b (Leads l c caller) same h =
    let node : Node = record { level = l; cut = c } in
    open_alike book a b same node (IsFirstOut book a node caller) (IsFirstOut book b node caller)
    (out_alike book a b same node caller) h
