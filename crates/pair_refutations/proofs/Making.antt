-- Standings that entries make are determined, and one more entry makes one more.
use Rattle.std.proofs.Common.{◌≡◌, ℕ, zero, suc, ◌+◌, ◌<◌, ◌≤◌, ◌∙◌, List, [], ◌∷◌, ◌++◌, length, get_or, Some, sym, ap, subst, inl, inr, slice_get, arith}
use Rattle.std.proofs.lemmas.List.{length_push, ext_get_or}
use Rattle.std.proofs.lemmas.Option.{same_Some, slice_get_within, slice_get-get_or}
use Rattle.list_laws.proofs.Places.{slice_get-push_old, slice_get-push_cases}
use Rattle.book_base.specs.declared.TheConstants.{MAX_CALLERS}
use Rattle.book_base.specs.Book.{Page}
use Rattle.legal_orders.specs.Container.{Reading}
use Rattle.queue_pairs.specs.Pairs.{Paired, Pair, Pairs, FindNothing, after, none_paired}
use Rattle.pair_refutations.specs.declared.entry.Move.{Move}
use Rattle.pair_refutations.specs.declared.entry.Move.TheVariants.{Finds, Callers}
use Rattle.pair_refutations.specs.declared.entry.PairEntry.{PairEntry}
use Rattle.pair_refutations.specs.Moves.{MovesTo}
use Rattle.pair_refutations.specs.Closed.{MakesOf, AreMade}
use Rattle.pair_refutations.proofs.Moving.{pair-one, find-one}

-- a move leads to one standing
pub move-one : (reading : Reading) (book : List Page) (s : Paired) (move : Move) (a b : Paired)
    → MovesTo reading book s move a → MovesTo reading book s move b → a ≡ b
move-one reading book s Finds a b m n =
    m.2 ∙ (ap (λ (g : ℕ). after s (FindNothing g)) (find-one reading book s m.0 n.0 m.1 n.1)
    ∙ sym n.2)
move-one reading book s (Callers i j) a b m n =
    m.3 ∙ (ap (λ (p : Pair). after s (Pairs p))
    (pair-one reading book s i j m.0 n.0 m.1 n.1 m.2 n.2) ∙ sym n.3)

up : (j : ℕ) → suc j ≡ j + 1
up j = omega arith

-- entries make, up to each number, the same standings
made-below : (reading : Reading) (book : List Page) (entries : List PairEntry) (k l : ℕ)
    (xs ys : List Paired) → AreMade reading book entries k xs → AreMade reading book entries l ys
    → (n j : ℕ) (x y : Paired) → j < n → slice_get xs j ≡ Some x → slice_get ys j ≡ Some y → x ≡ y
made-below reading book entries k l xs ys a b zero j x y less at bt = absurd (omega (arith, less))
made-below reading book entries k l xs ys a b (suc n) zero x y less at bt =
    same_Some x y (sym at ∙ (a.first ∙ (sym b.first ∙ bt)))
made-below reading book entries k l xs ys a b (suc n) (suc j) x y less at bt =
    let m = a.each j x (subst (λ (i : ℕ). slice_get xs i ≡ Some x) (up j) at) in
    let o = b.each j y (subst (λ (i : ℕ). slice_get ys i ≡ Some y) (up j) bt) in
    let entry : m.0 ≡ o.0 = same_Some m.0 o.0 (sym m.1 ∙ o.1) in
    let item : m.0.item ≡ o.0.item = ap (λ (e : PairEntry). e.item) entry in
    let base : m.3.0 ≡ o.3.0 = made-below reading book entries k l xs ys a b n m.0.item m.3.0 o.3.0
    (omega (arith, m.2, less)) m.3.1 (ap (slice_get ys) item ∙ o.3.1) in
    let there : MovesTo reading book m.3.0 m.0.by y =
    subst (λ (e : PairEntry). MovesTo reading book m.3.0 e.by y) (sym entry)
    (subst (λ (s : Paired). MovesTo reading book s o.0.by y) (sym base) o.3.2) in
    move-one reading book m.3.0 m.0.by x y m.3.2 there

-- entries make one list of standings
pub made-one : (reading : Reading) (book : List Page) (entries : List PairEntry) (k : ℕ)
    (xs ys : List Paired) → AreMade reading book entries k xs → AreMade reading book entries k ys
    → xs ≡ ys
made-one reading book entries k xs ys a b =
    let d : Paired = none_paired MAX_CALLERS in
    ext_get_or d xs ys (omega (arith, a.long, b.long)) (λ i less.
    made-below reading book entries k k xs ys a b (i + 1) i (get_or xs i d) (get_or ys i d)
    (omega arith) (slice_get-get_or xs i d less)
    (slice_get-get_or ys i d (omega (arith, less, a.long, b.long))))

-- what makes a standing of some standings makes it of more
makes-more : (reading : Reading) (book : List Page) (standings : List Paired) (s : Paired)
    (entry : PairEntry) (next : Paired) → MakesOf reading book standings entry next
    → MakesOf reading book (standings ++ s ∷ []) entry next
makes-more reading book standings s entry next m =
    (m.0, slice_get-push_old standings s entry.item m.0 m.1, m.2)

-- one more entry makes one more standing
pub made-more : (reading : Reading) (book : List Page) (entries : List PairEntry) (k : ℕ)
    (standings : List Paired) (entry : PairEntry) (next : Paired)
    → AreMade reading book entries k standings → slice_get entries k ≡ Some entry
    → MakesOf reading book standings entry next
    → AreMade reading book entries (k + 1) (standings ++ next ∷ [])
made-more reading book entries k standings entry next h at makes = record {
  long = omega (arith, h.long, length_push standings next);
  first = slice_get-push_old standings next 0 (none_paired MAX_CALLERS) h.first;
  each = λ j s there. elim (slice_get-push_cases standings next (j + 1) s there) [
    | inl old ↦
        let m = h.each j s old in
        (m.0, m.1, m.2, makes-more reading book standings next m.0 s m.3)
    | inr last ↦
        let here : k ≡ j = omega (arith, last.0, h.long) in
        let low : entry.item < length standings =
        slice_get_within standings entry.item makes.0 makes.1 in (
          entry,
          subst (λ (n : ℕ). slice_get entries n ≡ Some entry) here at,
          omega (arith, low, h.long, here),
          subst (MakesOf reading book (standings ++ next ∷ []) entry) (sym last.1)
              (makes-more reading book standings next entry next makes),
        )
  ];
}

-- Of entries that make standings each makes one of those that the entries before it make.
pub made-before : (reading : Reading) (book : List Page) (entries : List PairEntry) (n k : ℕ)
    (all some : List Paired) (entry : PairEntry) → AreMade reading book entries n all → k < n
    → AreMade reading book entries k some → slice_get entries k ≡ Some entry
    → (next : Paired) × MakesOf reading book some entry next
made-before reading book entries n k all some entry made less part at =
    let d : Paired = none_paired MAX_CALLERS in
    let next : Paired = get_or all (k + 1) d in
    let m = made.each k next (slice_get-get_or all (k + 1) d (omega (arith, less, made.long))) in
    let same : m.0 ≡ entry = same_Some m.0 entry (sym m.1 ∙ at) in
    let item : ℕ = m.0.item in
    let inside : item < length some = omega (arith, m.2, part.long) in
    let there : slice_get some item ≡ Some (get_or some item d) =
    slice_get-get_or some item d inside in
    let base : m.3.0 ≡ get_or some item d = made-below reading book entries n k all some made part
    (item + 1) item m.3.0 (get_or some item d) (omega arith) m.3.1 there in
    let makes : MakesOf reading book some m.0 next =
    (m.3.0, there ∙ ap (λ (s : Paired). Some s) (sym base), m.3.2) in
    (next, subst (λ (e : PairEntry). MakesOf reading book some e next) same makes)

-- entries that make standings are there
pub made-within : (reading : Reading) (book : List Page) (entries : List PairEntry) (k : ℕ)
    (standings : List Paired) → AreMade reading book entries k standings → k ≤ length entries
made-within reading book entries zero standings made = omega arith
made-within reading book entries (suc j) standings made =
    let d : Paired = none_paired MAX_CALLERS in
    let m = made.each j (get_or standings (j + 1) d)
    (slice_get-get_or standings (j + 1) d (omega (arith, made.long))) in
    omega (arith, slice_get_within entries j m.0 m.1)
