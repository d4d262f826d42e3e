-- Standings as they are stored.
use Rattle.std.proofs.Common.{◌≡◌, ℕ, suc, ◌⊎◌, ◌↔◌, ◌&&◌, ◌||◌, ◌==◌, ◌∙◌, Bool, true, false, IsTrue, true≢false, List, [], ◌∷◌, ◌++◌, length, Some, if◌then◌else◌, inl, inr, refl, sym, ap, subst, slice_get, arith}
use Rattle.std.specs.List.{list_any}
use Rattle.std.specs.Str.{bytes_eq}
use Rattle.std.specs.Cmp.Lexicographic.{same_text, other_text}
use Rattle.std.proofs.lemmas.Bool.{cases_Bool}
use Rattle.std.proofs.lemmas.Bool.Decides.{nat_tests}
use Rattle.std.proofs.lemmas.Map.Keys.{any_passes_from_place}
use Rattle.std.proofs.lemmas.Option.{slice_get-map}
use Rattle.list_laws.proofs.Options.{map_some}
use Rattle.list_laws.proofs.Places.{slice_get-push_last, slice_get-push_old, slice_get-push_cases}
use Rattle.indexmap.specs.IndexSet.{insert_key}
use Rattle.queue_pairs.specs.declared.standing.PairState.{PairState}
use Rattle.queue_pairs.specs.Pairs.{Paired}
use Rattle.queue_pairs.specs.NextEntries.{paired}
use Rattle.queue_refutation.specs.Closed.{IsOnePaired}
use Rattle.queue_refutation.specs.DeadEnds.{listed}
use Rattle.queue_refutation.proofs.Ending.{listed-there}
use Rattle.pair_refutations.specs.declared.standings.Standings.{Standings}
use Rattle.pair_refutations.specs.Tabled.{standings_of, AreKnown, IsEarly, AreEarly}

-- whether two stored standings are the same one
abbrev pub is_same_state : PairState → PairState → Bool
is_same_state a b = bytes_eq a.puts b.puts && (bytes_eq a.takes b.takes && ((a.found == b.found)
    && ((a.put_moment == b.put_moment) && (a.take_moment == b.take_moment))))

both : (a b : Bool) → (a && b) ≡ true → (a ≡ true) × (b ≡ true)
both true b h = (refl, h)
both false b h = absurd (true≢false (sym h))

all-true : (a b c d e : Bool) → a ≡ true → b ≡ true → c ≡ true → d ≡ true → e ≡ true
    → (a && (b && (c && (d && e)))) ≡ true
all-true true true true true true h i j k l = refl
all-true false b c d e h i j k l = absurd (true≢false (sym h))
all-true true false c d e h i j k l = absurd (true≢false (sym i))
all-true true true false d e h i j k l = absurd (true≢false (sym j))
all-true true true true false e h i j k l = absurd (true≢false (sym k))
all-true true true true true false h i j k l = absurd (true≢false (sym l))

same-list : (xs ys : List ℕ) → bytes_eq xs ys ≡ true → xs ≡ ys
same-list xs ys h = same_text xs ys (sym h)

list-same : (xs ys : List ℕ) → xs ≡ ys → bytes_eq xs ys ≡ true
list-same xs ys h = elim (cases_Bool (bytes_eq xs ys)) [
  | inl equal ↦ equal
  | inr apart ↦ absurd (other_text xs ys (sym apart) h)
]

same-number : (m n : ℕ) → (m == n) ≡ true → m ≡ n
same-number m n h = grind (arith, nat_tests)

number-same : (m n : ℕ) → m ≡ n → (m == n) ≡ true
number-same m n h = grind (arith, nat_tests)

-- standings with equal parts are equal
of-parts : (a b : PairState) → a.puts ≡ b.puts → a.takes ≡ b.takes → a.found ≡ b.found
    → a.put_moment ≡ b.put_moment → a.take_moment ≡ b.take_moment → a ≡ b
of-parts a b puts takes found put_moment take_moment =
    let made : List ℕ → List ℕ → ℕ → ℕ → ℕ → PairState = λ p t f k l. record {
      puts = p;
      takes = t;
      found = f;
      put_moment = k;
      take_moment = l;
    } in
    ap (λ (p : List ℕ). made p a.takes a.found a.put_moment a.take_moment) puts
    ∙ (ap (λ (t : List ℕ). made b.puts t a.found a.put_moment a.take_moment) takes
    ∙ (ap (λ (f : ℕ). made b.puts b.takes f a.put_moment a.take_moment) found
    ∙ (ap (λ (k : ℕ). made b.puts b.takes b.found k a.take_moment) put_moment
    ∙ ap (λ (l : ℕ). made b.puts b.takes b.found b.put_moment l) take_moment)))

-- stored standings that compare as equal are equal
same-state : (a b : PairState) → is_same_state a b ≡ true → a ≡ b
same-state a b h =
    let puts = both _ _ h in
    let takes = both _ _ puts.1 in
    let found = both _ _ takes.1 in
    let moments = both _ _ found.1 in
    of-parts a b (same-list a.puts b.puts puts.0) (same-list a.takes b.takes takes.0)
    (same-number a.found b.found found.0) (same-number a.put_moment b.put_moment moments.0)
    (same-number a.take_moment b.take_moment moments.1)

state-same : (a : PairState) → is_same_state a a ≡ true
state-same a = all-true _ _ _ _ _ (list-same a.puts a.puts refl) (list-same a.takes a.takes refl)
    (number-same a.found a.found refl) (number-same a.put_moment a.put_moment refl)
    (number-same a.take_moment a.take_moment refl)

-- stored standings that stand for the same standing are equal
pub paired-one : (a b : PairState) → paired a ≡ paired b → a ≡ b
paired-one a b h = of-parts a b (ap (λ (s : Paired). s.puts) h) (ap (λ (s : Paired). s.takes) h)
    (ap (λ (s : Paired). s.found) h) (ap (λ (s : Paired). s.put_moment) h)
    (ap (λ (s : Paired). s.take_moment) h)

-- some element that passes a test is at some place
passing-place : {X : Type 0} (p : X → Bool) (xs : List X) → list_any p xs ≡ true
    → (k : ℕ) × (x : X) × (slice_get xs k ≡ Some x) × (p x ≡ true)
passing-place p [] h = absurd (true≢false (sym h))
passing-place {X} p (x ∷ xs) h = elim (cases_Bool (p x)) [
  | inl passes ↦ (0, x, refl, passes)
  | inr fails ↦
      let rest : list_any p xs ≡ true =
      sym (ap (λ (b : Bool). b || list_any p xs) fails) ∙ h in
      let found = passing-place p xs rest in
      (suc found.0, found.1, found.2, found.3)
]

-- a standing of a list of stored ones is that of a stored one
pub stored-there : (all : List PairState) (k : ℕ) (s : Paired) → slice_get (listed all) k ≡ Some s
    → (t : PairState) × (slice_get all k ≡ Some t) × (paired t ≡ s)
stored-there all k s at =
    map_some (slice_get all k) paired s (sym (slice_get-map paired all k) ∙ at)

-- A stored standing is found in the set exactly where it is one of the list.
pub has-listed : (standings : Standings) (s : PairState) → AreKnown standings
    → IsTrue (list_any (is_same_state s) standings.known.keys)
    ↔ IsOnePaired (standings_of standings) (paired s)
has-listed standings s known = (
  λ has.
      let found = passing-place (is_same_state s) standings.known.keys has in
      let one = known.known found.0 found.1 found.2 in
      subst (λ (t : PairState). IsOnePaired (standings_of standings) (paired t))
      (sym (same-state s found.1 found.3)) (listed-there standings.all.items one.0 found.1 one.1),
  λ one.
      let stored = stored-there standings.all.items one.0 (paired s) one.1 in
      let there = known.all one.0 stored.0 stored.1 in
      any_passes_from_place (is_same_state s) standings.known.keys there.0 stored.0 there.1
      (subst (λ (t : PairState). is_same_state s t ≡ true)
      (sym (paired-one stored.0 s stored.2)) (state-same s)),
)

-- the keys of a set with one more are those before, or this one
keys-cases : (keys : List PairState) (s : PairState) (k : ℕ) (found : PairState)
    → slice_get (insert_key is_same_state keys s) k ≡ Some found
    → (slice_get keys k ≡ Some found) ⊎ (found ≡ s)
keys-cases keys s k found at = elim (cases_Bool (list_any (is_same_state s) keys)) [
  | inl there ↦ inl (subst (λ (l : List PairState). slice_get l k ≡ Some found)
      (ap (λ c. if c then keys else keys ++ s ∷ []) there) at)
  | inr new ↦
      elim (slice_get-push_cases keys s k found (subst
      (λ (l : List PairState). slice_get l k ≡ Some found)
      (ap (λ c. if c then keys else keys ++ s ∷ []) new) at)) [
        | inl old ↦ inl old
        | inr last ↦ inr last.1
      ]
]

-- the keys before an insertion stay, and the one that is put in is there
keys-stay : (keys : List PairState) (s : PairState) (k : ℕ) (found : PairState)
    → slice_get keys k ≡ Some found
    → slice_get (insert_key is_same_state keys s) k ≡ Some found
keys-stay keys s k found at = elim (cases_Bool (list_any (is_same_state s) keys)) [
  | inl there ↦ subst (λ (l : List PairState). slice_get l k ≡ Some found)
      (sym (ap (λ c. if c then keys else keys ++ s ∷ []) there)) at
  | inr new ↦ subst (λ (l : List PairState). slice_get l k ≡ Some found)
      (sym (ap (λ c. if c then keys else keys ++ s ∷ []) new))
      (slice_get-push_old keys s k found at)
]

keys-new : (keys : List PairState) (s : PairState)
    → (k : ℕ) × (slice_get (insert_key is_same_state keys s) k ≡ Some s)
keys-new keys s = elim (cases_Bool (list_any (is_same_state s) keys)) [
  | inl there ↦
      let found = passing-place (is_same_state s) keys there in (
        found.0,
        keys-stay keys s found.0 s
            (subst (λ (t : PairState). slice_get keys found.0 ≡ Some t)
            (sym (same-state s found.1 found.3)) found.2),
      )
  | inr new ↦ (
    length keys,
    subst (λ (l : List PairState). slice_get l (length keys) ≡ Some s)
        (sym (ap (λ c. if c then keys else keys ++ s ∷ []) new)) (slice_get-push_last keys s),
  )
]

-- The set of the standings of a list, with one more put into both.
pub known-more : (old new : Standings) (s : PairState) → AreKnown old
    → new.all.items ≡ old.all.items ++ s ∷ []
    → new.known.keys ≡ insert_key is_same_state old.known.keys s → AreKnown new
known-more old new s known all keys = record {
  known = λ k t at.
      elim (keys-cases old.known.keys s k t
      (subst (λ (l : List PairState). slice_get l k ≡ Some t) keys at)) [
        | inl before ↦
            let there = known.known k t before in (
              there.0,
              subst (λ (l : List PairState). slice_get l there.0 ≡ Some t) (sym all)
                  (slice_get-push_old old.all.items s there.0 t there.1),
            )
        | inr same ↦ (
          length old.all.items,
          subst (λ (l : List PairState). slice_get l (length old.all.items) ≡ Some t) (sym all)
              (slice_get-push_last old.all.items s ∙ ap (λ (u : PairState). Some u) (sym same)),
        )
      ];
  all = λ k t at.
      elim (slice_get-push_cases old.all.items s k t
      (subst (λ (l : List PairState). slice_get l k ≡ Some t) all at)) [
        | inl before ↦
            let there = known.all k t before in (
              there.0,
              subst (λ (l : List PairState). slice_get l there.0 ≡ Some t) (sym keys)
                  (keys-stay old.known.keys s there.0 t there.1),
            )
        | inr last ↦
            let there = keys-new old.known.keys s in (
              there.0,
              subst (λ (l : List PairState). slice_get l there.0 ≡ Some t) (sym keys)
                  (there.1 ∙ ap (λ (u : PairState). Some u) (sym last.1)),
            )
      ];
}

pub early-more : (old new : Standings) (s : PairState) → AreEarly old → IsEarly s
    → new.all.items ≡ old.all.items ++ s ∷ [] → AreEarly new
early-more old new s early one all k t at =
    elim (slice_get-push_cases old.all.items s k t
    (subst (λ (l : List PairState). slice_get l k ≡ Some t) all at)) [
      | inl before ↦ early k t before
      | inr last ↦ subst IsEarly (sym last.1) one
    ]
