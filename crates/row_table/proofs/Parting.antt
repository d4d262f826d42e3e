-- The rule holds after a local goes to a seat of its own and after it goes back, and it holds at
-- the start; and what is known by it at the end.
use Rattle.std.proofs.Common.{◌≡◌, ℕ, ◌<◌, List, [], ◌∷◌, length, map, slice_index_or, slice_set, Some, None, zero, suc, replicate, refl, sym, ap, ◌∙◌, subst, arith, inl, inr}
use Rattle.std.proofs.lemmas.List.{length-replicate}
use Rattle.std.proofs.lemmas.Bool.{cases_eq}
use Rattle.std.proofs.lemmas.Option.{none-some}
use Rattle.atomic_table.specs.Table.{Splits, Joins, opening, Final, Seen}
use Rattle.list_laws.proofs.Places.{get_or-replicate_default}
use Rattle.world_core.specs.Shape.{Shape, words_of}
use Rattle.world_core.specs.Local.{Local, fresh}
use Rattle.world_core.specs.World.{World, start, local_of}
use Rattle.world_core.specs.Calls.{AreTogether}
use Rattle.world_laws.proofs.Running.{start_is_reachable, start_kept, steps_kept}
use Rattle.row_table.specs.Holders.{has, only, whole, union_of}
use Rattle.row_table.specs.Seats.{View, the, Ruled, Together, IsWorldOf}
use Rattle.row_table.proofs.Holders.{held_left, held_joined, held_at_start, whole_is, without_here, without_else}

-- The rule holds after the local of a caller goes from a seat to a new one.
pub leaves : (s : Shape) (n id : ℕ) (v : View) (who jw : ℕ) (l : Local) → jw ≡ who
    → has v who ≡ Some l
    → Splits (Ruled s n) id v (slice_set v jw None) (only jw (the (has v jw)))
leaves s n id v who jw l is here t r at =
    record {
      counted = r.counted;
      world = r.world;
      reach = r.reach;
      words = r.words;
      wide = r.wide;
      locals = held_left (λ i m. local_of r.world i ≡ m) fresh t.views id v who jw l r.locals at is
          here;
    }

-- The rule holds after the local of a caller goes back to a seat, whose view then is joined with
-- the one that has this local alone.
pub comes_back : (s : Shape) (n id other : ℕ) (v w : View) (who : ℕ) (l : Local) → w ≡ only who l
    → has v who ≡ None → who < length v → Joins (Ruled s n) id v other w (union_of v w) []
comes_back s n id other v w who l is gone low t r at apart there =
    record {
      counted = r.counted;
      world = r.world;
      reach = r.reach;
      words = r.words;
      wide = r.wide;
      locals = held_joined (λ i m. local_of r.world i ≡ m) t.views id other v w who l r.locals at
          apart there is gone low;
    }

-- The rule holds at the start: all words are 0, and one seat has the locals of all callers.
pub ruled_at_opening : (s : Shape) (n : ℕ) (words : List ℕ) → n ≡ s.program.objects
    → words ≡ replicate (words_of s) 0 → Ruled s n (opening words [] (whole s.callers fresh))
ruled_at_opening s n words counted is =
    record {
      counted = counted;
      world = start s;
      reach = start_is_reachable s;
      words = is;
      wide = length-replicate s.callers fresh;
      locals = held_at_start (λ i l. local_of (start s) i ≡ l) s.callers fresh
          (λ i low. get_or-replicate_default s.callers i fresh);
    }

-- The locals of all callers at the start are those of one reachable world.
pub together_at_start : (s : Shape) → Together s (whole s.callers fresh)
together_at_start s =
    record {
      world = start s;
      reach = start_is_reachable s;
      wide = length-replicate s.callers fresh;
      locals_are = λ i l e. get_or-replicate_default s.callers i fresh
          ∙ (whole_is s.callers i fresh l e).1;
    }

-- Locals of one reachable world are still those of one reachable world without the local of one
-- caller.
pub together_but : (s : Shape) (v : View) (who : ℕ) → Together s v
    → Together s (slice_set v who None)
together_but s v who h =
    record {
      world = h.world;
      reach = h.reach;
      wide = h.wide;
      locals_are = λ i l e. elim (cases_eq i who) [
        | inl is ↦ absurd
            (none-some l (sym (without_here v who) ∙ ap (has (slice_set v who None)) (sym is) ∙ e))
        | inr ne ↦ h.locals_are i l (sym (without_else v who i ne) ∙ e)
      ];
    }

-- lists of locals that are equally long, with equal locals at each index, are equal
same_locals : (ls ms : List Local) → length ls ≡ length ms
    → ((i : ℕ) → i < length ls → slice_index_or ls i fresh ≡ slice_index_or ms i fresh) → ls ≡ ms
same_locals [] [] long same = refl
same_locals [] (m ∷ ms) long same = absurd (omega arith)
same_locals (l ∷ ls) [] long same = absurd (omega arith)
same_locals (l ∷ ls) (m ∷ ms) long same = λ i.
    same 0 (omega arith) i ∷ same_locals ls ms (omega arith) (λ k low. same (suc k) (omega arith)) i

length_the : (v : View) → length (map the v) ≡ length v
length_the [] = refl
length_the (x ∷ v) = ap suc (length_the v)

the_at : (v : View) (i : ℕ) → slice_index_or (map the v) i fresh ≡ the (has v i)
the_at [] i = refl
the_at (x ∷ v) zero = refl
the_at (x ∷ v) (suc i) = the_at v i

-- Where a view has the local of each caller in a world, these are all locals of the world.
pub all_locals : (v : View) (w : World) → length v ≡ length w.locals
    → ((i : ℕ) → i < length v → (l : Local) × (has v i ≡ Some l))
    → ((i : ℕ) (l : Local) → has v i ≡ Some l → local_of w i ≡ l)
    → w.locals ≡ map the v
all_locals v w long all are =
    same_locals w.locals (map the v) (sym long ∙ sym (length_the v)) (λ i low.
    let h = all i (omega (arith, long)) in are i h.0 h.1 ∙ sym (ap the h.1) ∙ sym (the_at v i))

-- Where a view has a local of each caller, and these are of one reachable world, they are all its
-- locals.
pub whole_is_together : (s : Shape) (v : View) → length v ≡ s.callers
    → ((i : ℕ) → i < s.callers → (l : Local) × (has v i ≡ Some l)) → Together s v
    → AreTogether s (map the v)
whole_is_together s v long all t = (
  t.world,
  t.reach,
  all_locals v t.world (long ∙ sym t.wide) (λ i low. all i (omega (arith, long))) t.locals_are,
)

-- At the end the words and the locals of a view that has all callers are a reachable world.
pub closes : (s : Shape) (n id : ℕ) (v : View) (words : List ℕ) (slots : List (Unit {0}))
    → length v ≡ s.callers → ((i : ℕ) → i < s.callers → (l : Local) × (has v i ≡ Some l))
    → Final (Seen (Ruled s n) id v) words slots → IsWorldOf s words (map the v)
closes s n id v words slots long all f =
    let t = f.0 in
    let r = f.1.0 in
    record {
      world = r.world;
      reach = r.reach;
      words_are = sym r.words ∙ f.2;
      locals_are = all_locals v r.world (long ∙ sym r.wide) (λ i low. all i (omega (arith, long)))
          (λ i l e. (r.locals.held i id v l f.1.1 e).1);
    }

-- The words of a reachable world are as many as its shape says.
pub world_long : (s : Shape) (words : List ℕ) (locals : List Local) → IsWorldOf s words locals
    → length words ≡ words_of s
world_long s words locals w =
    ap (λ (ws : List ℕ). length ws) (sym w.words_are)
    ∙ subst (λ (v : World). length v.words ≡ words_of s) w.reach.2
    (steps_kept s (start s) w.reach.0 (start_kept s) w.reach.1).words_long
