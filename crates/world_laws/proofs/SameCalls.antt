-- A scan that takes a word leaves its caller's calls as they were.
use Rattle.std.proofs.Common.{◌≡◌, ℕ, Bool, ◌&&◌, List, [], ◌∷◌, ◌++◌, Option, Some, None, refl}
use Rattle.std.proofs.lemmas.Bool.{cond_both}
use Rattle.world_core.specs.declared.region.Region.{Region}
use Rattle.world_core.specs.declared.want.Want.{Want}
use Rattle.world_core.specs.declared.want.Want.TheVariants.{Look as Wants_look, Peek as Wants_peek, Done}
use Rattle.world_core.specs.Local.{Local, Scan}
use Rattle.world_core.specs.Scan.{wanted}
use Rattle.world_core.specs.Event.{Look, Opening, local_after, opened, fed, went_on, with_word, with_look, given_by, served, purpose_of, Purpose, For_row, For_view, For_seen, For_nothing, is_same_region, is_look_wanted}

-- The operations, the replies and the object steps of two locals are the same.
pub record SameCalls (l m : Local) : Type 0 where
  pub operations : m.operations ≡ l.operations
  pub replies : m.replies ≡ l.replies
  pub object_steps : m.object_steps ≡ l.object_steps

served_calls : (l : Local) (p : Purpose) (cut : List ℕ) → SameCalls l (served l p cut)
served_calls l For_row cut = record { operations = refl; replies = refl; object_steps = refl }
served_calls l For_view cut = record { operations = refl; replies = refl; object_steps = refl }
served_calls l For_seen cut = record { operations = refl; replies = refl; object_steps = refl }
served_calls l For_nothing cut = record { operations = refl; replies = refl; object_steps = refl }

went_on_calls : (l : Local) (scan : Scan) (want : Want) → SameCalls l (went_on l scan want)
went_on_calls l scan (Done cut) =
    let h = served_calls (record l { scan = None; cuts = l.cuts ++ given_by scan cut ∷ [] })
    (purpose_of l.phase l.staged scan) cut in
    record { operations = h.operations; replies = h.replies; object_steps = h.object_steps }
went_on_calls l scan (Wants_look i) =
    record { operations = refl; replies = refl; object_steps = refl }
went_on_calls l scan (Wants_peek i k e) =
    record { operations = refl; replies = refl; object_steps = refl }

-- a word that the scan under way takes leaves the calls as they were
pub fed_calls : (n : ℕ) (l : Local) (o : Option Scan) (q : Region) (is_it : Want → Bool) (x : ℕ)
    → SameCalls l (fed n l o q is_it x)
fed_calls n l None q is_it x = record { operations = refl; replies = refl; object_steps = refl }
fed_calls n l (Some scan) q is_it x =
    cond_both (is_same_region scan.region q && is_it (wanted n scan.taken))
    (went_on l (with_word scan x) (wanted n (with_word scan x).taken)) l
    (λ (m : Local). SameCalls l m)
    (λ _. went_on_calls l (with_word scan x) (wanted n (with_word scan x).taken))
    (λ _. record { operations = refl; replies = refl; object_steps = refl })

-- a look leaves the calls as they were, but for what it opens
pub looked_calls : (n : ℕ) (l : Local) (q : Region) (j x : ℕ) (o : Opening)
    → SameCalls (opened l q o) (local_after n l (Look q j x o))
looked_calls n l q j x o =
    let h = fed_calls n (with_look (opened l q o) (record { region = q; caller = j; count = x }))
    (opened l q o).scan q (is_look_wanted j) x in
    record { operations = h.operations; replies = h.replies; object_steps = h.object_steps }
