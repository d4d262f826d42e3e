-- What a caller has found stays found.
use Rattle.std.proofs.Common.{◌≡◌, suc, List, [], ◌∷◌, ◌++◌, Some, sym, subst, ◌∙◌, arith}
use Rattle.std.specs.Prelude.{Contains, slice_get}
use Rattle.std.proofs.lemmas.Option.{slice_get_within}
use Rattle.list_laws.proofs.Prefixes.{slice_get-append_within}
use Rattle.world_core.specs.Local.{Local, Given, Looked, Peeked}
use Rattle.drv_wrapper.specs.Growth.{Grows}

Contains-suffix : {X : Type 0} (more xs : List X) (x : X) → Contains xs x → Contains (more ++ xs) x
Contains-suffix [] xs x h = h
Contains-suffix (y ∷ more) xs x h = let (k, low, is) = Contains-suffix more xs x h in
    (suc k, omega arith, is)

-- new counts and words come first, new cuts last
pub grows_by : (l m : Local) (looks : List Looked) (peeks : List Peeked) (cuts : List Given)
    → m.looked ≡ looks ++ l.looked → m.peeked ≡ peeks ++ l.peeked → m.cuts ≡ l.cuts ++ cuts
    → Grows l m
grows_by l m looks peeks cuts looked peeked given =
    record {
      looked = λ x h. subst (λ (xs : List Looked). Contains xs x) (sym looked)
          (Contains-suffix looks l.looked x h);
      peeked = λ x h. subst (λ (xs : List Peeked). Contains xs x) (sym peeked)
          (Contains-suffix peeks l.peeked x h);
      cuts = λ place x h. subst (λ (xs : List Given). slice_get xs place ≡ Some x) (sym given)
          (slice_get-append_within l.cuts cuts place (slice_get_within l.cuts place x h) ∙ h);
    }

pub grows_on : (l m k : Local) → Grows l m → Grows m k → Grows l k
grows_on l m k one two =
    record {
      looked = λ x h. two.looked x (one.looked x h);
      peeked = λ x h. two.peeked x (one.peeked x h);
      cuts = λ place x h. two.cuts place x (one.cuts place x h);
    }
