-- Of which runs an onlooker was told.
use Rattle.std.proofs.Common.{◌≡◌, ◌∙◌, ◌++◌, ℕ, ◌+◌, List, [], ◌∷◌, Option, Some, None, append_assoc, suc, refl, sym, ap, subst, arith}
use Rattle.std.proofs.lemmas.List.{append-nil}
use Rattle.std.specs.Prelude.{option_map}
use Rattle.hunts.specs.declared.runs.Settings.{Settings}
use Rattle.client_scripts.specs.Plans.{Plan}
use Rattle.client_scripts.specs.Drawn.{drawn_plan}
use Rattle.client_scripts.specs.declared.workload.Workload.{Workload}
use Rattle.hunts.specs.Hunting.{first_news, seed_at, news_of}
use Rattle.hunts.specs.Watching.{RunNews, Begins, Ran, Hears}

-- an onlooker that is told nothing has heard what it had heard
pub hears_nothing : (before : Option (List RunNews)) → Hears before [] before
hears_nothing None = refl
hears_nothing (Some heard) = ap Some (sym (append-nil heard))

-- an onlooker is told something, and then more
pub hears_more : (before mid after : Option (List RunNews)) (news more : List RunNews)
    → Hears before news mid → Hears mid more after → Hears before (news ++ more) after
hears_more None mid after news more first second =
    second ∙ ap (option_map (λ (heard : List RunNews). heard ++ more)) first
hears_more (Some heard) mid after news more first second =
    second ∙ ap (option_map (λ (all : List RunNews). all ++ more)) first
    ∙ ap Some (append_assoc heard news more)

-- an onlooker is told of the first runs, and then of one run more
pub hears_next : (settings : Settings) (number : ℕ) (before mid after : Option (List RunNews))
    → Hears before (first_news settings number) mid
    → Hears mid (news_of settings.workload (seed_at settings number)) after
    → Hears before (first_news settings (number + 1)) after
hears_next settings number before mid after first second =
    let one_more : suc number ≡ number + 1 = omega arith in
    subst (λ (n : ℕ). Hears before (first_news settings n) after) one_more
    (hears_more before mid after (first_news settings number)
    (news_of settings.workload (seed_at settings number)) first second)

-- an onlooker is told that the run of a seed begins, and then that it was made
pub hears_run : (w : Workload) (seed : ℕ) (plan : Plan)
    (before mid after : Option (List RunNews)) → plan ≡ drawn_plan w seed
    → Hears before (Begins seed plan ∷ []) mid → Hears mid (Ran seed ∷ []) after
    → Hears before (news_of w seed) after
hears_run w seed plan before mid after is first second =
    subst (λ (p : Plan). Hears before (Begins seed p ∷ Ran seed ∷ []) after) is
    (hears_more before mid after (Begins seed plan ∷ []) (Ran seed ∷ []) first second)
