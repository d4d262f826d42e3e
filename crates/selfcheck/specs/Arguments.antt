-- The arguments of commands: the name of a behaviour, and the number of a soak.
use Rattle.std.specs.Prelude.{ℕ, ◌&&◌, List, [], ◌∷◌, Option, Some, None, decimal, find, nat_le, if◌then◌else◌}
use Rattle.std.specs.Str.{bytes_eq}
use Rattle.std.specs.Str.Parse.{digits_value}
use Rattle.test_objects.specs.declared.behaviour.Behaviour.{Behaviour}
use Rattle.test_objects.specs.declared.behaviour.Behaviour.TheVariants.{Lawful, Tally, Cell, Lossy, Twice, Late, Invent, Split, Onepass}
use Rattle.test_objects.specs.Names.{behaviour_name}

-- All behaviours.
abbrev pub behaviours : List Behaviour
behaviours = Lawful ∷ Tally ∷ Cell ∷ Lossy ∷ Twice ∷ Late ∷ Invent ∷ Split ∷ Onepass ∷ []

-- the behaviour with this name
unfoldable pub behaviour_named : List ℕ → Option Behaviour
behaviour_named name = find (λ behaviour. bytes_eq (behaviour_name behaviour) name) behaviours

-- the number of a soak that a word spells in decimal digits without leading zeros: at most
-- 4,294,967,295
unfoldable pub soak_number : List ℕ → Option ℕ
soak_number word =
    let number = digits_value 10 word in
    if bytes_eq (decimal number) word && nat_le number 4294967295 then Some number else None
