-- The names of the objects that can be run.
use Rattle.std.specs.Prelude.{ℕ, List, codes}
use Rattle.test_objects.specs.declared.behaviour.Behaviour.{Behaviour}
use Rattle.test_objects.specs.declared.behaviour.Behaviour.TheVariants.{Lawful, Tally, Cell, Lossy, Twice, Late, Invent, Split, Onepass}

-- The name of a behaviour.
unfoldable pub behaviour_name : Behaviour → List ℕ
behaviour_name Lawful = codes "lawful"
behaviour_name Tally = codes "tally"
behaviour_name Cell = codes "cell"
behaviour_name Lossy = codes "lossy"
behaviour_name Twice = codes "twice"
behaviour_name Late = codes "late"
behaviour_name Invent = codes "invent"
behaviour_name Split = codes "split"
behaviour_name Onepass = codes "onepass"
