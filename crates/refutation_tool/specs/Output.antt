-- What the program answers to an input.
use Rattle.std.specs.Prelude.{◌≡◌, ℕ, List, ◌++◌, codes, decimal}
use Rattle.book_base.specs.declared.fault.TextFault.{TextFault}
use Rattle.refutations.specs.declared.fault.ClosedFault.TheVariants as closed
use Rattle.pair_refutations.specs.declared.entry.Move.TheVariants.{Finds, Callers}
use Rattle.pair_refutations.specs.declared.fault.PairFault.{PairFault}
use Rattle.pair_refutations.specs.declared.fault.PairFault.TheVariants as pairs
use Rattle.level_refutations.specs.declared.fault.LevelFault.{LevelFault}
use Rattle.level_refutations.specs.declared.fault.LevelFault.TheVariants as levels
use Rattle.refutation_text.specs.declared.fault.RefutationFault.{RefutationFault}
use Rattle.refutation_text.specs.declared.fault.RefutationFault.TheVariants as faults
use Rattle.refutation_text.specs.declared.verdict.RefutationVerdict.TheVariants.{Illegal, Faulty}
use Rattle.refutation_text.specs.RefutationRules.{IsFirstRefutationFault}
use Rattle.refutation_text.specs.Verdicts.{IsRefutationVerdict, IsOfIllegalBook}
use Rattle.refutation_tool.specs.declared.judge.Judge.{Judge}

-- a number after a space
abbrev pub after_space : ℕ → List ℕ
after_space n = codes " " ++ decimal n

-- the name of a fault of entries that make standings, with its numbers
abbrev pub pair_fault_words : PairFault → List ℕ
pair_fault_words pairs.Open = codes "Open"
pair_fault_words (pairs.Odd call) =
    codes "Odd" ++ after_space call.caller ++ after_space call.number
pair_fault_words (pairs.Unlisted e) = codes "Unlisted" ++ after_space e
pair_fault_words (pairs.Whole e) = codes "Whole" ++ after_space e
pair_fault_words (pairs.Leads e Finds) = codes "Leads" ++ after_space e ++ codes " find"
pair_fault_words (pairs.Leads e (Callers i j)) =
    codes "Leads" ++ after_space e ++ after_space i ++ after_space j

-- the name of a fault of entries of a table of levels, with its numbers
abbrev pub level_fault_words : LevelFault → List ℕ
level_fault_words (levels.Unlisted e) = codes "Unlisted" ++ after_space e
level_fault_words (levels.Whole l c) = codes "Whole" ++ after_space l ++ after_space c
level_fault_words (levels.Leads l c caller) =
    codes "Leads" ++ after_space l ++ after_space c ++ after_space caller

-- the name of a fault, with its numbers
abbrev pub fault_words : RefutationFault → List ℕ
fault_words (faults.Lacks s) = codes "Lacks" ++ after_space s
fault_words (faults.Open s) = codes "Open" ++ after_space s
fault_words (faults.Changes s) = codes "Changes" ++ after_space s
fault_words faults.Kind = codes "Kind"
fault_words faults.Possible = codes "Possible"
fault_words (faults.Closed (closed.Unlisted e)) = codes "Unlisted" ++ after_space e
fault_words (faults.Closed (closed.Whole e)) = codes "Whole" ++ after_space e
fault_words (faults.Closed (closed.Leads e caller)) =
    codes "Leads" ++ after_space e ++ after_space caller
fault_words (faults.Pairs why) = pair_fault_words why
fault_words (faults.Levels why) = level_fault_words why

-- the line of a fault
abbrev pub fault_text : RefutationFault → List ℕ
fault_text fault = codes "fault " ++ fault_words fault ++ codes "\n"

-- The text `illegal` is the answer to the text of a right refutation, whose book has no legal
-- order.
abbrev pub IsFineFor : Judge → List ℕ → List ℕ → Type 0
IsFineFor judge bytes text = IsRefutationVerdict bytes Illegal × IsOfIllegalBook bytes
    × (text ≡ codes "illegal\n")

-- The line of a fault is the answer to the text of a refutation with this first fault.
abbrev pub IsFoundFor : Judge → List ℕ → List ℕ → Type 0
IsFoundFor judge bytes text = (fault : RefutationFault)
    × IsRefutationVerdict bytes (Faulty fault) × (text ≡ fault_text fault)

-- An input is refused for its first fault as the text of a refutation.
abbrev pub IsFaultFor : Judge → List ℕ → TextFault → Type 0
IsFaultFor judge bytes fault = IsFirstRefutationFault bytes fault
