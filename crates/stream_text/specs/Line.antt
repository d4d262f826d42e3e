-- The lines of a stream: the words of each, and what is wrong with a line that is none.
use Rattle.std.specs.Prelude.{◌≡◌, ◌≢◌, ◌⊎◌, ℕ, ◌<◌, ◌^◌, IsTrue, List, [], ◌∷◌, ◌++◌, codes, decimal}
use Rattle.seq_objects.specs.declared.kind.Kind.{Kind}
use Rattle.seq_objects.specs.Words.{operation_words}
use Rattle.seq_objects.specs.Replies.{reply_word}
use Rattle.text_fields.specs.declared.version.Version.TheVariants.{Second}
use Rattle.text_fields.specs.Operations.{kind_operations}
use Rattle.stream_text.specs.declared.line.StreamLine.{StreamLine}
use Rattle.stream_text.specs.declared.line.StreamLine.TheVariants.{Call, Return, Lost, End}
use Rattle.stream_text.specs.declared.fault.Wrong.{Wrong}
use Rattle.stream_text.specs.declared.fault.Wrong.TheVariants as wrong

-- texts of streams have an operation
abbrev pub HasOperation : Kind → ℕ → Type 0
HasOperation kind op = IsTrue ((kind_operations Second kind).has op)

-- the words that name an object: none where its name is empty, and else `@` and the name in one
-- word
abbrev pub name_words : List ℕ → List (List ℕ)
name_words [] = []
name_words (byte ∷ name) = (64 ∷ byte ∷ name) ∷ []

-- the words don't begin with one that names an object
abbrev pub NameNone : List (List ℕ) → Type 0
NameNone words = (name : List ℕ) (rest : List (List ℕ)) → words ≢ (64 ∷ name) ∷ rest

-- the words don't begin with a number
abbrev pub BeginWithNoNumber : List (List ℕ) → Type 0
BeginWithNoNumber words = (n : ℕ) (rest : List (List ℕ)) → n < 2 ^ 64 → words ≢ decimal n ∷ rest

-- These are the words of a line of a stream of objects of a kind: a call of a process, of an
-- operation of an object, a return with a reply, a loss, or the end.
abbrev pub IsLine : Kind → List (List ℕ) → StreamLine → Type 0
IsLine kind words (Call process name op) = (process < 2 ^ 64) × HasOperation kind op
    × (words ≡ codes "call" ∷ decimal process ∷ (name_words name.now ++ operation_words kind op))
IsLine kind words (Return process reply) = (process < 2 ^ 64) × (reply < 2 ^ 64)
    × (words ≡ codes "return" ∷ decimal process ∷ reply_word reply ∷ [])
IsLine kind words (Lost process) = (process < 2 ^ 64)
    × (words ≡ codes "lost" ∷ decimal process ∷ [])
IsLine kind words End = words ≡ codes "end" ∷ []

-- the first word is that of a line with a process
abbrev pub NamesEvent : List ℕ → Type 0
NamesEvent first = (first ≡ codes "call") ⊎ (first ≡ codes "return") ⊎ (first ≡ codes "lost")

-- What is wrong with the words of a line: they aren't `end`, and begin with the name of no event;
-- what follows this name is no number, or the process of a loss isn't the last word; the word that
-- names an object is `@` alone; what follows is exactly the words of no operation; or, in a return,
-- exactly the word of no reply.
abbrev pub IsWrong : Kind → List (List ℕ) → Wrong → Type 0
IsWrong kind words wrong.Event = (words ≢ codes "end" ∷ [])
    × ((first : List ℕ) (rest : List (List ℕ)) → NamesEvent first → words ≢ first ∷ rest)
IsWrong kind words wrong.Process = (first : List ℕ) × (rest : List (List ℕ)) × NamesEvent first
    × (words ≡ first ∷ rest) × (BeginWithNoNumber rest ⊎ ((n : ℕ) × (next : List ℕ)
    × (more : List (List ℕ)) × (n < 2 ^ 64) × (first ≡ codes "lost")
    × (rest ≡ decimal n ∷ next ∷ more)))
IsWrong kind words wrong.Object = (n : ℕ) × (rest : List (List ℕ)) × (n < 2 ^ 64)
    × (words ≡ codes "call" ∷ decimal n ∷ (64 ∷ []) ∷ rest)
IsWrong kind words wrong.Op = (n : ℕ) × (name : List ℕ) × (rest : List (List ℕ)) × (n < 2 ^ 64)
    × (words ≡ codes "call" ∷ decimal n ∷ (name_words name ++ rest)) × (name ≡ [] → NameNone rest)
    × ((op : ℕ) → HasOperation kind op → rest ≢ operation_words kind op)
IsWrong kind words wrong.Reply = (n : ℕ) × (rest : List (List ℕ)) × (n < 2 ^ 64)
    × (words ≡ codes "return" ∷ decimal n ∷ rest)
    × ((reply : ℕ) → reply < 2 ^ 64 → rest ≢ reply_word reply ∷ [])
IsWrong kind words _ = ⊥
