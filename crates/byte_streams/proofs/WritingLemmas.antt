-- Lemmas on how a call that writes an output ends.
use Rattle.std.proofs.Common.{ℕ, List, Option}
use Rattle.byte_streams.specs.declared.status.Status.{Status}
use Rattle.byte_streams.specs.declared.status.Status.TheVariants.{Fine, Found, Usage, Refused, ReadFault, WriteFault, NoMemory}
use Rattle.byte_streams.specs.Writing.{EndsWriting}

-- a call that writes one of some outputs writes one of any outputs that have them among them
pub EndsWriting-weaker : (A B : Status → List ℕ → Type 0) (result : Status)
    (taken taken' : Option (List ℕ))
    → ((status : Status) (text : List ℕ) → A status text → B status text)
    → EndsWriting A result taken taken' → EndsWriting B result taken taken'
EndsWriting-weaker A B ReadFault taken taken' weaker ends = ends
EndsWriting-weaker A B NoMemory taken taken' weaker ends = ends
EndsWriting-weaker A B WriteFault taken taken' weaker ends =
    (ends.0, ends.1, weaker ends.0 ends.1 ends.2, ends.3)
EndsWriting-weaker A B Fine taken taken' weaker ends = (ends.0, weaker Fine ends.0 ends.1, ends.2)
EndsWriting-weaker A B Found taken taken' weaker ends = (ends.0, weaker Found ends.0 ends.1, ends.2)
EndsWriting-weaker A B Usage taken taken' weaker ends = (ends.0, weaker Usage ends.0 ends.1, ends.2)
EndsWriting-weaker A B Refused taken taken' weaker ends =
    (ends.0, weaker Refused ends.0 ends.1, ends.2)
