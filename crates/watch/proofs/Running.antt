-- What a watch reads and writes, step by step.
use Rattle.std.proofs.Common.{◌≡◌, ◌∙◌, ℕ, List, [], ◌∷◌, ◌++◌, Option, refl, sym, ap, subst, append_assoc, append-nil}
use Rattle.std.specs.Io.KnownBytes.{Appends, Consumes}
use Rattle.std.proofs.KnownBytes.{Appends-nil, Appends-trans, Consumes-nil, Consumes-trans}
use Rattle.std.proofs.lemmas.Grind.{flat_map-append}
use Rattle.stream_text.specs.Source.{bytes_of}
use Rattle.seq_objects.specs.declared.kind.Kind.TheVariants as kinds
use Rattle.stream_text.specs.Stream.{Said, Due, TitleDue, nothing_of}
use Rattle.watch.specs.Output.{OutputLine, output_text}
use Rattle.watch.specs.Account.{IsOutput}
use Rattle.watch.specs.Ending.{IsLastStep, IsRun}
use Rattle.watch.specs.Timely.{IsPunctual}
use Rattle.watch.specs.Watching.{Holds}
use Rattle.watch.specs.declared.ending.Ending.{Ending}
use Rattle.watch.specs.declared.ending.Ending.TheVariants as endings
use Rattle.watch.specs.declared.watching.Watching.{Watching}
use Rattle.watch.proofs.Outputs.{text_more}
use Rattle.watch.proofs.Reading.{nothing_late}
use Rattle.watch.specs.declared.settings.Settings.{Settings}

-- A watch that goes on has read these bytes, of which some are in no line so far, and has written
-- what it holds to be said.
pub record Runs (asked : Settings) (watching : Watching) (left left' taken taken' : Option (List ℕ))
    (later : List ℕ) : Type 0 where
  pub given : List ℕ
  pub lines : List (List ℕ)
  pub due : Due
  pub said : Said
  pub output : List OutputLine
  pub reads : Consumes left left' given
  pub split : given ≡ bytes_of lines ++ later
  pub writes : Appends taken taken' (output_text output)
  pub holds : Holds asked watching lines due said output
  pub none : watching.out.items ≡ []
  pub punctual : IsPunctual asked said output

line_pushed : (lines : List (List ℕ)) (line : List ℕ)
    → bytes_of (lines ++ line ∷ []) ≡ bytes_of lines ++ (line ++ 10 ∷ [])
line_pushed lines line = flat_map-append (λ (l : List ℕ). l ++ 10 ∷ []) lines (line ∷ [])
    ∙ ap (λ (l : List ℕ). bytes_of lines ++ l) (append-nil (line ++ 10 ∷ []))

-- a line more is read
pub runs_on : (asked : Settings) (a b : Watching) (left left' left'' taken taken' taken'' : Option (List ℕ))
    (later after : List ℕ) (r : Runs asked a left left' taken taken' later)
    (given line : List ℕ) (due : Due) (said : Said) (more : List OutputLine)
    → Consumes left' left'' given → Appends taken' taken'' (output_text more)
    → later ++ given ≡ line ++ 10 ∷ after → b.out.items ≡ []
    → Holds asked b (r.lines ++ line ∷ []) due said (r.output ++ more)
    → (IsPunctual asked r.said r.output → IsPunctual asked said (r.output ++ more))
    → Runs asked b left left'' taken taken'' after
runs_on asked a b left left' left'' taken taken' taken'' later after r given line due said more
    reads writes is none holds punctual = record {
      given = r.given ++ given;
      lines = r.lines ++ line ∷ [];
      due = due;
      said = said;
      output = r.output ++ more;
      reads = Consumes-trans left left' left'' r.given given r.reads reads;
      split = ap (λ (l : List ℕ). l ++ given) r.split
          ∙ (append_assoc (bytes_of r.lines) later given
          ∙ (ap (λ (l : List ℕ). bytes_of r.lines ++ l) (is ∙ sym (append_assoc line (10 ∷ []) after))
          ∙ (sym (append_assoc (bytes_of r.lines) (line ++ 10 ∷ []) after)
          ∙ ap (λ (l : List ℕ). l ++ after) (sym (line_pushed r.lines line)))));
      writes = subst (Appends taken taken'') (sym (text_more r.output more))
          (Appends-trans taken taken' taken'' (output_text r.output) (output_text more) r.writes writes);
      holds = holds;
      none = none;
      punctual = punctual r.punctual;
    }

-- it ends
pub runs_to : (asked : Settings) (a : Watching) (left left' left'' taken taken' taken'' : Option (List ℕ))
    (later : List ℕ) (r : Runs asked a left left' taken taken' later) (given written : List ℕ)
    (ended : Ending) → Consumes left' left'' given → Appends taken' taken'' written
    → IsLastStep asked r.lines r.output (later ++ given) left'' written ended
    → (all : List ℕ) × (text : List ℕ) × Consumes left left'' all × Appends taken taken'' text
    × IsRun asked all left'' text ended
runs_to asked a left left' left'' taken taken' taken'' later r given written ended reads writes
    last = (
      r.given ++ given,
      output_text r.output ++ written,
      Consumes-trans left left' left'' r.given given r.reads reads,
      Appends-trans taken taken' taken'' (output_text r.output) written r.writes writes,
      (
        r.lines,
        r.output,
        later ++ given,
        written,
        ap (λ (l : List ℕ). l ++ given) r.split ∙ append_assoc (bytes_of r.lines) later given,
        refl,
        r.holds.output_is,
        (r.due, r.said, r.holds.reads, r.holds.says, r.punctual),
        last,
      ),
    )

-- where nothing was read
pub runs_first : (asked : Settings) (w : Watching) (left taken : Option (List ℕ)) (bytes : List ℕ)
    → bytes ≡ [] → w.out.items ≡ [] → ((said : Said) → said.names ≡ [] → said.events ≡ []
    → Holds asked w [] TitleDue said []) → Runs asked w left left taken taken bytes
runs_first asked w left taken bytes none out holds =
    let nothing = nothing_of kinds.Queue in record {
      given = [];
      lines = [];
      due = TitleDue;
      said = nothing;
      output = [];
      reads = Consumes-nil left;
      split = sym none;
      writes = Appends-nil taken;
      holds = holds nothing refl refl;
      none = out;
      punctual = nothing_late asked kinds.Queue [];
    }

-- where memory is lacking at first, nothing is read and nothing is written
pub runs_nothing : (asked : Settings) (left taken : Option (List ℕ))
    → (given : List ℕ) × (written : List ℕ) × Consumes left left given
    × Appends taken taken written × IsRun asked given left written endings.NoMemory
runs_nothing asked left taken =
    let nothing = nothing_of kinds.Queue in (
      [],
      [],
      Consumes-nil left,
      Appends-nil taken,
      (
        [],
        [],
        [],
        [],
        refl,
        refl,
        λ k one at. absurd cc,
        (TitleDue, nothing, refl, (refl, refl), nothing_late asked kinds.Queue []),
        refl,
      ),
    )
