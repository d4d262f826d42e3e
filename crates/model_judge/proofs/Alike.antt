-- Tables that tell the same have the same objects that agree, and the same asks.
use Rattle.std.proofs.Common.{ℕ, List, [], ◌∷◌, sym, subst, ◌∙◌, ap}
use Rattle.std.specs.Prelude.{Vec}
use Rattle.std.specs.declared.alloc.Global.{Global}
use Rattle.book_base.specs.declared.call.Place.{Place}
use Rattle.book_base.specs.SeqSpec.{SeqSpec}
use Rattle.book_base.specs.Book.{Page}
use Rattle.told_models.specs.declared.answer.Answer.TheVariants as told
use Rattle.told_models.specs.Table.{Table, KeepsPromises}
use Rattle.told_models.specs.Completion.{completion}
use Rattle.told_models.proofs.Agreeing.{completions_agree}
use Rattle.told_models.specs.Agreement.{Agrees}
use Rattle.told_models.specs.Closed.{Leads, IsNear, IsWordOf, number_of_calls}
use Rattle.told_models.specs.Answers.{IsRightAnswer}
use Rattle.model_text.specs.declared.told_line.ToldLine.{ToldLine}
use Rattle.model_text.specs.Told.{told_table, TellsAlike}
use Rattle.model_judge.specs.declared.judging.ModelVerdict.TheVariants.{Legal, Illegal, Open}
use Rattle.model_text.specs.ModelRules.{IsModelText}
use Rattle.model_judge.specs.Verdicts.{IsModelVerdict}

-- an object that agrees with a table agrees with one that tells the same
pub agrees_alike : (a b : Table) (spec : SeqSpec) → TellsAlike a b → Agrees a spec → Agrees b spec
agrees_alike a b spec h (list_of, k) = (
  list_of,
  record {
    init = k.init ∙ ap list_of h.init;
    steps = λ state op transition e. k.steps state op transition (h.steps state op ∙ e);
    promises = λ op reply p. k.promises op reply ((h.promises op reply).1 p);
  },
)

-- some object agrees with a table that tells what a table with kept promises tells
some_agrees : (a b : Table) → TellsAlike a b → KeepsPromises b → (spec : SeqSpec) × Agrees a spec
some_agrees a b h keeps = (
  completion a,
  completions_agree a (λ state op transition e p.
      keeps state op transition (sym (h.steps state op) ∙ e)
      ((h.promises op transition.reply).0 p)),
)

leads_alike : (a b : Table) → TellsAlike a b → (from : ℕ) (steps : List (ℕ × ℕ)) (to : ℕ)
    → Leads b from steps to → Leads a from steps to
leads_alike a b h from [] to k = k
leads_alike a b h from (step ∷ steps) to (transition, told, reply, rest) =
    (transition, h.steps from step.0 ∙ told, reply, leads_alike a b h transition.next steps to rest)

near_alike : (a b : Table) (IsWord : ℕ → Type 0) (most state : ℕ) → TellsAlike a b
    → IsNear b IsWord most state → IsNear a IsWord most state
near_alike a b IsWord most state h k = record {
  steps = k.steps;
  few = k.few;
  words = k.words;
  reached = subst (λ (from : ℕ). Leads a from k.steps state) (sym h.init)
      (leads_alike a b h b.init k.steps state k.reached);
}

module _ (bytes : List ℕ) (pages : List Page) (lines : List ToldLine) (table : Table)
    (read : IsModelText bytes pages lines) (h : TellsAlike (told_table lines) table)
    (keeps : KeepsPromises table) where
  pub verdict_is_legal : (order : Vec Place Global) → IsRightAnswer table pages (told.Legal order)
      → IsModelVerdict bytes Legal
  unfolding IsModelVerdict
  verdict_is_legal order k = (
    pages,
    lines,
    read,
    some_agrees (told_table lines) table h keeps,
    λ spec agrees.
        (order.items, k spec (agrees_alike (told_table lines) table spec h agrees)),
  )

  pub verdict_is_illegal : IsRightAnswer table pages told.Illegal → IsModelVerdict bytes Illegal
  unfolding IsModelVerdict
  verdict_is_illegal k = (
    pages,
    lines,
    read,
    some_agrees (told_table lines) table h keeps,
    λ spec agrees. k spec (agrees_alike (told_table lines) table spec h agrees),
  )

  pub verdict_is_open : (state op : ℕ) → IsRightAnswer table pages (told.Ask state op)
      → IsModelVerdict bytes (Open state op)
  unfolding IsModelVerdict
  verdict_is_open state op k = (
    pages,
    lines,
    read,
    some_agrees (told_table lines) table h keeps,
    record {
      untold = h.steps state op ∙ k.untold;
      word = k.word;
      near = near_alike (told_table lines) table (IsWordOf pages) (number_of_calls pages) state h
          k.near;
    },
  )
