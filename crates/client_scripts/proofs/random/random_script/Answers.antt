use Rattle.std.proofs.Common.{◌≡◌, ℕ, List, sym, subst, ◌∙◌}
use Rattle.book_base.specs.declared.fault.TextFault.{TextFault}
use Rattle.book_base.specs.declared.fault.ReadFault.{ReadFault}
use Rattle.book_base.specs.declared.fault.ReadFault.TheVariants.{Text, NoMemory}
use Rattle.text_fields.specs.declared.version.Version.TheVariants.{Second}
use Rattle.client_scripts.specs.ScriptRules.{IsScriptText}
use Rattle.client_scripts.specs.Drawn.{drawn_plan}
use Rattle.client_scripts.proofs.random.random_script.Goals as goal

abbrev is_memory : ReadFault → Type 0
is_memory NoMemory = Unit {0}
is_memory (Text fault) = ⊥

pub returns-in-Ok : goal.returns-in-Ok
returns-in-Ok c =
    let plan = drawn_plan c.args.workload.now c.args.seed in
    c.in-Ok.ensures.only plan (subst (λ (bytes : List ℕ). IsScriptText Second bytes plan)
    (sym c.deref.ensures.value) c.in_ok-text.ensures)

pub unreachable-requires : goal.unreachable-requires
unreachable-requires c =
    let plan = drawn_plan c.args.workload.now c.args.seed in
    let wanted : c.in-Err-Text.field-0 ≡ NoMemory =
    c.in-Err-Text.ensures.only plan (subst (λ (bytes : List ℕ). IsScriptText Second bytes plan)
    (sym c.deref.ensures.value) c.in_ok-text.ensures) in
    subst is_memory (sym wanted ∙ c.in-Err-Text.field-0-is) tt
