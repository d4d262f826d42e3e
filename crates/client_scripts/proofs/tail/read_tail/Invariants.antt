use Rattle.std.proofs.Common.{◌-◌, ◌≤◌, [], length}
use Rattle.book_base.specs.declared.TheConstants.{MAX_CALLERS}
use Rattle.seq_objects.specs.declared.kind.Kind.{Kind}
use Rattle.text_fields.specs.declared.version.Version.{Version}
use Rattle.text_fields.specs.Faults.{GoesTo}
use Rattle.client_scripts.specs.ScriptRules.{InBody, script_rules}
use Rattle.client_scripts.specs.ScriptLayout.{told}
use Rattle.client_scripts.proofs.tail.read_tail.Given as goal

abbrev pub invariant-loop-line : goal.invariant-loop-line
invariant-loop-line l = record {
  goes : (version : Version) (kind : Kind)
      → GoesTo (script_rules version) (InBody kind (told l.fn.clients.items 0) []) l.fn.lines
      (InBody kind (told l.clients.items l.least) []) l.lines;
  few : length l.clients.items ≤ MAX_CALLERS;
}

abbrev pub decreases-loop-line : goal.decreases-loop-line
decreases-loop-line l = length l.clients.items - l.least
