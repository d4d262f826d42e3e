use Rattle.work_halves.proofs.Halves.{all_zip-of_parts}
use Rattle.work_halves.proofs.+halves.Goals as goal

pub work_all-returns-in_default : goal.work_all-returns-in_default
work_all-returns-in_default g t c = all_zip-of_parts _ _ _ _ _ _ c.split_at_mut-prefix.ensures.value
    c.work_beside.ensures.prefix c.work_beside.ensures.suffix
