use Rattle.world_laws.proofs.Projecting.{beginnings_project, books_project, runs_project}
use Rattle.world_laws.proofs.projection.runs_project.Goals as goal

pub returns-clause-runs : goal.returns-clause-runs
returns-clause-runs c = runs_project

pub returns-clause-moments : goal.returns-clause-moments
returns-clause-moments c = beginnings_project

pub returns-clause-books : goal.returns-clause-books
returns-clause-books c = books_project
