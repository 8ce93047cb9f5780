-- The loop of `bench_cases::cases` ends: each turn takes a case off the front, which is at least its head. Assumes nothing.
use Rattle.std.proofs.Common.{length}
use Rattle.bench_cases.proofs.cases.Given as goal

abbrev pub decreases-loop-rest : goal.decreases-loop-rest
decreases-loop-rest g l = length l.rest
