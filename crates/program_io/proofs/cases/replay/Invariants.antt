use Rattle.std.proofs.Common.{◌≡◌, ◌≤◌}
use Rattle.program_io.proofs.cases.replay.Given as goal

abbrev pub invariant-loop-number : goal.invariant-loop-number
invariant-loop-number g l = (l.tally.cases ≡ l.number-counter) × (l.tally.wrong ≤ l.tally.cases)
