-- The rows that an iterator over a round has left. Assumes nothing: this is a definition.
use Rattle.std.specs.Prelude.{ℕ, ◌-◌, List}
use Rattle.index.specs.Rounds.{round_from}
use Rattle.index.specs.declared.round_rows.RoundRows.{RoundRows}

abbrev pub rows_left : RoundRows → List ℕ
rows_left s = round_from s.blocks.now s.order.now s.round.0 s.next (s.stored - s.next)
