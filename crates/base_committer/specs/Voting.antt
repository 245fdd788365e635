-- The rows of each round, as the tables with their rows in order give them. Assumes nothing: this is a definition.
use Rattle.std.specs.Prelude.{ℕ, List}
use Rattle.index.specs.Rounds.{rows_of_round}
use Rattle.base_committer.specs.declared.voting.Voting.{Voting}

abbrev pub rows_in : Voting → ℕ → List ℕ
rows_in v = rows_of_round v.store.blocks.now v.order.now v.store.stored
