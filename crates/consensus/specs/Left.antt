-- The statuses that an iterator over words has left. Assumes nothing: this is a definition.
use Rattle.std.specs.Prelude.{List}
use Rattle.consensus.specs.Statuses.{statuses_of}
use Rattle.consensus.specs.declared.status.LeaderStatus.{LeaderStatus}
use Rattle.consensus.specs.declared.status_rows.Statuses.{Statuses}

abbrev pub statuses_left : Statuses → List LeaderStatus
statuses_left s = statuses_of s.words.now
