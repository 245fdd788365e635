-- The comparison, asked for equal. Assumes nothing.
use Rattle.std.proofs.Common.{◌∙◌}
use Rattle.index.proofs.Turns.{equal_of}
use Rattle.index.specs.Keys.{shares_key}
use Rattle.index.proofs.keys.Keys.shares_key.Goals as goal

pub returns : goal.returns
unfolding shares_key
returns c = c.is_eq.ensures ∙ equal_of _ _ _ c.compare.ensures
