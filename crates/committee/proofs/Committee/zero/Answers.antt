-- The array of the code is the one of the definition.
use mathlib.Core.Path.{refl}
use Rattle.committee.specs.Committees.{no_stakes}
use Rattle.committee.proofs.Committee.zero.Goals as goal

pub returns : goal.returns
unfolding no_stakes
returns c = refl
