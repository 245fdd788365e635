-- The comparison, asked for less, or read at once where both rows are in the table. Assumes nothing.
use Rattle.std.proofs.Common.{length, ◌∙◌, arith}
use Rattle.index.proofs.Turns.{less_of, row-whole}
use Rattle.index.specs.Keys.{comes_before}
use Rattle.index.proofs.keys.Keys.comes_before.Goals as goal

pub returns-then-self-max : goal.returns-then-self-max
unfolding comes_before
returns-then-self-max c = c.is_lt.ensures ∙ less_of _ _ _ c.compare.ensures

pub is_before-requires : goal.is_before-requires
is_before-requires c =
    let s = c.args.self.now in
    (row-whole c.args.a s.width (length s.rows.now) (omega (arith, c.if-self-max.false, c.max.ensures)) s.narrow, row-whole c.args.b s.width (length s.rows.now) (omega (arith, c.if-self-max.false, c.max.ensures)) s.narrow)
