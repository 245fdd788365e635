-- The first word that differs decides. Assumes nothing.
use Rattle.std.proofs.Common.{◌∙◌}
use Rattle.index.proofs.Turns.{less_differs, less_same, less_of}
use Rattle.index.specs.Keys.{key_at, comes_before}
use Rattle.index.proofs.keys.Keys.is_before.Goals as goal

pub returns-then-round-other_round : goal.returns-then-round-other_round
unfolding comes_before key_at
returns-then-round-other_round c = rw (← c.cell-round.ensures, ← c.cell-other_round.ensures) (less_differs _ _ _ _ c.if-round-other_round.true)

pub returns-then-authority-other_authority : goal.returns-then-authority-other_authority
unfolding comes_before key_at
returns-then-authority-other_authority c =
    rw (← c.cell-round.ensures, ← c.cell-other_round.ensures, ← c.cell-authority.ensures, ← c.cell-other_authority.ensures) (less_differs _ _ _ _ c.if-authority-other_authority.true ∙ less_same _ _ _ _ c.if-round-other_round.false)

pub returns : goal.returns
unfolding comes_before key_at
returns c =
    rw (← c.cell-round.ensures, ← c.cell-other_round.ensures, ← c.cell-authority.ensures, ← c.cell-other_authority.ensures)
    (c.is_lt.ensures ∙ less_of _ _ _ c.compare_more.ensures ∙ less_same _ _ _ _ c.if-authority-other_authority.false ∙ less_same _ _ _ _ c.if-round-other_round.false)
